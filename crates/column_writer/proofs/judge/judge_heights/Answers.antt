-- `judge_heights`: what is left after the parts so far answers as all heights.
use Rattle.std.proofs.Common.{◌≡◌, ◌-◌, Ok, sym, ◌∙◌, arith}
use native.Mathlib.Nat.{sub-zero}
use Rattle.octets.proofs.SearchLaws.{search_end}
use Rattle.column_writer.specs.Judged.{heights_then}
use Rattle.column_writer.proofs.HeightParts.{test, refusal, part_passed, all_passed}
use Rattle.column_writer.proofs.judge.judge_heights.Goals as goal

pub loop-from-init : goal.loop-from-init
unfolding heights_then
loop-from-init g c = rw sub-zero

-- a whole part
pub loop-from-preserved : goal.loop-from-preserved
loop-from-preserved g c =
    let a = c.args in
    let n : c.min.result ≡ 1024 = omega (arith, c.min.ensures) in
    sym (part_passed a.voids (g.H.Heights.given a.heights) c.loop-from.from 1024 a.posts (Ok tt) (omega arith) (rw n at (sym c.are_allowed.ensures ∙ c.if-not-are_allowed.false)))
    ∙ c.loop-from.invariant

-- no part at all
pub returns : goal.returns
returns g c =
    let a = c.args in
    sym (search_end (test a.voids (g.H.Heights.given a.heights)) refusal (Ok tt) c.loop-from.from a.posts c.loop-from-test.false) ∙ c.loop-from.invariant

-- the last part
pub returns-else-not-are_allowed : goal.returns-else-not-are_allowed
returns-else-not-are_allowed g c =
    let a = c.args in
    let n : c.min.result ≡ a.posts - c.loop-from.from = omega (arith, c.min.ensures) in
    sym (all_passed a.voids (g.H.Heights.given a.heights) c.loop-from.from a.posts (Ok tt) (omega arith) (rw n at (sym c.are_allowed.ensures ∙ c.if-not-are_allowed.false)))
    ∙ c.loop-from.invariant
