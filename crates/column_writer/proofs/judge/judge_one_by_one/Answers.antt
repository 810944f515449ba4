-- `judge_one_by_one`: what is left of the heights answers as all from the first on that is looked at.
use Rattle.std.specs.Prelude.{Ok}
use Rattle.octets.proofs.SearchLaws.{search_on, search_stop, search_end}
use Rattle.column_writer.proofs.HeightParts.{test, refusal}
use borrow.Author.Rules.{rules}
use borrow.Author.Tests.{not-true, not-false}
use mathlib.Core.Path.{◌≡◌, sym, ◌∙◌}
use mir.Facts.{to_z-of_z}
use mir.Syntax.{w16, w64}
use mir.Val.{SFits, to_z, of_z}
use native.Mathlib.Omega.{arith}
use Rattle.column_writer.proofs.judge.judge_one_by_one.Given.{Over}
use Rattle.column_writer.proofs.judge.judge_one_by_one.Goals as goal
use Rattle.column_writer.proofs.judge.judge_one_by_one.Goals.{After-is_allowed}

-- whether the height may be held is what was found
found : (g : Over) (c : After-is_allowed g) → test c.args.voids (g.H.Heights.given c.args.heights) c.loop-i.i ≡ c.is_allowed.result
found g c =
    let z = c.at.result in
    let back : to_z w16 (of_z w16 z) ≡ z = to_z-of_z {w = w16} (record { sfits = c.at.type_inv }) in
    let fits : SFits w64 c.from.result = record { sfits = c.from.type_inv } in
    sym (rw (to_z-of_z fits, c.from.ensures, back, c.at.ensures) at c.is_allowed.ensures)

pub returns-then-not-is_allowed : goal.returns-then-not-is_allowed
returns-then-not-is_allowed g c =
    let a = c.args in
    sym (search_stop (test a.voids (g.H.Heights.given a.heights)) refusal (Ok tt) c.loop-i.i a.posts (omega arith) (found g (goal.at.returns-then-not-is_allowed g c).After-is_allowed ∙ not-true _ (search rules)))
    ∙ c.loop-i.invariant

pub loop-i-preserved : goal.loop-i-preserved
loop-i-preserved g c =
    let a = c.args in
    sym (search_on (test a.voids (g.H.Heights.given a.heights)) refusal (Ok tt) c.loop-i.i a.posts (omega arith) (found g (goal.at.loop-i-preserved g c).After-is_allowed ∙ not-false _ (search rules)))
    ∙ c.loop-i.invariant

pub returns : goal.returns
returns g c =
    let a = c.args in
    sym (search_end (test a.voids (g.H.Heights.given a.heights)) refusal (Ok tt) c.loop-i.i a.posts c.loop-i-test.false) ∙ c.loop-i.invariant
