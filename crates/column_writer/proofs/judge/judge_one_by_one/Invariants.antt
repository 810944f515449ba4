-- `judge_one_by_one`: what is left of the heights answers as all from the first on that is looked at.
use Rattle.std.proofs.Common.{◌≡◌, ◌-◌, Ok}
use Rattle.column_writer.specs.Judged.{heights_from_then}
use Rattle.column_writer.proofs.judge.judge_one_by_one.Given as goal

abbrev pub invariant-loop-i : goal.invariant-loop-i
invariant-loop-i g l =
    let heights = g.H.Heights.given l.heights in
    heights_from_then l.voids heights l.i (l.posts - l.i) (Ok tt) ≡ heights_from_then l.voids heights l.from (l.posts - l.from) (Ok tt)
