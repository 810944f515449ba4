-- `judge_heights`: what is left after the parts so far answers as all heights.
use Rattle.std.proofs.Common.{◌≡◌, ◌-◌, Ok}
use Rattle.column_writer.specs.Judged.{heights_from_then, heights_then}
use Rattle.column_writer.proofs.judge.judge_heights.Given as goal

abbrev pub invariant-loop-from : goal.invariant-loop-from
invariant-loop-from g l =
    let heights = g.H.Heights.given l.heights in
    heights_from_then l.voids heights l.from (l.posts - l.from) (Ok tt) ≡ heights_then l.voids heights l.posts (Ok tt)
