-- `are_allowed`: the span so far and what is left of the heights answer as all of them.
use Prim.Native.Nat.{◌+◌, ◌-◌}
use mathlib.Core.Path.{◌≡◌}
use Rattle.octets.specs.Choice.{both}
use Rattle.posts.specs.Spans.{span_in_range}
use Rattle.column_writer.specs.Judged.{heights_allowed}
use Rattle.column_writer.proofs.judge.are_allowed.Given as goal

abbrev pub invariant-loop-i : goal.invariant-loop-i
invariant-loop-i g l =
    let heights = g.H.Heights.given l.heights in
    both (span_in_range l.lowest l.highest) (heights_allowed l.voids heights (l.from + l.i) (l.n - l.i)) ≡ heights_allowed l.voids heights l.from l.n
