-- `width`: the digits counted so far and those of what is left are one more than all of them.
use Prim.Native.Nat.{◌+◌, ◌≤◌}
use Rattle.printing.specs.Line.{width_of}
use mathlib.Core.Path.{◌≡◌}
use Rattle.printing.proofs.lines.width.Given as goal

abbrev pub invariant-loop-rest : goal.invariant-loop-rest
invariant-loop-rest l = (l.n + width_of l.rest ≡ width_of l.v + 1) × (width_of l.v ≤ 20)

abbrev pub decreases-loop-rest : goal.decreases-loop-rest
decreases-loop-rest l = l.rest
