-- `in_zones`: no zone so far has the number.
use Prim.Native.Nat.{ℕ}
use mathlib.Core.Path.{◌≡◌}
use mathlib.Core.Bool.{false}
use lib.Dec.{eqb}
use Rattle.octets.specs.Tests.{some_below}
use Rattle.layout.specs.Grid.{grid_of}
use Rattle.layout.specs.Zones.{last_edge}
use Rattle.due.specs.Due.{number_of}
use Rattle.faults.proofs.ever.in_zones.Given as goal

abbrev pub invariant-loop-zone : goal.invariant-loop-zone
invariant-loop-zone l = some_below (λ (zone : ℕ). eqb (number_of l.name (grid_of l.level (last_edge zone))) l.v) l.zone ≡ false
