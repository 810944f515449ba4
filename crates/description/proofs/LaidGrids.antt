-- A description in range has a grid: its level is one, and its near edge lies in a zone.
use Prim.Native.Nat.{ℕ}
use mathlib.Core.Path.{◌≡◌}
use mathlib.Core.Bool.{true}
use Rattle.layout.specs.Asked.{HasGrid}
use Rattle.layout.specs.Zones.{edge_of}
use Rattle.description.specs.Items.{in_range}
use Rattle.description.specs.declared.Description.{Description}
use Rattle.layout.proofs.NearEdges.{edge_below}
use Rattle.description.proofs.RangedItems.{ranged_items}

pub edge_within : (d : Description) (edge : ℕ) → edge ≡ edge_of d.latitude → in_range d ≡ true → HasGrid d.level edge
edge_within d edge e r = let i = ranged_items d r in record { level = i.level; edge = rw e (edge_below d.latitude i.latitude) }
