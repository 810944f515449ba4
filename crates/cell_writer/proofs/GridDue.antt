-- The grid that a description in range makes due: within what a grid can be, and as many bytes as its columns have.
use Prim.Native.Nat.{ℕ, ◌+◌, ◌*◌}
use mathlib.Core.Path.{◌≡◌, ap, ◌∙◌}
use mathlib.Core.Bool.{true}
use Rattle.layout.specs.Grid.{header_bytes}
use Rattle.layout.specs.Levels.{column_bytes}
use Rattle.layout.specs.declared.Grid.{Grid}
use Rattle.layout.specs.Ranges.{Ranged}
use Rattle.layout.proofs.Ranges.{ranged}
use Rattle.layout.specs.Zones.{edge_of}
use Rattle.description.specs.Items.{in_range}
use Rattle.description.specs.Facts.{basis_of, facts_for}
use Rattle.description.specs.declared.Description.{Description}
use Rattle.layout.proofs.NearEdges.{edge_below}
use Rattle.description.proofs.RangedItems.{ranged_items}

pub due_ranged : (d : Description) → in_range d ≡ true → (g : Grid) → g ≡ (facts_for d).grid → Ranged g
unfolding facts_for basis_of
due_ranged d e g due =
    let i = ranged_items d e in
    rw due (ranged d.level (edge_of d.latitude) i.level (edge_below d.latitude i.latitude))

pub columns_bytes : (g : Grid) → Ranged g → g.bytes.cell ≡ header_bytes + g.columns * column_bytes g.posts
columns_bytes g r = r.cell ∙ ap (λ (m : ℕ). header_bytes + g.columns * m) r.column
