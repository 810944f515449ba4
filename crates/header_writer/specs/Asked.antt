-- What functions of this crate ask of their callers.
use Rattle.std.specs.Prelude.{ℕ, ◌≤◌, ◌≡◌, true, List, length}
use Rattle.layout.specs.Grid.{header_bytes}
use Rattle.layout.specs.declared.Grid.{Grid}
use Rattle.due.specs.Asked.{OriginInRange}
use Rattle.due.specs.declared.Basis.{Basis}
use Rattle.description.specs.Facts.{basis_of}
use Rattle.description.specs.Items.{in_range}
use Rattle.description.specs.declared.Description.{Description}

-- n bytes to fill by a description, the basis that it gives, and its origin in range
pub record ToFill (n : ℕ) (bytes : List ℕ) (d : Description) (b : Basis) : Type 0 where
  pub wide : length bytes ≡ n
  pub basis : b ≡ basis_of d
  pub origin : OriginInRange d.latitude d.longitude

-- room for the headers, a description whose items are in range, and the grid that it makes due
pub record HeadersFit (out : List ℕ) (d : Description) (g : Grid) : Type 0 where
  pub room : header_bytes ≤ length out
  pub ranged : in_range d ≡ true
  pub grid : g ≡ (basis_of d).grid
