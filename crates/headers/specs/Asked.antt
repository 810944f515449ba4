-- What functions of this crate ask of their callers.
use Rattle.std.specs.Prelude.{ℕ, ◌+◌, ◌<◌, ◌≤◌, ◌≡◌, List, length}
use Rattle.layout.specs.Grid.{header_bytes}
use Rattle.angles.specs.declared.Axis.{Axis}
use Rattle.due.specs.declared.Basis.{Basis}
use Rattle.rules.specs.Asked.{BasisInRange}
use Rattle.headers.specs.Basis.{latitude_in}

-- the field of an origin in the UHL, and an axis of at most 180 degrees to a side
pub record OriginField (axis : Axis) (field : List ℕ) : Type 0 where
  pub wide : length field ≡ 8
  pub most : axis.most ≤ 180

-- such a field at an offset
pub record OriginThere (axis : Axis) (s : List ℕ) (at : ℕ) : Type 0 where
  pub there : at + 8 ≤ length s
  pub most : axis.most ≤ 180

-- headers that are there whole, with a latitude in range
pub record LatitudeInRange (s : List ℕ) : Type 0 where
  pub whole : header_bytes ≤ length s
  pub latitude : latitude_in s < 180

-- headers that are there whole, rows of the table from one up to another, and a basis in range
pub record RowsToJudge (s : List ℕ) (b : Basis) (from to : ℕ) : Type 0 where
  pub ordered : from ≤ to
  pub rows : to ≤ 40
  pub whole : header_bytes ≤ length s
  pub basis : BasisInRange b

-- headers that are there whole, a row of the table, and a basis in range
pub record RowToTell (s : List ℕ) (b : Basis) (row : ℕ) : Type 0 where
  pub below : row < 40
  pub whole : header_bytes ≤ length s
  pub basis : BasisInRange b
