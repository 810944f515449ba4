-- What functions of this crate ask of their callers.
use Rattle.std.specs.Prelude.{ℕ, ◌<◌, ◌≤◌, ◌≡◌, List, length}
use Rattle.layout.specs.Levels.{column_bytes}
use Rattle.columns.specs.Column.{Summed}

-- a column of so many posts, not too many, with its checksum right, and one of its posts
pub record Storable (s : List ℕ) (posts p : ℕ) : Type 0 where
  pub long : length s ≡ column_bytes posts
  pub inside : p < posts
  pub few : posts ≤ 3601
  pub checksum : Summed s posts
