-- What functions of this crate ask of their callers.
use Rattle.std.specs.Prelude.{◌≡◌, ℕ, ◌+◌, ◌*◌, ◌^◌, ◌<◌, ◌≤◌, List, length, take}
use Rattle.octets.specs.Sums.{sum_of}
use Rattle.layout.specs.Levels.{column_bytes}
use Rattle.sources.specs.Heights.{Heights, count_of}
use Rattle.columns.specs.Column.{sum_at}

-- a column that is there whole, so short that 32 bits hold its sum, and an end of it that 64 bits hold
pub record Whole (column : List ℕ) (posts base : ℕ) : Type 0 where
  pub long : length column ≡ column_bytes posts
  pub few : posts ≤ 3601
  pub end : base + column_bytes posts < 2 ^ 64

-- such a column, wherever it ends
pub record Full (column : List ℕ) (posts : ℕ) : Type 0 where
  pub long : length column ≡ column_bytes posts
  pub few : posts ≤ 3601

-- such a column and end, and the sum of what stands before its checksum
pub record WholeSummed (column : List ℕ) (posts base sum : ℕ) : Type 0 where
  pub long : length column ≡ column_bytes posts
  pub few : posts ≤ 3601
  pub end : base + column_bytes posts < 2 ^ 64
  pub summed : sum ≡ sum_of (take (sum_at posts) column)

-- so many heights from height `first` on, and an end of theirs that 64 bits hold
pub record Reaches (g : Heights) (first posts : ℕ) : Type 0 where
  pub there : first + posts ≤ count_of g
  pub end : first + posts < 2 ^ 64

-- such heights, so few that 16 bits hold the sum of their words' high bytes, and that of their low bytes, and room for their words from `at` on
pub record PartFits (out : List ℕ) (at : ℕ) (g : Heights) (first n : ℕ) : Type 0 where
  pub heights : Reaches g first n
  pub few : n ≤ 256
  pub room : at + 2 * n ≤ length out

-- such heights, so few that 32 bits hold the sum of their words' bytes, and room for their words after a preamble
pub record WordsFit (out : List ℕ) (g : Heights) (first posts : ℕ) : Type 0 where
  pub heights : Reaches g first posts
  pub few : posts ≤ 3601
  pub room : sum_at posts ≤ length out

-- room for a preamble, and a number that it can hold
pub record PreambleFits (out : List ℕ) (number : ℕ) : Type 0 where
  pub room : 8 ≤ length out
  pub small : number < 65536

-- such heights, bytes of their column's length, and a number that its preamble can hold
pub record ColumnFits (out : List ℕ) (number : ℕ) (g : Heights) (first posts : ℕ) : Type 0 where
  pub heights : Reaches g first posts
  pub long : length out ≡ column_bytes posts
  pub few : posts ≤ 3601
  pub small : number < 65536
