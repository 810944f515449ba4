-- Where the columns of a grid lie in bytes: the next start, small numbers, and columns that are there whole.
use Prim.Native.Nat.{ℕ, ◌+◌, ◌-◌, ◌*◌, ◌≤◌, ◌<◌}
use native.Mathlib.Nat.{add-mul, add-sub_cancel_left, mul-le-mul, mul-le-mul_right, le_of_lt}
use native.Mathlib.Omega.{arith}
use mathlib.Core.Path.{◌≡◌, ◌∙◌}
use mathlib.Core.List.{List}
use lib.ListN.{length, take, drop, length-drop}
use lib.Seq.{length-take-le}
use Rattle.layout.specs.Levels.{column_bytes}
use Rattle.layout.specs.declared.Grid.{Grid}
use Rattle.layout.specs.Ranges.{Ranged}
use Rattle.cells.specs.Cell.{start_of, column_at}

-- where the next column starts
pub next_start : (g : Grid) (k : ℕ) → start_of g (k + 1) ≡ start_of g k + g.bytes.column
next_start g k = omega (arith, add-mul k 1 g.bytes.column)

-- the start of a column is a small number
pub start_small : (k column : ℕ) → k < 3601 → column ≤ 7214 → k * column ≤ 3601 * 7214
start_small k column h u = mul-le-mul (le_of_lt h) u

-- a column lent as the part from its start to its end
pub part_is : (s : List ℕ) (g : Grid) (k base : ℕ) → base ≡ start_of g k
    → take (base + g.bytes.column - base) (drop base s) ≡ column_at s g k
part_is s g k base e = rw (add-sub_cancel_left, e)

module _ (s : List ℕ) (g : Grid) (k : ℕ) (in_range_lem : Ranged g) where
  -- a column that is there whole has its length
  pub column_long : start_of g k + g.bytes.column ≤ length s → length (column_at s g k) ≡ column_bytes g.posts
  column_long whole = length-take-le g.bytes.column (drop (start_of g k) s) (rw length-drop (omega arith)) ∙ in_range_lem.column

  -- a column of a cell is there whole
  pub column_whole : length s ≡ g.bytes.cell → k < g.columns → start_of g k + g.bytes.column ≤ length s
  column_whole long h =
      let up : (k + 1) * g.bytes.column ≤ g.columns * g.bytes.column = mul-le-mul_right g.bytes.column (omega arith) in
      omega (arith, add-mul k 1 g.bytes.column, in_range_lem.cell)
