-- What functions of this crate ask of their callers.
use Rattle.std.specs.Prelude.{ℕ, ◌*◌, ◌≤◌, ◌≡◌, true, List, length}
use Rattle.layout.specs.Levels.{column_bytes}
use Rattle.layout.specs.declared.Grid.{Grid}
use Rattle.description.specs.Items.{in_range}
use Rattle.description.specs.declared.Description.{Description}
use Rattle.sources.specs.Heights.{Heights, count_of}
use Rattle.description.specs.Facts.{facts_for}
use Rattle.cell_writer.specs.Cell.{posts_due}

-- as many heights as the columns have posts, bytes of the columns' length, and no more of either than a cell has
pub record ColumnsFit (out : List ℕ) (columns posts : ℕ) (g : Heights) : Type 0 where
  pub long : length out ≡ columns * column_bytes posts
  pub all : count_of g ≡ columns * posts
  pub columns_high : columns ≤ 3601
  pub posts_high : posts ≤ 3601

-- items in range, the grid that they make due, a height for each of its posts, and room for the cell
pub record CellFits (out : List ℕ) (d : Description) (grid : Grid) (g : Heights) : Type 0 where
  pub ranged : in_range d ≡ true
  pub due : grid ≡ (facts_for d).grid
  pub all : count_of g ≡ posts_due grid
  pub room : grid.bytes.cell ≤ length out
