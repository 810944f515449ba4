-- A cell that follows the scope: its headers, and exactly the columns that they make due (rules F1 and D2).
use Rattle.std.specs.Prelude.{ℕ, ◌+◌, ◌*◌, ◌<◌, ◌≡◌, List, length, take, drop}
use Rattle.years.specs.declared.Year.{Year}
use Rattle.layout.specs.declared.Frame.{Frame}
use Rattle.layout.specs.declared.Grid.{Grid}
use Rattle.layout.specs.Grid.{header_bytes}
use Rattle.headers.specs.Judged.{frame_in, Follows}
use Rattle.columns.specs.Column.{GoodColumn}

-- F2, G3: where column k starts, and its bytes
abbrev pub start_of : Grid → ℕ → ℕ
start_of g k = header_bytes + k * g.bytes.column

abbrev pub column_at : List ℕ → Grid → ℕ → List ℕ
column_at s g k = take g.bytes.column (drop (start_of g k) s)

-- F1: behind room for headers, exactly the columns that a frame makes due, each of them good
pub record Framed (f : Frame) (s : List ℕ) : Type 0 where
  pub long : length s ≡ f.grid.bytes.cell
  pub columns : (k : ℕ) → k < f.grid.columns → GoodColumn (column_at s f.grid k) k f.grid.posts f.voids

-- D2: the bytes follow the scope under a year
pub record Cell (year : Year) (s : List ℕ) : Type 0 where
  pub headers : Follows s
  pub framed : Framed (frame_in year s) s
