-- Reaching one post under a year (rule L1): 1, 21 to 23, 8, then 3, 4, 5, 6 for its column alone. Lookup and edit both begin so.
use Rattle.std.specs.Prelude.{ℕ, ◌+◌, List, length, leb, ltb, Result, Ok, Err, ⊤}
use Rattle.answers.specs.declared.Refusal.{Refusal}
use Rattle.headers.specs.declared.Facts.{Facts}
use Rattle.octets.specs.Choice.{pick, both}
use Rattle.answers.specs.declared.Refusal.TheVariants.{Cut, OffGrid}
use Rattle.years.specs.declared.Year.{Year}
use Rattle.layout.specs.declared.Frame.{Frame}
use Rattle.headers.specs.Judged.{judged, frame_of}
use Rattle.columns.specs.Column.{word_in}
use Rattle.columns.specs.Judged.{judged_column}
use Rattle.cells.specs.Cell.{start_of, column_at}
use Rattle.lookup.specs.declared.reach.Spot.{Spot}

-- post p of column c, as it stands in the file
abbrev pub spot_in : List ℕ → Frame → ℕ → ℕ → Spot
spot_in s f c p = record {
  start = start_of f.grid c;
  posts = f.grid.posts;
  voids = f.voids;
  word = word_in (column_at s f.grid c) p;
}

-- N4 to N6: once the column was judged
abbrev pub reached_by : Result ⊤ Refusal → Spot → Result Spot Refusal
reached_by (Ok tt) spot = Ok spot
reached_by (Err r) spot = Err r

-- N8, then N3
unfoldable pub reached_in : List ℕ → Frame → ℕ → ℕ → Result Spot Refusal
reached_in s f c p =
    pick (both (ltb c f.grid.columns) (ltb p f.grid.posts))
    (pick (leb (start_of f.grid c + f.grid.bytes.column) (length s))
    (reached_by (judged_column (column_at s f.grid c) c f.grid.posts f.voids (start_of f.grid c)) (spot_in s f c p))
    (Err (Cut (start_of f.grid c))))
    (Err OffGrid)

-- N1, N21 to N23: the headers first
abbrev pub reached_under : Year → List ℕ → Result Facts Refusal → ℕ → ℕ → Result Spot Refusal
reached_under year s (Ok f) c p = reached_in s (frame_of year f) c p
reached_under year s (Err r) c p = Err r

unfoldable pub reached : Year → List ℕ → ℕ → ℕ → Result Spot Refusal
reached year s c p = reached_under year s (judged s) c p
