-- Intake (rules I1 to I3) under a year: 1, 21 to 23, then column after column from the west 3, 4, 5, 6, then 7.
use Rattle.std.specs.Prelude.{ℕ, ◌+◌, List, length, eqb, leb, Result, Ok, Err, ⊤}
use Rattle.answers.specs.declared.Refusal.{Refusal}
use Rattle.headers.specs.declared.Facts.{Facts}
use Rattle.octets.specs.Choice.{pick}
use Rattle.octets.specs.Scan.{scan}
use Rattle.answers.specs.Told.{Told, refused, accepted, numbered}
use Rattle.years.specs.declared.Year.{Year}
use Rattle.layout.specs.declared.Grid.{Grid}
use Rattle.layout.specs.declared.Frame.{Frame}
use Rattle.headers.specs.Judged.{judged, frame_of}
use Rattle.columns.specs.Judged.{judged_column}
use Rattle.cells.specs.Cell.{start_of, column_at}

-- what is said of a column, or of the rest where the column is good
abbrev pub or_rest : Result ⊤ Refusal → Told → Told
or_rest (Ok tt) rest = rest
or_rest (Err r) rest = numbered r

-- N3 to N6: column k, there whole and good, then the rest
unfoldable pub judge_next : List ℕ → Frame → ℕ → Told → Told
judge_next s f k rest =
    pick (leb (start_of f.grid k + f.grid.bytes.column) (length s))
    (or_rest (judged_column (column_at s f.grid k) k f.grid.posts f.voids (start_of f.grid k)) rest)
    (refused 3 (start_of f.grid k))

-- N7, I3: after the last column, of so many bytes
unfoldable pub ended : ℕ → Grid → Told
ended long g = pick (eqb long g.bytes.cell) (accepted g.level g.columns g.posts) (refused 7 g.bytes.cell)

-- n columns from column k on
abbrev pub columns_from : List ℕ → Frame → ℕ → ℕ → Told
columns_from s f k n = scan (judge_next s f) (ended (length s) f.grid) k n

-- I1: the headers first
abbrev pub taken_by : Year → List ℕ → Result Facts Refusal → Told
taken_by year s (Ok f) = columns_from s (frame_of year f) 0 f.grid.columns
taken_by year s (Err r) = numbered r

-- under a year
unfoldable pub taken : Year → List ℕ → Told
taken year s = taken_by year s (judged s)
