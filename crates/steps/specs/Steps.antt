-- Stepwise intake (rules S1 to S7): what a step says of a piece, and the state after it. Any state is answered, also one that no step made.
use Rattle.std.specs.Prelude.{ℕ, zero, suc, ◌+◌, ◌≡◌, Bool, List, [], ◌∷◌, length, take, drop, leb, ltb, Result, Ok, Err}
use Rattle.headers.specs.declared.Facts.{Facts}
use Rattle.layout.specs.declared.NoGrid.TheVariants as none
use Rattle.layout.specs.declared.NoGrid.{NoGrid}
use Rattle.answers.specs.declared.Refusal.{Refusal}
use Rattle.answers.specs.declared.Verdict.{Verdict}
use Rattle.octets.specs.Choice.{pick}
use Rattle.answers.specs.Told as said
use Rattle.answers.specs.declared.Verdict.TheVariants as verdict
use Rattle.years.specs.declared.Year.{Year}
use Rattle.years.specs.Years.{named_of, by_named, under}
use Rattle.layout.specs.Grid.{laid, header_bytes}
use Rattle.layout.specs.declared.Grid.{Grid}
use Rattle.layout.specs.declared.Frame.{Frame}
use Rattle.layout.specs.Zones.{edge_of}
use Rattle.headers.specs.Judged.{judged, frame_of}
use Rattle.columns.specs.Judged.{judged_column}
use Rattle.cells.specs.Cell.{start_of, column_at}
use Rattle.intake.specs.Intake.{or_rest, ended}
use Rattle.steps.specs.declared.Phase.{Phase}
use Rattle.steps.specs.declared.Phase.TheVariants.{Headers, Columns, Over}

-- S2, S3: the first piece
abbrev pub said_of_headers : Result Facts Refusal → said.Told
said_of_headers (Ok f) = said.more
said_of_headers (Err r) = said.numbered r

-- S2, S3, S4: a piece for column k under this frame, or after the last column
unfoldable pub said_of_column : Frame → ℕ → List ℕ → said.Told
said_of_column f k piece =
    pick (ltb k f.grid.columns)
    (pick (leb f.grid.bytes.column (length piece))
    (or_rest (judged_column (take f.grid.bytes.column piece) k f.grid.posts f.voids (start_of f.grid k)) said.more)
    (said.refused 3 (start_of f.grid k)))
    (ended (f.grid.bytes.cell + length piece) f.grid)

-- a state whose level or edge there is not, which no step makes, is off the grid
abbrev pub said_of_laid : Result Grid NoGrid → Bool → ℕ → List ℕ → said.Told
said_of_laid (Ok g) voids k piece = said_of_column (record { grid = g; voids = voids }) k piece
said_of_laid (Err none.Level) voids k piece = said.refused 8 0
said_of_laid (Err none.Zone) voids k piece = said.refused 8 0

-- S1 to S5, N17: what a step says. The year that was named counts in the first one alone
abbrev pub said_of : Phase → List ℕ → said.Told
said_of (Headers n) piece = under n (λ (year : Year). said_of_headers (judged piece))
said_of (Columns d) piece = said_of_laid (laid d.level d.edge) d.voids d.next piece
said_of (Over v) piece = said.told said.intake v

-- S7: how many bytes the next piece should have: a column's, or one after the last, to see whether anything follows
abbrev pub wanted_of : Result Grid NoGrid → ℕ → ℕ
wanted_of (Ok g) k = pick (ltb k g.columns) g.bytes.column 1
wanted_of (Err none.Level) k = 0
wanted_of (Err none.Zone) k = 0

abbrev pub wanted : Phase → ℕ
wanted (Headers n) = header_bytes
wanted (Columns d) = wanted_of (laid d.level d.edge) d.next
wanted (Over v) = 0

-- S1: what is due once a piece was good: a year's rules leave whether voids are allowed, and nothing else
abbrev pub due_after : Year → Result Facts Refusal → Phase
due_after year (Ok f) = Columns (record { level = f.grid.level; edge = edge_of f.latitude; voids = (frame_of year f).voids; next = 0 })
due_after year (Err r) = Over (Err r)

abbrev pub advanced : Phase → List ℕ → Phase
advanced (Headers n) piece = by_named (named_of n) (Headers n) (λ (year : Year). due_after year (judged piece))
advanced (Columns d) piece = Columns (record { level = d.level; edge = d.edge; voids = d.voids; next = d.next + 1 })
advanced (Over v) piece = Over v

-- S5: an answer other than "more" is kept
abbrev pub after_answer : Phase → Result Verdict Refusal → Phase
after_answer next (Ok verdict.More) = next
after_answer next (Ok (verdict.Accepted level columns posts)) = Over (Ok (verdict.Accepted level columns posts))
after_answer next (Err r) = Over (Err r)

-- the state after a step that gave this answer
abbrev pub after : Phase → List ℕ → Result Verdict Refusal → Phase
after phase piece answer = after_answer (advanced phase piece) answer

-- S1: the promise of a step: its answer, and the state that it hands back
pub record Step (phase : Phase) (piece : List ℕ) (answer : Result Verdict Refusal) (later : Phase) : Type 0 where
  pub said : said.told said.intake answer ≡ said_of phase piece
  pub state : later ≡ after phase piece answer

-- S1, S5: a first piece and further ones, handed in turn to steps that keep their promise; w is the last answer
abbrev pub Fed : Phase → List ℕ → List (List ℕ) → Result Verdict Refusal → Type 0
Fed phase piece [] w = said.told said.intake w ≡ said_of phase piece
Fed phase piece (p ∷ ps) w = (v : Result Verdict Refusal) × ((said.told said.intake v ≡ said_of phase piece) × Fed (after phase piece v) p ps w)

-- S6: a file cut at its column edges: n columns from column k on, and the rest
abbrev pub first_piece : List ℕ → Grid → ℕ → ℕ → List ℕ
first_piece s g k zero = drop g.bytes.cell s
first_piece s g k (suc n) = column_at s g k

abbrev pub later_pieces : List ℕ → Grid → ℕ → ℕ → List (List ℕ)
later_pieces s g k zero = []
later_pieces s g k (suc n) = first_piece s g (k + 1) n ∷ later_pieces s g (k + 1) n
