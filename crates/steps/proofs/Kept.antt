-- The state after a step: what a good header piece makes due, an answer that is kept, and the bound of the next column.
use Rattle.std.specs.Prelude.{Result, Ok, Err}
use Rattle.layout.specs.declared.NoGrid.TheVariants as none
use Rattle.layout.specs.declared.NoGrid.{NoGrid}
use Rattle.answers.specs.declared.Refusal.{Refusal}
use Rattle.answers.specs.declared.Refusal.TheVariants as because
use Rattle.answers.specs.declared.Verdict.{Verdict}
use Prim.Native.Nat.{ℕ, ◌+◌, ◌<◌}
use native.Mathlib.Omega.{arith}
use mathlib.Core.Path.{◌≡◌, refl, sym, ap, ◌∙◌}
use mathlib.Core.Bool.{Bool}
use mathlib.Core.List.{List}
use lib.Dec.{eqb}
use lib.ListN.{length}
use Rattle.octets.proofs.ChoiceLaws.{by_order, by_test}
use Rattle.answers.specs.Told.{told, intake, refused, more}
use Rattle.answers.specs.declared.Refusal.TheVariants as because
use Rattle.answers.specs.declared.Verdict.TheVariants as verdict
use Rattle.years.specs.Years.{Names, NamesNone}
use Rattle.years.specs.declared.Year.{Year}
use Rattle.years.proofs.YearLaws.{named_is, none_is}
use Rattle.layout.specs.Grid.{laid}
use Rattle.layout.specs.declared.Grid.{Grid}
use Rattle.layout.specs.declared.Frame.{Frame}
use Rattle.layout.specs.Zones.{edge_of}
use Rattle.headers.specs.Judged.{judged, frame_of}
use Rattle.headers.specs.declared.Facts.{Facts}
use Rattle.intake.specs.Intake.{ended}
use Rattle.intake.proofs.NeverMore.{refused_not_more, accepted_not_more}
use Rattle.steps.specs.Steps.{said_of, said_of_headers, said_of_laid, said_of_column, due_after, advanced, after_answer, after, Step}
use Rattle.steps.specs.declared.ColumnsDue.{ColumnsDue}
use Rattle.steps.specs.declared.Phase.{Phase}
use Rattle.steps.specs.declared.Phase.TheVariants.{Headers, Columns, Over}
use Rattle.steps.proofs.Pieces.{piece_past, laid_ranged}

-- a good header piece, under a year
pub headers_good : (year : Year) (piece : List ℕ) (f : Facts) (edge : ℕ) (voids : Bool) → judged piece ≡ Ok f → edge ≡ edge_of f.latitude
    → voids ≡ (frame_of year f).voids → Columns (record { level = f.grid.level; edge = edge; voids = voids; next = 0 }) ≡ due_after year (judged piece)
headers_good year piece f edge voids e el ev = rw (el, ev) (sym (ap (due_after year) e))

-- an answer that is kept
pub kept : (phase : Phase) (piece : List ℕ) (v a : Result Verdict Refusal) (later : Phase) → after phase piece v ≡ Over v → told intake v ≡ said_of phase piece
    → a ≡ v → later ≡ Over v → Step phase piece a later
kept phase piece v a later o e p q = record { said = ap (told intake) p ∙ e; state = q ∙ sym (ap (after phase piece) p ∙ o) }

-- the first step, where no year was named, and under one
pub said_none : (n : ℕ) → NamesNone n → (piece : List ℕ) → said_of (Headers n) piece ≡ refused 17 n
said_none n none piece = none_is n none (refused 17 n) (λ (year : Year). said_of_headers (judged piece))

pub said_first : (n : ℕ) (year : Year) → Names n year → (piece : List ℕ) → said_of (Headers n) piece ≡ said_of_headers (judged piece)
said_first n year named piece = named_is n year named (refused 17 n) (λ (y : Year). said_of_headers (judged piece))

pub due_first : (n : ℕ) (year : Year) → Names n year → (piece : List ℕ) → advanced (Headers n) piece ≡ due_after year (judged piece)
due_first n year named piece = named_is n year named (Headers n) (λ (y : Year). due_after y (judged piece))

-- so its promise, by what was done under that year, or that there was none
pub first_kept : (n : ℕ) (year : Year) → Names n year → (piece : List ℕ) (answer : Result Verdict Refusal) (later : Phase)
    → told intake answer ≡ said_of_headers (judged piece) → later ≡ after_answer (due_after year (judged piece)) answer → Step (Headers n) piece answer later
first_kept n year named piece answer later said state = record {
  said = said ∙ sym (said_first n year named piece);
  state = state ∙ sym (ap (λ (next : Phase). after_answer next answer) (due_first n year named piece));
}

pub none_kept : (n : ℕ) → NamesNone n → (piece : List ℕ) (answer : Result Verdict Refusal) (later : Phase)
    → answer ≡ Err (because.Year n) → later ≡ Over (Err (because.Year n)) → Step (Headers n) piece answer later
none_kept n none piece answer later a o = kept (Headers n) piece (Err (because.Year n)) answer later refl (sym (said_none n none piece)) a o

-- once over
pub over_kept : (v : Result Verdict Refusal) → after_answer (Over v) v ≡ Over v
over_kept (Ok verdict.More) = refl
over_kept (Ok (verdict.Accepted level columns posts)) = refl
over_kept (Err r) = refl

ended_not_more : (long : ℕ) (g : Grid) → ended long g ≡ more → ⊥
unfolding ended
ended_not_more long g e =
    by_test (eqb long g.bytes.cell)
    (λ t. accepted_not_more g.level g.columns g.posts (rw t at e))
    (λ t. refused_not_more 7 g.bytes.cell (rw t at e))

-- "more" is said of a column that is due, and so the next number is small
pub below_columns : (f : Frame) (k : ℕ) (piece : List ℕ) → said_of_column f k piece ≡ more → k < f.grid.columns
below_columns f k piece e =
    by_order f.grid.columns k
    (λ h. absurd (ended_not_more (f.grid.bytes.cell + length piece) f.grid (sym (piece_past f k piece h) ∙ e)))
    (λ h. h)

by_laid : (level edge : ℕ) (voids : Bool) (k : ℕ) (piece : List ℕ) (x : Result Grid NoGrid) → laid level edge ≡ x → said_of_laid x voids k piece ≡ more → k < 3601
by_laid level edge voids k piece (Ok g) l e =
    let below = below_columns (record { grid = g; voids = voids }) k piece e in
    omega (arith, (laid_ranged level edge g l).columns_high)
by_laid level edge voids k piece (Err none.Level) l e = let n : ◌≡◌ {A = ℕ} 0 1 = cc in absurd (omega arith)
by_laid level edge voids k piece (Err none.Zone) l e = let n : ◌≡◌ {A = ℕ} 0 1 = cc in absurd (omega arith)

pub next_small : (d : ColumnsDue) (piece : List ℕ) → said_of (Columns d) piece ≡ more → d.next < 3601
next_small d piece e = by_laid d.level d.edge d.voids d.next piece (laid d.level d.edge) refl e
