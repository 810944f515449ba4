-- Intake under both years: what year 2 accepts year 1 accepts, with the same answer, and what one frame gives is answered once.
use Rattle.std.specs.Prelude.{Result, Ok, Err}
use Rattle.answers.specs.declared.Refusal.{Refusal}
use Prim.Native.Nat.{ℕ}
use mathlib.Core.Path.{◌≡◌, refl, sym, ap, ◌∙◌}
use mathlib.Core.List.{List}
use Rattle.answers.specs.Told.{accepted}
use Rattle.years.specs.declared.Year.{Year}
use Rattle.years.specs.declared.Year.TheVariants.{One, Two}
use Rattle.layout.specs.declared.Frame.{Frame}
use Rattle.headers.specs.Judged.{judged, frame_of}
use Rattle.headers.specs.declared.Facts.{Facts}
use Rattle.cells.proofs.BothYears.{cell_before}
use Rattle.intake.specs.Intake.{columns_from, taken_by, taken}
use Rattle.intake.proofs.CellExactly.{accepted_only, cell_accepted}

pub accepted_before : (s : List ℕ) (l c p : ℕ) → taken Two s ≡ accepted l c p → taken One s ≡ accepted l c p
accepted_before s l c p e =
    let found = accepted_only Two s l c p e in
    cell_accepted One s (cell_before s found.cell) ∙ sym (cell_accepted Two s found.cell) ∙ e

-- where any good headers of the bytes give one frame under two years, they are answered alike, whatever they are
by_headers : (a b : Year) (s : List ℕ) (x : Result Facts Refusal) → ((f : Facts) → x ≡ Ok f → frame_of a f ≡ frame_of b f) → taken_by a s x ≡ taken_by b s x
by_headers a b s (Err r) same = refl
by_headers a b s (Ok f) same = ap (λ (g : Frame). columns_from s g 0 f.grid.columns) (same f refl)

pub taken_alike : (a b : Year) (s : List ℕ) → ((f : Facts) → judged s ≡ Ok f → frame_of a f ≡ frame_of b f) → taken a s ≡ taken b s
unfolding taken
taken_alike a b s same = by_headers a b s (judged s) same
