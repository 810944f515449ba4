-- Lookup under both years: a post of a cell that year 2 accepts reads the same under year 1, and what one frame gives is answered once.
use Rattle.std.specs.Prelude.{Result, Ok, Err}
use Rattle.answers.specs.declared.Refusal.{Refusal}
use Prim.Native.Nat.{ℕ, ◌<◌}
use native.Mathlib.Omega.{arith}
use mathlib.Core.Path.{◌≡◌, refl, sym, ap, ◌∙◌}
use mathlib.Core.List.{List}
use Rattle.octets.proofs.ChoiceLaws.{by_order}
use Rattle.years.specs.declared.Year.{Year}
use Rattle.years.specs.declared.Year.TheVariants.{One, Two}
use Rattle.layout.specs.declared.Frame.{Frame}
use Rattle.headers.specs.Judged.{judged, facts_in, frame_of, frame_in}
use Rattle.headers.specs.declared.Facts.{Facts}
use Rattle.cells.specs.Cell.{Cell}
use Rattle.cells.proofs.MadeCells.{cell_facts}
use Rattle.cells.proofs.BothYears.{cell_before}
use Rattle.lookup.specs.Reach.{reached_in, reached_under, reached}
use Rattle.lookup.specs.Lookup.{reading_of}
use Rattle.lookup.proofs.PostReached.{off_grid, framed_at}
use Rattle.lookup.proofs.ReachedExactly.{reached_under_lem}

-- under any year a post of an accepted cell reads as its word says, and numbers off the grid reach none: so the year counts no more
module _ (s : List ℕ) (cell : Cell Two s) (c p : ℕ) where
  earlier : Cell One s
  earlier = cell_before s cell

  off : (c < (facts_in s).grid.columns → p < (facts_in s).grid.posts → ⊥) → reached One s c p ≡ reached Two s c p
  off away =
      reached_under_lem One s c p cell.headers ∙ off_grid s (frame_in One s) c p away
      ∙ sym (reached_under_lem Two s c p cell.headers ∙ off_grid s (frame_in Two s) c p away)

  on : c < (facts_in s).grid.columns → p < (facts_in s).grid.posts → reading_of (reached One s c p) ≡ reading_of (reached Two s c p)
  on hc hp =
      let range = (cell_facts s cell).grid in
      ap reading_of (reached_under_lem One s c p cell.headers ∙ framed_at s (frame_in One s) c p hc hp range earlier.framed)
      ∙ sym (ap reading_of (reached_under_lem Two s c p cell.headers ∙ framed_at s (frame_in Two s) c p hc hp range cell.framed))

  pub read_before : reading_of (reached One s c p) ≡ reading_of (reached Two s c p)
  read_before =
      by_order (facts_in s).grid.columns c
      (λ past. ap reading_of (off (λ hc hp. absurd (omega arith))))
      (λ hc. by_order (facts_in s).grid.posts p (λ past. ap reading_of (off (λ h hp. absurd (omega arith)))) (λ hp. on hc hp))

-- where any good headers of the bytes give one frame under two years, a post is reached alike, whatever the bytes are
by_headers : (a b : Year) (s : List ℕ) (c p : ℕ) (x : Result Facts Refusal) → ((f : Facts) → x ≡ Ok f → frame_of a f ≡ frame_of b f)
    → reached_under a s x c p ≡ reached_under b s x c p
by_headers a b s c p (Err r) same = refl
by_headers a b s c p (Ok f) same = ap (λ (g : Frame). reached_in s g c p) (same f refl)

pub reached_alike : (a b : Year) (s : List ℕ) → ((f : Facts) → judged s ≡ Ok f → frame_of a f ≡ frame_of b f)
    → (c p : ℕ) → reached a s c p ≡ reached b s c p
unfolding reached
reached_alike a b s same c p = by_headers a b s c p (judged s) same
