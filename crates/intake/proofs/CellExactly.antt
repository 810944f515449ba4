-- D2: intake accepts exactly the cells that follow the scope, and each of their posts reads as one height or void.
use Rattle.std.specs.Prelude.{Result, Ok, Err}
use Rattle.answers.specs.declared.Refusal.{Refusal}
use Rattle.headers.specs.declared.Facts.{Facts}
use Prim.Native.Nat.{ℕ, ◌<◌}
use mathlib.Core.Path.{◌≡◌, refl, sym, ap, ◌∙◌}
use mathlib.Core.List.{List}
use Rattle.answers.specs.Told.{accepted}
use Rattle.years.specs.declared.Year.{Year}
use Rattle.layout.specs.Ranges.{Ranged}
use Rattle.posts.specs.Words.{post_of}
use Rattle.posts.proofs.Readings.{Reads, reads}
use Rattle.headers.specs.Judged.{judged, facts_in, frame_in, Follows}
use Rattle.headers.proofs.Exactly.{good_follows, follows_good}
use Rattle.headers.proofs.FirstFour.{good_facts}
use Rattle.columns.specs.Column.{word_in}
use Rattle.cells.specs.Cell.{column_at, Cell}
use Rattle.intake.specs.Intake.{columns_from, taken_by, taken}
use Rattle.intake.proofs.FrameExactly.{never_accepted, framed_accepted, accepted_framed}

-- what is answered of an accepted cell
pub record Accepted (year : Year) (s : List ℕ) (l c p : ℕ) : Type 0 where
  pub cell : Cell year s
  pub level : l ≡ (facts_in s).grid.level
  pub columns : c ≡ (facts_in s).grid.columns
  pub posts : p ≡ (facts_in s).grid.posts

-- headers that follow every rule give a frame in range, and under it the columns are answered
pub frame_ranged : (s : List ℕ) → Follows s → Ranged (facts_in s).grid
frame_ranged s h = (good_facts s (facts_in s) (follows_good s h)).grid

pub taken_framed : (year : Year) (s : List ℕ) → Follows s → taken year s ≡ columns_from s (frame_in year s) 0 (facts_in s).grid.columns
unfolding taken
taken_framed year s h = ap (taken_by year s) (follows_good s h)

by_judged : (year : Year) (s : List ℕ) (x : Result Facts Refusal) (l c p : ℕ) → judged s ≡ x → taken_by year s x ≡ accepted l c p → Follows s
by_judged year s (Err r) l c p j e = absurd (never_accepted r l c p e)
by_judged year s (Ok f) l c p j e = (good_follows s f j).0

pub accepted_only : (year : Year) (s : List ℕ) (l c p : ℕ) → taken year s ≡ accepted l c p → Accepted year s l c p
unfolding taken
accepted_only year s l c p e =
    let h = by_judged year s (judged s) l c p refl e in
    let under = accepted_framed s (frame_in year s) (frame_ranged s h) l c p (sym (taken_framed year s h) ∙ e) in
    record { cell = record { headers = h; framed = under.framed }; level = under.level; columns = under.columns; posts = under.posts }

pub cell_accepted : (year : Year) (s : List ℕ) → Cell year s → taken year s ≡ accepted (facts_in s).grid.level (facts_in s).grid.columns (facts_in s).grid.posts
cell_accepted year s cell = taken_framed year s cell.headers ∙ framed_accepted s (frame_in year s) (frame_ranged s cell.headers) cell.framed

-- P1 to P4: each post of an accepted cell
pub post_reads_lem : (year : Year) (s : List ℕ) → Cell year s → (k i : ℕ) → k < (facts_in s).grid.columns → i < (facts_in s).grid.posts
    → Reads (frame_in year s).voids (post_of (word_in (column_at s (facts_in s).grid k) i))
post_reads_lem year s cell k i hk hi = reads (frame_in year s).voids (word_in (column_at s (facts_in s).grid k) i) ((cell.framed.columns k hk).words i hi)
