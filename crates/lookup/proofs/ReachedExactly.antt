-- L1, N14: a post is reached, or refused, exactly by the first row of the call's order that holds.
use Rattle.std.specs.Prelude.{Result, Ok, Err, ⊤}
use Rattle.lookup.specs.declared.reach.Spot.{Spot}
use Prim.Native.Nat.{ℕ, ◌+◌, ◌≤◌, ◌<◌}
use native.Mathlib.Omega.{arith}
use mathlib.Core.Path.{◌≡◌, refl, sym, subst, ◌∙◌}
use mathlib.Core.List.{List}
use lib.ListN.{length}
use Rattle.octets.proofs.ChoiceLaws.{by_order}
use Rattle.answers.specs.declared.Refusal.{Refusal}
use Rattle.answers.specs.declared.Refusal.TheVariants.{Cut, OffGrid}
use Rattle.years.specs.declared.Year.{Year}
use Rattle.headers.specs.Judged.{judged, facts_in, frame_of, frame_in, Follows}
use Rattle.headers.specs.declared.Facts.{Facts}
use Rattle.headers.proofs.Exactly.{good_follows, follows_good}
use Rattle.headers.proofs.FirstFour.{good_facts}
use Rattle.columns.specs.Column.{word_in, GoodColumn}
use Rattle.columns.specs.Judged.{judged_column}
use Rattle.columns.proofs.Exactly.{good_only}
use Rattle.cells.specs.Cell.{start_of, column_at}
use Rattle.cells.proofs.ColumnPlaces.{column_long}
use Rattle.lookup.specs.Reach.{spot_in, reached_by, reached_in, reached}
use Rattle.lookup.proofs.PostReached.{off_grid, column_cut, column_judged, post_at_lem}

-- good headers, and a post on their grid
pub record OnGrid (s : List ℕ) (c p : ℕ) : Type 0 where
  pub headers : Follows s
  pub column : c < (facts_in s).grid.columns
  pub post : p < (facts_in s).grid.posts

-- where column c ends, and how it is judged, under the headers of the bytes
abbrev pub end_in : List ℕ → ℕ → ℕ
end_in s c = start_of (facts_in s).grid c + (facts_in s).grid.bytes.column

abbrev pub judged_in : Year → List ℕ → ℕ → Result ⊤ Refusal
judged_in year s c = judged_column (column_at s (facts_in s).grid c) c (facts_in s).grid.posts (frame_in year s).voids (start_of (facts_in s).grid c)

-- the rows in the call's order, each where it holds and none before it does
pub data Row (year : Year) (s : List ℕ) (c p : ℕ) : Result Spot Refusal → Type 0 where
  -- 1, 21 to 23
  bad_headers : (r : Refusal) → judged s ≡ Err r → Row year s c p (Err r)
  -- 8
  off : Follows s → (c < (facts_in s).grid.columns → p < (facts_in s).grid.posts → ⊥) → Row year s c p (Err OffGrid)
  -- 3
  cut : OnGrid s c p → length s < end_in s c → Row year s c p (Err (Cut (start_of (facts_in s).grid c)))
  -- 4, 5 and 6
  column : OnGrid s c p → end_in s c ≤ length s → (r : Refusal) → judged_in year s c ≡ Err r → Row year s c p (Err r)
  good : OnGrid s c p → end_in s c ≤ length s → GoodColumn (column_at s (facts_in s).grid c) c (facts_in s).grid.posts (frame_in year s).voids
      → Row year s c p (Ok (spot_in s (frame_in year s) c p))

module _ (year : Year) (s : List ℕ) (c p : ℕ) where
  -- good headers give the frame that a post is reached under
  pub reached_good : (f : Facts) → judged s ≡ Ok f → reached year s c p ≡ reached_in s (frame_of year f) c p
  unfolding reached
  reached_good f e = rw e

  pub reached_under_lem : Follows s → reached year s c p ≡ reached_in s (frame_in year s) c p
  reached_under_lem h = reached_good (facts_in s) (follows_good s h)

  -- every row's answer is given
  pub given : (x : Result Spot Refusal) → Row year s c p x → reached year s c p ≡ x
  unfolding reached
  given _ (bad_headers r e) = rw e
  given _ (off h away) = reached_under_lem h ∙ off_grid s (frame_in year s) c p away
  given _ (cut o short) = reached_under_lem o.headers ∙ sym (column_cut s (frame_in year s) c p o.column o.post short)
  given _ (column o whole r e) =
      let part = column_at s (facts_in s).grid c in
      reached_under_lem o.headers
      ∙ sym (column_judged s (frame_in year s) c p o.column o.post whole part refl (Err r) (sym e) (word_in part p) refl)
  given _ (good o whole g) = reached_under_lem o.headers ∙ post_at_lem s (frame_in year s) c p o.column o.post whole g

  by_column : OnGrid s c p → end_in s c ≤ length s → (x : Result ⊤ Refusal) → judged_in year s c ≡ x → Row year s c p (reached_by x (spot_in s (frame_in year s) c p))
  by_column o whole (Ok tt) e =
      let g = (facts_in s).grid in
      let long = column_long s g c (good_facts s (facts_in s) (follows_good s o.headers)).grid whole in
      good o whole (good_only (column_at s g c) c g.posts (frame_in year s).voids (start_of g c) long e)
  by_column o whole (Err r) e = column o whole r e

  -- a row whose answer is y
  abbrev Some : Type 0
  Some = (y : Result Spot Refusal) × Row year s c p y

  by_headers : (x : Result Facts Refusal) → judged s ≡ x → Some
  by_headers (Err r) e = (Err r, bad_headers r e)
  by_headers (Ok f) e =
      let h = (good_follows s f e).0 in
      by_order (facts_in s).grid.columns c
      (λ past. (Err OffGrid, off h (λ on u. absurd (omega arith))))
      (λ on.
      by_order (facts_in s).grid.posts p
      (λ past. (Err OffGrid, off h (λ _ u. absurd (omega arith))))
      (λ u.
      let o : OnGrid s c p = record { headers = h; column = on; post = u } in
      by_order (end_in s c) (length s)
      (λ whole. (reached_by (judged_in year s c) (spot_in s (frame_in year s) c p), by_column o whole (judged_in year s c) refl))
      (λ short. (Err (Cut (start_of (facts_in s).grid c)), cut o short))))

  -- and every answer is a row's
  pub row : Row year s c p (reached year s c p)
  row = let y = by_headers (judged s) refl in subst (Row year s c p) (sym (given y.0 y.1)) y.1
