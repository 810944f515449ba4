-- I1, N14: intake answers exactly the first row of its order that holds.
use Rattle.std.specs.Prelude.{Result, Ok, Err, ⊤}
use Rattle.headers.specs.declared.Facts.{Facts}
use Prim.Native.Nat.{ℕ, ◌+◌, ◌≤◌, ◌<◌}
use mathlib.Core.Path.{◌≡◌, refl, sym, ap, subst, ◌∙◌}
use mathlib.Core.List.{List}
use lib.ListN.{length}
use Rattle.answers.specs.Told.{Told, refused, accepted, numbered}
use Rattle.answers.specs.declared.Refusal.{Refusal}
use Rattle.years.specs.declared.Year.{Year}
use Rattle.headers.specs.Judged.{judged, frame_in, Follows, facts_in}
use Rattle.headers.proofs.Exactly.{good_follows}
use Rattle.cells.specs.Cell.{start_of, Cell}
use Rattle.intake.specs.Intake.{taken_by, taken}
use Rattle.intake.proofs.FrameExactly as under
use Rattle.intake.proofs.CellExactly.{frame_ranged, taken_framed}

-- under a year, with the headers of the bytes: the columns before the k-th are whole and good; where column k ends; how it is judged
abbrev pub GoodBefore : Year → List ℕ → ℕ → Type 0
GoodBefore year s k = under.GoodBefore s (frame_in year s) k

abbrev pub end_of : List ℕ → ℕ → ℕ
end_of s k = start_of (facts_in s).grid k + (facts_in s).grid.bytes.column

abbrev pub judged_at : Year → List ℕ → ℕ → Result ⊤ Refusal
judged_at year s k = under.judged_at s (frame_in year s) k

-- the rows in the call's order, each where it holds and none before it does
pub data IntakeRow (year : Year) (s : List ℕ) : Told → Type 0 where
  -- 1, 21 to 23
  bad_headers : (r : Refusal) → judged s ≡ Err r → IntakeRow year s (numbered r)
  -- 3
  cut : Follows s → (k : ℕ) → k < (facts_in s).grid.columns → GoodBefore year s k → length s < end_of s k → IntakeRow year s (refused 3 (start_of (facts_in s).grid k))
  -- 4, 5 and 6
  column : Follows s → (k : ℕ) → k < (facts_in s).grid.columns → GoodBefore year s k → end_of s k ≤ length s → (r : Refusal) → judged_at year s k ≡ Err r
      → IntakeRow year s (numbered r)
  -- 7
  surplus : Follows s → GoodBefore year s (facts_in s).grid.columns → (length s ≡ (facts_in s).grid.bytes.cell → ⊥)
      → IntakeRow year s (refused 7 (facts_in s).grid.bytes.cell)
  fine : Cell year s → IntakeRow year s (accepted (facts_in s).grid.level (facts_in s).grid.columns (facts_in s).grid.posts)

module _ (year : Year) (s : List ℕ) where
  given_under : (t : Told) → Follows s → under.Row s (frame_in year s) t → taken year s ≡ t
  given_under t h r = taken_framed year s h ∙ under.given s (frame_in year s) (frame_ranged s h) t r

  -- every row's answer is given
  pub given : (t : Told) → IntakeRow year s t → taken year s ≡ t
  unfolding taken
  given _ (bad_headers r e) = ap (taken_by year s) e
  given _ (cut h k u f short) = given_under _ h (under.cut k u f short)
  given _ (column h k u f whole r e) = given_under _ h (under.column k u f whole r e)
  given _ (surplus h f more) = given_under _ h (under.surplus f more)
  given _ (fine cell) = given_under _ cell.headers (under.fine cell.framed)

  row_under : (t : Told) → Follows s → under.Row s (frame_in year s) t → IntakeRow year s t
  row_under _ h (under.cut k u f short) = cut h k u f short
  row_under _ h (under.column k u f whole r e) = column h k u f whole r e
  row_under _ h (under.surplus f more) = surplus h f more
  row_under _ h (under.fine framed) = fine (record { headers = h; framed = framed })

  by_headers : (x : Result Facts Refusal) → judged s ≡ x → IntakeRow year s (taken year s)
  unfolding taken
  by_headers (Err r) e = subst (IntakeRow year s) (sym (ap (taken_by year s) e)) (bad_headers r e)
  by_headers (Ok f) e =
      let h = (good_follows s f e).0 in
      subst (IntakeRow year s) (sym (taken_framed year s h)) (row_under _ h (under.row s (frame_in year s) (frame_ranged s h)))

  -- and every answer is a row's
  pub row : IntakeRow year s (taken year s)
  row = by_headers (judged s) refl
