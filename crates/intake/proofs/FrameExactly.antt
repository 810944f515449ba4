-- Under any frame in range: what is answered of the columns is exactly the first row that holds, and bytes are accepted exactly where they follow the frame.
use Rattle.std.specs.Prelude.{Result, Ok, Err, ⊤}
use Prim.Native.Nat.{ℕ, zero, suc, ◌+◌, ◌-◌, ◌≤◌, ◌<◌}
use native.Mathlib.Nat.{sub-zero}
use native.Mathlib.Omega.{arith}
use mathlib.Core.Path.{◌≡◌, refl, sym, ap, subst, ◌∙◌}
use mathlib.Core.List.{List}
use lib.ListN.{length}
use borrow.Author.Tests.{eq-eqb, ne_eqb}
use Rattle.octets.proofs.ChoiceLaws.{by_order, by_equal}
use Rattle.answers.specs.Told.{Told, refused, accepted, numbered}
use Rattle.answers.specs.declared.Refusal.{Refusal}
use Rattle.answers.proofs.Injective.{refusal_told}
use Rattle.layout.specs.declared.Frame.{Frame}
use Rattle.layout.specs.Ranges.{Ranged}
use Rattle.columns.specs.Column.{GoodColumn}
use Rattle.columns.specs.Judged.{judged_column}
use Rattle.columns.proofs.Exactly.{good_only, good_if}
use Rattle.cells.specs.Cell.{start_of, column_at, Framed}
use Rattle.cells.proofs.ColumnPlaces.{column_long, column_whole}
use Rattle.intake.specs.Intake.{or_rest, ended, columns_from}
use Rattle.intake.proofs.Turns.{turn_cut, turn_here, turn_end}

-- column k is there whole, and good; so are the columns before it; where it ends; how it is judged
abbrev pub GoodAt : List ℕ → Frame → ℕ → Type 0
GoodAt s f k = (start_of f.grid k + f.grid.bytes.column ≤ length s) × (GoodColumn (column_at s f.grid k) k f.grid.posts f.voids)

abbrev pub GoodBefore : List ℕ → Frame → ℕ → Type 0
GoodBefore s f k = (i : ℕ) → i < k → GoodAt s f i

abbrev pub end_of : Frame → ℕ → ℕ
end_of f k = start_of f.grid k + f.grid.bytes.column

abbrev pub judged_at : List ℕ → Frame → ℕ → Result ⊤ Refusal
judged_at s f k = judged_column (column_at s f.grid k) k f.grid.posts f.voids (start_of f.grid k)

-- the rows in their order, each where it holds and none before it does
pub data Row (s : List ℕ) (f : Frame) : Told → Type 0 where
  -- 3
  cut : (k : ℕ) → k < f.grid.columns → GoodBefore s f k → length s < end_of f k → Row s f (refused 3 (start_of f.grid k))
  -- 4, 5 and 6
  column : (k : ℕ) → k < f.grid.columns → GoodBefore s f k → end_of f k ≤ length s → (r : Refusal) → judged_at s f k ≡ Err r → Row s f (numbered r)
  -- 7
  surplus : GoodBefore s f f.grid.columns → (length s ≡ f.grid.bytes.cell → ⊥) → Row s f (refused 7 f.grid.bytes.cell)
  fine : Framed f s → Row s f (accepted f.grid.level f.grid.columns f.grid.posts)

-- what is answered of bytes that follow a frame
pub record Accepted (s : List ℕ) (f : Frame) (l c p : ℕ) : Type 0 where
  pub framed : Framed f s
  pub level : l ≡ f.grid.level
  pub columns : c ≡ f.grid.columns
  pub posts : p ≡ f.grid.posts

-- a refusal is no acceptance
pub never_accepted : (r : Refusal) (l c p : ℕ) → numbered r ≡ accepted l c p → ⊥
never_accepted r l c p e =
    let told = refusal_told r in
    let z : ◌≡◌ {A = ℕ} 0 1 = cc in
    omega arith

module _ (s : List ℕ) (f : Frame) where
  abbrev pub answered : Told
  answered = columns_from s f 0 f.grid.columns

  abbrev rest : ℕ → Told
  rest k = columns_from s f k (f.grid.columns - k)

  -- good columns are passed over
  passed : (k : ℕ) → k ≤ f.grid.columns → GoodBefore s f k → answered ≡ rest k
  passed zero u before = rw sub-zero
  passed (suc k) u before =
      let here = before k (omega arith) in
      let same : suc k ≡ k + 1 = omega arith in
      rw same (
      passed k (omega arith) (λ i h. before i (omega arith))
      ∙ turn_here s f k (start_of f.grid k) refl (omega arith) here.0 (column_at s f.grid k) refl
      ∙ ap (λ (x : Result ⊤ Refusal). or_rest x (rest (k + 1))) (good_if (column_at s f.grid k) k f.grid.posts f.voids (start_of f.grid k) here.1))

  -- the first column that may not be good, there whole, is answered as it is judged
  pub first_judged : (k : ℕ) → k < f.grid.columns → GoodBefore s f k → end_of f k ≤ length s → answered ≡ or_rest (judged_at s f k) (rest (k + 1))
  first_judged k u before whole = passed k (omega arith) before ∙ turn_here s f k (start_of f.grid k) refl u whole (column_at s f.grid k) refl

  -- after good columns, the end
  all_passed : GoodBefore s f f.grid.columns → answered ≡ ended (length s) f.grid
  all_passed before = passed f.grid.columns (omega arith) before ∙ turn_end s f f.grid.columns (start_of f.grid f.grid.columns) refl (omega arith)

  module _ (in_range_lem : Ranged f.grid) where
    pub framed_before : Framed f s → GoodBefore s f f.grid.columns
    framed_before framed i h = (column_whole s f.grid i in_range_lem framed.long h, framed.columns i h)

    -- every row's answer is given
    pub given : (t : Told) → Row s f t → answered ≡ t
    unfolding ended
    given _ (cut k u before short) = passed k (omega arith) before ∙ turn_cut s f k (start_of f.grid k) refl u short
    given _ (column k u before whole r e) = first_judged k u before whole ∙ ap (λ (x : Result ⊤ Refusal). or_rest x (rest (k + 1))) e
    given _ (surplus before more) = all_passed before ∙ rw (ne_eqb (length s) f.grid.bytes.cell more)
    given _ (fine framed) = all_passed (framed_before framed) ∙ rw (eq-eqb (length s) f.grid.bytes.cell framed.long)

    abbrev Some : Type 0
    Some = (t : Told) × Row s f t

    -- a column that is there whole: the first that is not good, or one more that is
    by_column : (k : ℕ) → k < f.grid.columns → GoodBefore s f k → end_of f k ≤ length s → (x : Result ⊤ Refusal) → judged_at s f k ≡ x
        → (GoodBefore s f (k + 1) → Some) → Some
    by_column k u before whole (Err r) e go = (numbered r, column k u before whole r e)
    by_column k u before whole (Ok tt) e go =
        let here : GoodAt s f k = (whole, good_only (column_at s f.grid k) k f.grid.posts f.voids (start_of f.grid k) (column_long s f.grid k in_range_lem whole) e) in
        go (λ i h. by_order k i (λ v. let same : k ≡ i = omega arith in rw (← same) here) (λ v. before i v))

    from : (n k : ℕ) → k + n ≡ f.grid.columns → GoodBefore s f k → Some
    from zero k e before =
        let all : GoodBefore s f f.grid.columns = λ i h. before i (omega arith) in
        by_equal (length s) f.grid.bytes.cell
        (λ long. (_, fine (record { long = long; columns = λ i h. (all i h).1 })))
        (λ other. (_, surplus all other))
    from (suc n) k e before =
        by_order (end_of f k) (length s)
        (λ whole. by_column k (omega arith) before whole (judged_at s f k) refl (λ more. from n (k + 1) (omega arith) more))
        (λ short. (_, cut k (omega arith) before short))

    -- and every answer is a row's
    pub row : Row s f answered
    row =
        let some = from f.grid.columns 0 (omega arith) (λ i h. absurd (omega arith)) in
        subst (Row s f) (sym (given some.0 some.1)) some.1

    -- accepted exactly where the bytes follow the frame
    pub framed_accepted : Framed f s → answered ≡ accepted f.grid.level f.grid.columns f.grid.posts
    framed_accepted framed = given _ (fine framed)

    by_row : (t : Told) (l c p : ℕ) → Row s f t → t ≡ accepted l c p → Accepted s f l c p
    by_row _ l c p (cut k u before short) e = let z : ◌≡◌ {A = ℕ} 0 1 = cc in absurd (omega arith)
    by_row _ l c p (column k u before whole r x) e = absurd (never_accepted r l c p e)
    by_row _ l c p (surplus before more) e = let z : ◌≡◌ {A = ℕ} 0 1 = cc in absurd (omega arith)
    by_row _ l c p (fine framed) e = record { framed = framed; level = cc; columns = cc; posts = cc }

    pub accepted_framed : (l c p : ℕ) → answered ≡ accepted l c p → Accepted s f l c p
    accepted_framed l c p e = by_row answered l c p row e
