-- E1: an edit is refused, or done, exactly by the first row of the call's order that holds.
use Rattle.std.specs.Prelude.{Result, Ok, Err, ⊤}
use Rattle.lookup.specs.declared.reach.Spot.{Spot}
use Prim.Native.Nat.{ℕ, ◌≤◌}
use native.Mathlib.Omega.{arith}
use mathlib.Core.Path.{◌≡◌, sym, ap, subst, ◌∙◌}
use mathlib.Core.Bool.{true, false}
use mathlib.Core.List.{List}
use lib.IntN.{ℤ}
use lib.ListN.{length}
use Rattle.octets.proofs.ChoiceLaws.{by_test}
use Rattle.answers.specs.declared.Refusal.{Refusal}
use Rattle.answers.specs.declared.Refusal.TheVariants.{Height}
use Rattle.years.specs.declared.Year.{Year}
use Rattle.headers.specs.Judged.{frame_in, facts_in}
use Rattle.posts.specs.Heights.{height_allowed}
use Rattle.columns.specs.Column.{GoodColumn}
use Rattle.cells.specs.Cell.{column_at}
use Rattle.lookup.specs.Reach.{spot_in, reached}
use Rattle.lookup.proofs.ReachedExactly as exactly
use Rattle.edit.specs.Edit.{judged_edit, stored_in, edited}

-- the headers follow, the post is on their grid, and its column is there whole and good
pub record Reachable (year : Year) (s : List ℕ) (c p : ℕ) : Type 0 where
  pub on : exactly.OnGrid s c p
  pub whole : exactly.end_in s c ≤ length s
  pub column : GoodColumn (column_at s (facts_in s).grid c) c (facts_in s).grid.posts (frame_in year s).voids

-- the rows in the call's order, each where it holds and none before it does
pub data EditRow (year : Year) (s : List ℕ) (c p : ℕ) (z : ℤ) : Result ⊤ Refusal → Type 0 where
  -- 1, 21 to 23, 8, 3, 4, 5 and 6: as the post is reached
  reaching : (r : Refusal) → exactly.Row year s c p (Err r) → EditRow year s c p z (Err r)
  -- 11
  height : Reachable year s c p → height_allowed (frame_in year s).voids z ≡ false → EditRow year s c p z (Err (Height 0))
  done : Reachable year s c p → height_allowed (frame_in year s).voids z ≡ true → EditRow year s c p z (Ok tt)

module _ (year : Year) (s : List ℕ) (c p : ℕ) (z : ℤ) where
  reaches : Reachable year s c p → reached year s c p ≡ Ok (spot_in s (frame_in year s) c p)
  reaches r = exactly.given year s c p _ (exactly.good r.on r.whole r.column)

  -- every row's answer is given
  pub given : (x : Result ⊤ Refusal) → EditRow year s c p z x → judged_edit year s c p z ≡ x
  unfolding judged_edit
  given _ (reaching r row) = rw (exactly.given year s c p _ row)
  given _ (height r no-height) = rw (reaches r, no-height)
  given _ (done r allowed) = rw (reaches r, allowed)

  -- and what it leaves: the cell as it was, or with the post stored
  abbrev left_by : Result ⊤ Refusal → List ℕ
  left_by (Ok tt) = stored_in s (spot_in s (frame_in year s) c p) p z
  left_by (Err r) = s

  leaves : (x : Result ⊤ Refusal) → EditRow year s c p z x → edited year s c p z ≡ left_by x
  unfolding edited
  leaves _ (reaching r row) = rw (exactly.given year s c p _ row)
  leaves _ (height r no-height) = rw (reaches r, no-height)
  leaves _ (done r allowed) = rw (reaches r, allowed)

  abbrev SomeRow : Type 0
  SomeRow = (y : Result ⊤ Refusal) × EditRow year s c p z y

  by_reached : (x : Result Spot Refusal) → exactly.Row year s c p x → SomeRow
  by_reached _ (exactly.bad_headers r e) = (Err r, reaching r (exactly.bad_headers r e))
  by_reached _ (exactly.off h away) = (_, reaching _ (exactly.off h away))
  by_reached _ (exactly.cut o short) = (_, reaching _ (exactly.cut o short))
  by_reached _ (exactly.column o whole r e) = (Err r, reaching r (exactly.column o whole r e))
  by_reached _ (exactly.good o whole g) =
      let r : Reachable year s c p = record { on = o; whole = whole; column = g } in
      by_test (height_allowed (frame_in year s).voids z) (λ a. ((Ok tt), done r a)) (λ a. (Err (Height 0), height r a))

  -- and every answer is a row's
  pub row : EditRow year s c p z (judged_edit year s c p z)
  row =
      let some = by_reached (reached year s c p) (exactly.row year s c p) in
      subst (EditRow year s c p z) (sym (given some.0 some.1)) some.1

  done_only : (x : Result ⊤ Refusal) → EditRow year s c p z x → x ≡ Ok tt → Reachable year s c p × (height_allowed (frame_in year s).voids z ≡ true)
  done_only _ (reaching r row) e = let never : ◌≡◌ {A = ℕ} 0 1 = cc in absurd (omega arith)
  done_only _ (height r no-height) e = let never : ◌≡◌ {A = ℕ} 0 1 = cc in absurd (omega arith)
  done_only _ (done r allowed) e = (r, allowed)

  -- an edit is done exactly where the post is reachable and the height allowed
  pub accepted_exactly : (judged_edit year s c p z ≡ Ok tt → Reachable year s c p × (height_allowed (frame_in year s).voids z ≡ true))
      × (Reachable year s c p → height_allowed (frame_in year s).voids z ≡ true → judged_edit year s c p z ≡ Ok tt)
  accepted_exactly = (λ e. done_only _ row e, λ r allowed. given (Ok tt) (done r allowed))

  -- E2: refused, it leaves every byte; done, it stores the post in its column
  pub refused_leaves : (r : Refusal) → judged_edit year s c p z ≡ Err r → edited year s c p z ≡ s
  refused_leaves r e = leaves (judged_edit year s c p z) row ∙ ap left_by e

  pub done_leaves : judged_edit year s c p z ≡ Ok tt → edited year s c p z ≡ stored_in s (spot_in s (frame_in year s) c p) p z
  done_leaves e = leaves (judged_edit year s c p z) row ∙ ap left_by e
