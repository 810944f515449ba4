-- What is judged good, and what is refused: exactly the headers that follow every rule, and else the first rule that is broken.
use Rattle.std.specs.Prelude.{Option, Some, None, Result, Ok, Err}
use Prim.Native.Nat.{ℕ, ◌<◌, ◌≤◌}
use native.Mathlib.Omega.{arith}
use mathlib.Core.Path.{◌≡◌, refl, sym, ap, ◌∙◌, subst}
use mathlib.Core.Bool.{true, false}
use mathlib.Core.List.{List}
use lib.ListN.{length}
use borrow.Author.Tests.{lt-ltb, le-ltb}
use Rattle.octets.proofs.ChoiceLaws.{by_order}
use Rattle.answers.specs.declared.Refusal.{Refusal}
use Rattle.answers.specs.declared.Refusal.TheVariants as because
use Rattle.headers.specs.Basis.{basis_in}
use Rattle.answers.specs.Told.{numbered, number_told}
use Rattle.faults.specs.Fault.{fault}
use Rattle.faults.proofs.FaultTold.{fault_tells}
use Rattle.fields.specs.declared.Kind.{Kind}
use Rattle.due.specs.declared.Basis.{Basis}
use Rattle.fields.specs.Table.{bytes_in, field_at}
use Rattle.headers.specs.Judged.{keeps, broken, facts_in, judged_by, judged, Follows}
use Rattle.headers.specs.declared.Facts.{Facts}
use Rattle.headers.proofs.BrokenRows.{first_in, said, Found, found, found_alike, judged_part}

-- row i is the first whose field breaks its rule
pub record First (s : List ℕ) (i : ℕ) : Type 0 where
  pub long : 3428 ≤ length s
  pub below : i < 40
  pub breaks : keeps s (basis_in s) (field_at i) ≡ false
  pub kept : (j : ℕ) → j < i → keeps s (basis_in s) (field_at j) ≡ true

-- the answers that there are
pub data Answer (s : List ℕ) : Result Facts Refusal → Type 0 where
  short : length s < 3428 → Answer s (Err (because.Short (length s)))
  breaks : (i : ℕ) → First s i → Answer s (Err (broken s (basis_in s) (field_at i)))
  good : Follows s → Answer s (Ok (facts_in s))

module _ (s : List ℕ) where
  abbrev row : Option ℕ
  row = first_in s (basis_in s) 0 40

  pub judged_short : length s < 3428 → judged s ≡ Err (because.Short (length s))
  unfolding judged
  judged_short h = rw (lt-ltb (length s) 3428 h)

  -- the search over the whole table decides
  pub judged_by_row : 3428 ≤ length s → judged s ≡ said s (basis_in s) row (Ok (facts_in s))
  unfolding judged judged_by
  judged_by_row h = rw (le-ltb (length s) 3428 h) (judged_part s (basis_in s) 40 40 0 refl (omega arith))

  answer_found : 3428 ≤ length s → (r : Option ℕ) → Found s (basis_in s) 0 40 r → Answer s (said s (basis_in s) r (Ok (facts_in s)))
  answer_found long None k = good (long, λ i h. k i (omega arith) h)
  answer_found long (Some i) b = breaks i (record { long = long; below = b.high; breaks = b.breaks; kept = λ j h. b.kept j (omega arith) h })

  pub answered : Answer s (judged s)
  answered =
      by_order 3428 (length s)
      (λ long. subst (Answer s) (sym (judged_by_row long)) (answer_found long row (found s (basis_in s) 40 40 0 refl)))
      (λ h. subst (Answer s) (sym (judged_short h)) (short h))

  -- there is one such row, or none
  is_row : (r : Option ℕ) → Found s (basis_in s) 0 40 r → row ≡ r
  is_row r f = found_alike s (basis_in s) 0 40 row r (found s (basis_in s) 40 40 0 refl) f

  pub first_refused : (i : ℕ) → First s i → judged s ≡ Err (broken s (basis_in s) (field_at i))
  first_refused i f =
      let e : row ≡ Some i = is_row (Some i) (record { low = omega arith; high = f.below; kept = λ j a h. f.kept j h; breaks = f.breaks }) in
      judged_by_row f.long ∙ rw e

  pub follows_good : Follows s → judged s ≡ Ok (facts_in s)
  follows_good f =
      let e : row ≡ None = is_row None (λ j a h. f.1 j h) in
      judged_by_row f.0 ∙ rw e

never : ◌≡◌ {A = ℕ} 0 1 → ⊥
never e = omega arith

when_good : (s : List ℕ) (f : Facts) (j : Result Facts Refusal) → Answer s j → j ≡ Ok f → Follows s × (f ≡ facts_in s)
when_good s f j (short h) e = absurd (never (cc))
when_good s f j (breaks i h) e = absurd (never (cc))
when_good s f j (good h) e = (h, cc)

pub good_follows : (s : List ℕ) (f : Facts) → judged s ≡ Ok f → Follows s × (f ≡ facts_in s)
good_follows s f e = when_good s f (judged s) (answered s) e

-- the first rule that is broken is that of a row, and the refusal is the row's
pub record FirstTold (s : List ℕ) (r : Refusal) : Type 0 where
  pub row : ℕ
  pub first : First s row
  pub is : r ≡ broken s (basis_in s) (field_at row)

when_long : (s : List ℕ) (r : Refusal) (j : Result Facts Refusal) → Answer s j → 3428 ≤ length s → j ≡ Err r → FirstTold s r
when_long s r j (short h) l e = absurd (omega arith)
when_long s r j (breaks i h) l e = record { row = i; first = h; is = cc }
when_long s r j (good h) l e = absurd (never (cc))

pub broken_first : (s : List ℕ) (r : Refusal) → 3428 ≤ length s → judged s ≡ Err r → FirstTold s r
broken_first s r l e = when_long s r (judged s) (answered s) l e

-- which is never 1
never_short : (k : Kind) (b : Basis) (at : ℕ) (t : List ℕ) (n : ℕ) → fault k b at t ≡ because.Short n → ⊥
never_short k b at t n e = omega (arith, (fault_tells k b at t).low, ap (λ (r : Refusal). number_told (numbered r)) e)

when_short : (s : List ℕ) (n : ℕ) (j : Result Facts Refusal) → Answer s j → j ≡ Err (because.Short n) → (length s < 3428) × (n ≡ length s)
when_short s n j (short h) e = (h, cc)
when_short s n j (breaks i h) e = absurd (never_short (field_at i).2 (basis_in s) (field_at i).0 (bytes_in s (field_at i)) n (cc))
when_short s n j (good h) e = absurd (never (cc))

pub short_exactly : (s : List ℕ) (n : ℕ)
    → (judged s ≡ Err (because.Short n) → (length s < 3428) × (n ≡ length s))
    × ((length s < 3428) × (n ≡ length s) → judged s ≡ Err (because.Short n))
short_exactly s n = (λ e. when_short s n (judged s) (answered s) e, λ h. rw h.1 (judged_short s h.0))
