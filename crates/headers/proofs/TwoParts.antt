-- Judged in two parts: the first four rows with anything due, then the rest with what they make due.
use Rattle.std.specs.Prelude.{Some, Ok, Err}
use Prim.Native.Nat.{ℕ, ◌+◌, ◌<◌, ◌≤◌}
use native.Mathlib.Omega.{arith}
use mathlib.Core.Path.{◌≡◌, refl, ap, ◌∙◌, subst}
use mathlib.Core.Bool.{Bool, true}
use mathlib.Core.List.{List}
use lib.ListN.{length, drop}
use borrow.Author.Tests.{le-ltb}
use Rattle.octets.specs.Choice.{pick}
use Rattle.faults.specs.Fault.{kind_fault, fault}
use Rattle.headers.specs.Basis.{basis_in}
use Rattle.fields.specs.Table.{fields, bytes_in, field_at}
use Rattle.headers.specs.Judged.{broken, facts_in, judged_by, judged}
use Rattle.due.specs.declared.Basis.{Basis}
use Rattle.headers.proofs.BrokenRows.{turn, first_in, said, Found, found, row_found, judged_part, found_same}
use Rattle.headers.proofs.KeptRows.{kept_in, kept_none}
use Rattle.headers.proofs.FirstFour.{nothing_due, wrong_alike, Fixed, fixed}

-- the refusal of one of the first rows needs nothing due either
broken_alike : (s : List ℕ) (d e : Basis) (i : ℕ) → i < 4 → broken s d (field_at i) ≡ broken s e (field_at i)
unfolding fault
broken_alike s d e i h =
    let f = field_at i in
    ap (λ (into : ℕ). kind_fault f.2 (f.0 + into) (bytes_in s f)) (wrong_alike d e i h (bytes_in s f))

module _ (s : List ℕ) (long : 3428 ≤ length s) where
  judged_long : judged s ≡ judged_by s (basis_in s) fields
  unfolding judged
  judged_long = rw (le-ltb (length s) 3428 long)

  module _ (d : Basis) where
    early_same : first_in s d 0 4 ≡ first_in s (basis_in s) 0 4
    early_same = found_same (turn s d) (turn s (basis_in s)) 4 0 (λ j r a b. ap (λ (t : Bool). pick t r (Some j)) (nothing_due s d (basis_in s) j b))

    split : judged s ≡ said s (basis_in s) (first_in s d 0 4) (judged_by s (basis_in s) (drop 4 fields))
    split = judged_long ∙ rw early_same (judged_part s (basis_in s) 4 4 0 refl (omega arith))

    -- one of the first four rows breaks its rule
    pub early_below : (row : ℕ) → first_in s d 0 4 ≡ Some row → row < 4
    early_below row e = (row_found s d 4 4 0 refl row e).high

    pub early_refused : (row : ℕ) → first_in s d 0 4 ≡ Some row → judged s ≡ Err (broken s d (field_at row))
    early_refused row e = split ∙ rw e (ap Err (broken_alike s (basis_in s) d row (early_below row e)))

    -- or none does
    module _ (k : kept_in s d 0 4 ≡ true) where
      pub early_fixed : Fixed s
      early_fixed = fixed s d (λ i h. subst (Found s d 0 4) (kept_none s d 4 0 k) (found s d 4 4 0 refl) i (omega arith) h)

      rest : judged s ≡ said s (basis_in s) (first_in s (basis_in s) 4 36) (Ok (facts_in s))
      unfolding judged_by
      rest = split ∙ rw (kept_none s d 4 0 k) (judged_part s (basis_in s) 40 36 4 refl (omega arith))

      pub late_refused : (row : ℕ) → first_in s (basis_in s) 4 36 ≡ Some row → judged s ≡ Err (broken s (basis_in s) (field_at row))
      late_refused row l = rest ∙ rw l

      pub all_kept : kept_in s (basis_in s) 4 36 ≡ true → judged s ≡ Ok (facts_in s)
      all_kept l = rest ∙ rw (kept_none s (basis_in s) 36 4 l)
