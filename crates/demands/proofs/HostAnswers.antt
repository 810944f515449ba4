-- An act answers a C host 0 exactly where it was done, and intake never answers 0.
use Rattle.std.specs.Prelude.{Result, Ok, Err, ⊤}
use Prim.Native.Nat.{ℕ}
use native.Mathlib.Omega.{arith}
use mathlib.Core.Path.{◌≡◌, refl, sym, ap, ◌∙◌}
use mathlib.Core.Bool.{Bool, true, false}
use mathlib.Core.List.{List}
use lib.Dec.{eqb}
use contract.Lifetimes as L
use borrow.Author.Tests.{eq-eqb, ne_eqb}
use borrow.Fn.Kinds as K
use Rattle.answers.specs.Told.{Told, refused, numbered, number_told, place_told, told, act}
use Rattle.answers.specs.declared.Refusal.{Refusal}
use Rattle.answers.proofs.Injective.{refusal_told, number_ranged}
use Rattle.years.specs.declared.Year.{Year}
use Rattle.years.proofs.YearLaws.{by_year, under_named, under_none}
use Rattle.host_answers.specs.Packed.{packed}
use Rattle.intake.specs.Intake.{taken}
use Rattle.intake.proofs.IntakeExactly.{IntakeRow, bad_headers, cut, column, surplus, fine, row}
use Rattle.dted.proofs.cell_calls.dted_intake.Reads as intake
use Rattle.dted.proofs.cell_calls.dted_intake.Kinds as intake-kinds

-- no refusal is answered as 0
never_0 : (r : Refusal) → packed (numbered r) ≡ 0 → ⊥
unfolding packed
never_0 r e =
    let told : packed (refused (number_told (numbered r)) (place_told (numbered r))) ≡ 0 = ap packed (sym (refusal_told r)) ∙ e in
    let n = number_ranged r in
    omega (arith, told, n.0, n.1)

-- an act answers 0 exactly where it was done
pub was_done : (x : Result ⊤ Refusal) → packed (told act x) ≡ 0 → x ≡ Ok tt
was_done (Ok tt) e = refl
was_done (Err r) e = absurd (never_0 r e)

pub done_0 : packed (told act (Ok tt)) ≡ 0
unfolding packed
done_0 = refl

-- an act that was judged so answers 0 exactly where it was done
pub answer_is : (x : Result ⊤ Refusal) (t : Bool) → (x ≡ Ok tt → t ≡ true) × (t ≡ true → x ≡ Ok tt) → eqb (packed (told act x)) 0 ≡ t
answer_is (Ok tt) t e = eq-eqb (packed (told act (Ok tt))) 0 done_0 ∙ sym (e.0 refl)
answer_is (Err r) true e = absurd (never_0 r (ap (λ (x : Result ⊤ Refusal). packed (told act x)) (e.1 refl) ∙ done_0))
answer_is (Err r) false e = ne_eqb (packed (numbered r)) 0 (never_0 r)

-- a refusal's number is above 0, and an accepted cell's answer holds a grid
by_row : (year : Year) (s : List ℕ) (t : Told) → IntakeRow year s t → packed t ≡ 0 → ⊥
unfolding packed
by_row year s _ (bad_headers r e) z = never_0 r z
by_row year s _ (cut h k u f short) z = omega arith
by_row year s _ (column h k u f whole r e) z = never_0 r z
by_row year s _ (surplus h f past) z = omega arith
by_row year s _ (fine cell) z = omega arith

-- so 0 is no answer of intake
pub intake_never_0 : (κs : L.Lfts 1) (a : K.Dens κs intake-kinds.ps) (r : _) (s : _) → intake.Post κs a r s → r ≡ 0 → ⊥
unfolding packed
intake_never_0 κs a r s kept e =
    let l = a.1.0.now in
    let tells : Year → Told = λ year. taken year l in
    by_year a.0
    (λ none. let told = sym (ap packed (under_none a.0 tells none)) ∙ sym kept ∙ e in omega (arith, told))
    (λ year names. by_row year l (taken year l) (row year l) (sym (ap packed (under_named a.0 tells year names)) ∙ sym kept ∙ e))
