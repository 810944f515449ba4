-- W1, N9, N14: 9 with the lowest item, else the rest: exactly the first row that holds is answered, where that is so of the rest.
use Rattle.std.specs.Prelude.{Option, Some, None, Result, Ok, Err, ⊤}
use Rattle.answers.specs.declared.Refusal.{Refusal}
use Prim.Native.Nat.{ℕ, zero, suc}
use native.Mathlib.Omega.{arith}
use mathlib.Core.Path.{◌≡◌, refl, ap, ◌∙◌}
use mathlib.Core.Bool.{Bool, true}
use mathlib.Core.List.{List}
use Rattle.octets.specs.Tests.{every}
use Rattle.answers.specs.declared.Refusal.TheVariants.{Item}
use Rattle.description.specs.Items.{first_failed}
use Rattle.description.proofs.RangedItems.{Lowest, first_lowest, first_exactly, failed_from}
use Rattle.cell_writer.specs.Cell.{after_item}

-- where no item is out of range, the rest is answered
pub none_bad : (bad : Option ℕ) (rest : Result ⊤ Refusal) → bad ≡ None → after_item bad rest ≡ rest
none_bad bad rest e = rw e

-- and where one is, the rest is not asked
pub one_bad : (bad : Option ℕ) (rest other : Result ⊤ Refusal) → (bad ≡ None → ⊥) → after_item bad rest ≡ after_item bad other
one_bad None rest other n = absurd (n refl)
one_bad (Some item) rest other n = refl

-- the rows in the call's order, each where it holds and none before it does
pub data ItemRow (tests : List Bool) (Rest : Result ⊤ Refusal → Type 0) : Result ⊤ Refusal → Type 0 where
  -- 9, with the lowest item
  item : (n : ℕ) → Lowest tests n → ItemRow tests Rest (Err (Item (suc n)))
  -- a row of the rest
  then_rest : (x : Result ⊤ Refusal) → every tests ≡ true → Rest x → ItemRow tests Rest x

-- items are numbered from 1 on
none_0 : (tests : List Bool) → first_failed 1 tests ≡ Some 0 → ⊥
none_0 tests e = omega (arith, failed_from 1 0 tests e)

module _ (tests : List Bool) (rest : Result ⊤ Refusal) (Rest : Result ⊤ Refusal → Type 0) where
  -- every row's answer is given
  pub given : ((x : Result ⊤ Refusal) → Rest x → rest ≡ x) → (x : Result ⊤ Refusal) → ItemRow tests Rest x → after_item (first_failed 1 tests) rest ≡ x
  given f _ (item n low) = rw (first_lowest 1 tests n low) (ap (λ (m : ℕ). Err (Item m)) (omega arith))
  given f x (then_rest _ held r) = none_bad _ rest ((first_exactly tests).0.1 held) ∙ f x r

  by_item : Rest rest → (found : Option ℕ) → first_failed 1 tests ≡ found → ItemRow tests Rest (after_item found rest)
  by_item r None e = then_rest rest ((first_exactly tests).0.0 e) r
  by_item r (Some zero) e = absurd (none_0 tests e)
  by_item r (Some (suc n)) e = item n ((first_exactly tests).1 n e)

  -- and every answer is a row's
  pub row : Rest rest → ItemRow tests Rest (after_item (first_failed 1 tests) rest)
  row r = by_item r (first_failed 1 tests) refl

-- what an accepted call was given
module _ (tests : List Bool) (rest : Result ⊤ Refusal) where
  is_ready : (found : Option ℕ) → first_failed 1 tests ≡ found → after_item found rest ≡ Ok tt → (every tests ≡ true) × (rest ≡ Ok tt)
  is_ready None e done = ((first_exactly tests).0.0 e, done)
  is_ready (Some n) e done = cc

  pub ready : after_item (first_failed 1 tests) rest ≡ Ok tt → (every tests ≡ true) × (rest ≡ Ok tt)
  ready done = is_ready (first_failed 1 tests) refl done
