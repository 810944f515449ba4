-- Laws of choices: what a test that passed says of its parts, and a proof by cases on a test.
use Rattle.std.proofs.Common.{◌≡◌, ℕ, ◌<◌, ◌≤◌, Bool, true, false, eqb, sym, refl, ◌∙◌, lt_of_not-le, eqb-true}
use native.Mathlib.Decide.{dec_le}
use mathlib.Core.Bool.{false≢true}
use borrow.Author.Tests.{eqb-false}
use Rattle.octets.specs.Choice.{both, either}

pub both_true : (a b : Bool) → both a b ≡ true → (a ≡ true) × (b ≡ true)
both_true true b e = (refl, e)
both_true false b e = absurd (false≢true e)

pub both_is : (a b : Bool) → a ≡ true → b ≡ true → both a b ≡ true
both_is true b e f = f
both_is false b e f = e

pub either_first : (a b : Bool) → a ≡ true → either a b ≡ true
either_first true b e = refl
either_first false b e = absurd (false≢true e)

pub either_second : (a b : Bool) → b ≡ true → either a b ≡ true
either_second true b e = refl
either_second false b e = e

-- by cases on which of two tests holds
pub either_case : {C : Type 0} (a b : Bool) → either a b ≡ true → (a ≡ true → C) → (b ≡ true → C) → C
either_case true b e f g = f refl
either_case false b e f g = g e

-- by cases on a test, with its outcome as an equation
pub by_test : {C : Type 0} (b : Bool) → (b ≡ true → C) → (b ≡ false → C) → C
by_test true f g = f refl
by_test false f g = g refl

pub clash : {C : Type 0} {b : Bool} → b ≡ true → b ≡ false → C
clash t f = absurd (false≢true (sym f ∙ t))

-- tests that pass alike are the same
pub same_test : (a b : Bool) → (a ≡ true → b ≡ true) → (b ≡ true → a ≡ true) → a ≡ b
same_test true b f g = sym (f refl)
same_test false true f g = g refl
same_test false false f g = refl

-- by cases on an order
pub by_order : {C : Type 0} (a b : ℕ) → (a ≤ b → C) → (b < a → C) → C
by_order a b f g = elim (dec_le a b) [ yes h ↦ f h | no h ↦ g (lt_of_not-le h) ]

-- by cases on whether two numbers are equal
pub by_equal : {C : Type 0} (a b : ℕ) → (a ≡ b → C) → ((a ≡ b → ⊥) → C) → C
by_equal a b f g = by_test (eqb a b) (λ e. f (eqb-true a b e)) (λ e. g (eqb-false a b e))
