-- Of two numbers the larger is at most a third exactly where both are, and a third is at most the smaller exactly where it is at most both.
use Rattle.std.proofs.Common.{◌≡◌, Bool, true, false, ℤ, pos, negsuc, refl, true≢false, arith, ltb-false, ltb-true, le-leb, leb-true}
use mathlib.Core.Bool.{false≢true}
use lib.Signed.{lt_z, le_z}
use Rattle.std.proofs.lemmas.Int.{ints}
use Rattle.std.specs.Int.{int_max, int_min}
use Rattle.octets.specs.Choice.{both}
use Rattle.octets.specs.Extremes.{larger_of, smaller_of}
use Rattle.octets.proofs.ChoiceLaws.{both_true, both_is, by_test, same_test}

-- at most a number that is at most a third
le_le : (a b m : ℤ) → le_z a b ≡ true → le_z b m ≡ true → le_z a m ≡ true
le_le (pos a) (pos b) (pos m) h k = le-leb a m (omega (arith, leb-true a b h, leb-true b m k))
le_le (pos a) (pos b) (negsuc m) h k = k
le_le (pos a) (negsuc b) m h k = absurd (false≢true h)
le_le (negsuc a) b (pos m) h k = refl
le_le (negsuc a) (pos b) (negsuc m) h k = absurd (false≢true k)
le_le (negsuc a) (negsuc b) (negsuc m) h k = le-leb m a (omega (arith, leb-true b a h, leb-true m b k))

-- the machine's test of two numbers, and its failure
lt_le : (a b : ℤ) → lt_z a b ≡ true → le_z a b ≡ true
lt_le (pos a) (pos b) h = le-leb a b (omega (arith, ltb-true a b h))
lt_le (pos a) (negsuc b) h = h
lt_le (negsuc a) (pos b) h = refl
lt_le (negsuc a) (negsuc b) h = le-leb b a (omega (arith, ltb-true b a h))

not_lt_le : (a b : ℤ) → lt_z a b ≡ false → le_z b a ≡ true
not_lt_le (pos a) (pos b) h = le-leb b a (ltb-false a b h)
not_lt_le (pos a) (negsuc b) h = refl
not_lt_le (negsuc a) (pos b) h = absurd (true≢false h)
not_lt_le (negsuc a) (negsuc b) h = le-leb a b (ltb-false b a h)

-- the larger and the smaller as std has them
pub larger_is : (a b : ℤ) → int_max a b ≡ larger_of a b
unfolding larger_of
larger_is a b = by_test (lt_z a b) (λ h. rw h (grind (arith, ints))) (λ h. rw h (grind (arith, ints)))

pub smaller_is : (a b : ℤ) → int_min a b ≡ smaller_of a b
unfolding smaller_of
smaller_is a b = by_test (lt_z a b) (λ h. rw h (grind (arith, ints))) (λ h. rw h (grind (arith, ints)))

-- of a test and one that follows from it, the first says all
first_says : (p q : Bool) → (p ≡ true → q ≡ true) → p ≡ both p q
first_says p q f = same_test p (both p q) (λ h. both_is p q h (f h)) (λ h. (both_true p q h).0)

second_says : (p q : Bool) → (q ≡ true → p ≡ true) → q ≡ both p q
second_says p q f = same_test q (both p q) (λ h. both_is p q (f h) h) (λ h. (both_true p q h).1)

module _ (a b m : ℤ) where
  pub at_most : le_z (larger_of a b) m ≡ both (le_z a m) (le_z b m)
  unfolding larger_of
  at_most =
      by_test (lt_z a b)
      (λ h. rw h (second_says (le_z a m) (le_z b m) (le_le a b m (lt_le a b h))))
      (λ h. rw h (first_says (le_z a m) (le_z b m) (le_le b a m (not_lt_le a b h))))

  pub at_least : le_z m (smaller_of a b) ≡ both (le_z m a) (le_z m b)
  unfolding smaller_of
  at_least =
      by_test (lt_z a b)
      (λ h. rw h (first_says (le_z m a) (le_z m b) (λ k. le_le m a b k (lt_le a b h))))
      (λ h. rw h (second_says (le_z m a) (le_z m b) (λ k. le_le m b a k (not_lt_le a b h))))
