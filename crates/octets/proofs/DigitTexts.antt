-- The digits of a number stand exactly where digits stand that write it.
use Rattle.std.proofs.Common.{◌≡◌, ℕ, ◌+◌, ◌^◌, ◌<◌, ◌≤◌, true, eqb, List, length, take, drop, sym, ap, ◌∙◌, arith, eq-eqb, eqb-true}
use Rattle.octets.specs.Choice.{both}
use Rattle.octets.specs.Digits.{digits_at, decimal_at, digits_of}
use Rattle.octets.specs.Texts.{has}
use Rattle.octets.proofs.ChoiceLaws.{both_true, same_test}
use Rattle.octets.proofs.DigitLaws.{length_digits, decimal_back, digits_are, digits_back}
use Rattle.octets.proofs.PartLaws.{decimal_part, digits_part}
use Rattle.octets.proofs.TextLaws.{has_part, part_has}

module _ (s : List ℕ) (at n v : ℕ) (small : v < 10 ^ n) (there : at + n ≤ length s) where
  -- the part that holds the text
  stands : has s at (digits_of n v) ≡ true → take n (drop at s) ≡ digits_of n v
  stands e =
      let l = length_digits n v in
      ap (λ (k : ℕ). take k (drop at s)) (sym l) ∙ has_part s at (digits_of n v) (omega arith) e

  written : has s at (digits_of n v) ≡ true → both (digits_at s at n) (eqb (decimal_at s at n) v) ≡ true
  written e =
      let p = stands e in
      let digits : digits_at s at n ≡ true = digits_part s at n ∙ ap (λ (t : List ℕ). digits_at t 0 n) p ∙ digits_are n v in
      let number : decimal_at s at n ≡ v = decimal_part s at n ∙ ap (λ (t : List ℕ). decimal_at t 0 n) p ∙ decimal_back n v small in
      rw digits (eq-eqb (decimal_at s at n) v number)

  read : both (digits_at s at n) (eqb (decimal_at s at n) v) ≡ true → has s at (digits_of n v) ≡ true
  read e =
      let p = both_true (digits_at s at n) (eqb (decimal_at s at n) v) e in
      let l = length_digits n v in
      let same : digits_of n v ≡ take n (drop at s) = ap (digits_of n) (sym (eqb-true (decimal_at s at n) v p.1)) ∙ digits_back s at n there p.0 in
      part_has s at (digits_of n v) (omega arith) (ap (λ (k : ℕ). take k (drop at s)) l ∙ sym same)

  pub has_digits : has s at (digits_of n v) ≡ both (digits_at s at n) (eqb (decimal_at s at n) v)
  has_digits = same_test (has s at (digits_of n v)) (both (digits_at s at n) (eqb (decimal_at s at n) v)) written read
