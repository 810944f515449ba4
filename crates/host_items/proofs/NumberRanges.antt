-- Numbers in a range: what they are, and what the machine makes of them.
use Prim.Native.Nat.{ℕ, zero, suc, ◌+◌, ◌*◌, ◌-◌, ◌^◌, ◌<◌, ◌≤◌}
use native.Mathlib.Omega.{arith}
use mathlib.Core.Path.{◌≡◌, refl, ap}
use mathlib.Core.Bool.{Bool, true, false, false≢true}
use lib.Dec.{T, leb, ltb}
use lib.IntN.{ℤ, pos, negsuc, neg_ℤ, nat_abs, ◌+ℤ◌, ◌-ℤ◌}
use lib.Signed.{le_z, non_neg}
use mir.Syntax.{Width}
use mir.Val.{Fits, bits}
use borrow.Author.Tests.{leb-true, lt-ltb, le-ltb, le-leb, lt-leb, ne_eqb}
use Rattle.octets.proofs.ChoiceLaws.{both_true, clash, by_order}
use Rattle.rules.specs.Rules.{is_letter, is_version}
use Rattle.octets.specs.Ranges.{between}
use Rattle.host_items.specs.Items.{counted}

-- a number between two that are not below 0
pub record Ranged (low high : ℕ) (z : ℤ) : Type 0 where
  pub size : ℕ
  pub is : z ≡ pos size
  pub at_least : low ≤ size
  pub at_most : size ≤ high

pub ranged : (low high : ℕ) (z : ℤ) → between (pos low) (pos high) z ≡ true → Ranged low high z
ranged low high (pos n) e =
    let t = both_true (leb low n) (leb n high) e in
    record { size = n; is = refl; at_least = leb-true low n t.0; at_most = leb-true n high t.1 }
ranged low high (negsuc n) e = absurd (false≢true e)

-- so it counts from 0
pub from_zero : (low high : ℕ) (z : ℤ) → between (pos low) (pos high) z ≡ true → le_z (pos 0) z ≡ true
from_zero low high z e = let r = ranged low high z e in rw r.is (le-leb 0 r.size (omega arith))

pub byte : (n : ℕ) → n ≤ 255 → between (pos 0) (pos 255) (pos n) ≡ true
byte n h = rw (le-leb 0 n (omega arith)) (le-leb n 255 h)

-- a test that only bytes pass, and not 0
pub record OfBytes (test : ℕ → Bool) : Type 0 where
  pub nought : test 0 ≡ false
  pub past : (n : ℕ) → 255 < n → test n ≡ false

pub letters : OfBytes is_letter
letters = record {
  nought = refl;
  past = λ n h. rw (ne_eqb n 0x53 (λ q. omega arith), ne_eqb n 0x43 (λ q. omega arith), ne_eqb n 0x55 (λ q. omega arith), ne_eqb n 0x52 (λ q. omega arith));
}

pub versions : OfBytes is_version
versions = record { nought = refl; past = λ n h. rw (le-leb 0x41 n (omega arith), lt-leb n 0x5A (omega arith)) }

-- a number whose count passes is a byte and is its count
module _ (test : ℕ → Bool) (law : OfBytes test) where
  pub passes_byte : (z : ℤ) → test (counted z) ≡ true → between (pos 0) (pos 255) z ≡ true
  passes_byte (pos n) e = by_order n 255 (byte n) (λ h. clash e (law.past n h))
  passes_byte (negsuc n) e = clash e law.nought

  pub passes_counted : (z : ℤ) → test (counted z) ≡ true → pos (counted z) ≡ z
  passes_counted (pos n) e = refl
  passes_counted (negsuc n) e = clash e law.nought

-- an angle, and how far it lies from its axis' end
pub record Angled (side : ℕ) (z : ℤ) : Type 0 where
  pub size : ℕ
  pub up : z +ℤ pos side ≡ pos size
  pub small : size < 2 * side
  pub back : pos size -ℤ pos side ≡ z

pub angled : (side : ℕ) (z : ℤ) → 0 < side → between (neg_ℤ (pos side)) (pos (side - 1)) z ≡ true → Angled side z
angled zero z h e = absurd (omega arith)
angled (suc s) (pos n) h e =
    let m : n ≤ s = omega (arith, leb-true n (suc s - 1) e) in
    record {
      size = n + suc s;
      up = refl;
      small = omega arith;
      back = rw (le-ltb (n + suc s) (suc s) (omega arith)) (ap pos (omega arith));
    }
angled (suc s) (negsuc n) h e =
    let m : n ≤ s = leb-true n s (both_true (leb n s) true e).0 in
    record {
      size = s - n;
      up = rw (le-ltb (suc s) (suc n) (omega arith)) (ap pos (omega arith));
      small = omega arith;
      back = rw (lt-ltb (s - n) (suc s) (omega arith)) (ap negsuc (omega arith));
    }

-- a cast of a number that is not below 0
pub cast : (w : Width) (z : ℤ) (n : ℕ) → z ≡ pos n → n < 2 ^ bits w → T (non_neg z) × Fits w (nat_abs z)
cast w z n e h = rw e (tt, record { fits = h })

pub cast_is : (y z : ℤ) (n : ℕ) → y ≡ pos n → z ≡ pos n → nat_abs y ≡ counted z
cast_is y z n e f = rw (e, f)

-- a difference of numbers, and its sum with what was taken
pub difference_back : (a b : ℕ) → pos a -ℤ pos b +ℤ pos b ≡ pos a
difference_back a zero = ap pos (omega arith)
difference_back a (suc b) =
    by_order (suc b) a
    (λ m. rw (le-ltb a (suc b) m) (ap pos (omega arith)))
    (λ m.
    let e : ltb (suc b) (suc (suc b - suc a)) ≡ false = le-ltb (suc b) (suc (suc b - suc a)) (omega arith) in
    rw (lt-ltb a (suc b) m, e) (ap pos (omega arith)))
