-- Decimal numbers without zeros in front: how many digits there are, that they read as the number, and that the first is no zero.
use Prim.Native.Nat.{ℕ, zero, suc, ◌+◌, ◌*◌, ◌/◌, ◌%◌, ◌^◌, ◌<◌, ◌≤◌}
use native.Mathlib.Nat.{pow-suc}
use native.Mathlib.Omega.{arith}
use mathlib.Core.Path.{◌≡◌, refl, sym, ap, ◌∙◌}
use mathlib.Core.List.{[], ◌∷◌, map-append}
use lib.ListN.{get_or, get_or-append}
use borrow.Author.Tests.{lt-ltb, le-ltb}
use Rattle.octets.specs.Places.{places}
use Rattle.octets.specs.Digits.{decimal_at, digits_of}
use Rattle.octets.proofs.ChoiceLaws.{by_order}
use Rattle.octets.proofs.DigitLaws.{decimal_back, length_digits}
use Rattle.printing.specs.Line.{width_in, width_of, decimal_of}

-- one digit, or one more than a tenth has
in_few : (n v : ℕ) → v < 10 → width_in n v ≡ 1
unfolding width_in
in_few zero v h = refl
in_few (suc n) v h = rw (lt-ltb v 10 h)

in_on : (n v : ℕ) → 10 ≤ v → width_in (suc n) v ≡ suc (width_in n (v / 10))
unfolding width_in
in_on n v h = rw (le-ltb v 10 h)

-- the turns do not matter where there are enough
enough : (n m v : ℕ) → v ≤ n → v ≤ m → width_in n v ≡ width_in m v
enough zero m v h k = in_few zero v (omega arith) ∙ sym (in_few m v (omega arith))
enough (suc n) zero v h k = in_few (suc n) v (omega arith) ∙ sym (in_few zero v (omega arith))
enough (suc n) (suc m) v h k =
    by_order 10 v
    (λ u. in_on n v u ∙ ap suc (enough n m (v / 10) (omega arith) (omega arith)) ∙ sym (in_on m v u))
    (λ u. in_few (suc n) v u ∙ sym (in_few (suc m) v u))

pub width_few : (v : ℕ) → v < 10 → width_of v ≡ 1
unfolding width_of
width_few v h = in_few v v h

pub width_on : (v : ℕ) → 10 ≤ v → width_of v ≡ suc (width_of (v / 10))
unfolding width_of
width_on zero h = absurd (omega arith)
width_on (suc n) h = in_on n (suc n) h ∙ ap suc (enough n (suc n / 10) (suc n / 10) (omega arith) (omega arith))

-- by the number of turns, for every number
turns : (P : ℕ → Type 0) → ((v : ℕ) → v < 10 → P v) → ((v : ℕ) → 10 ≤ v → P (v / 10) → P v) → (n v : ℕ) → v ≤ n → P v
turns P few on zero v h = few v (omega arith)
turns P few on (suc n) v h = by_order 10 v (λ u. on v u (turns P few on n (v / 10) (omega arith))) (λ u. few v u)

pub width_some : (v : ℕ) → 1 ≤ width_of v
width_some v =
    by_order 10 v
    (λ u. rw (width_on v u) (omega arith))
    (λ u. rw (width_few v u) (omega arith))

-- a number below 10 to the n has at most n digits
pub width_most : (n v : ℕ) → v < 10 ^ suc n → width_of v ≤ suc n
width_most zero v h = rw (width_few v (omega arith)) (omega arith)
width_most (suc n) v h =
    let p : 10 ^ suc (suc n) ≡ 10 ^ suc n * 10 = pow-suc 10 (suc n) in
    by_order 10 v
    (λ u. let t = width_most n (v / 10) (omega arith) in rw (width_on v u) (omega arith))
    (λ u. rw (width_few v u) (omega arith))

-- every number of 64 bits has at most 20
pub width_64 : (v : ℕ) → v < 18446744073709551616 → width_of v ≤ 20
width_64 v h = width_most 19 v (omega arith)

-- and is below 10 to the number of its digits
pub width_fits : (v : ℕ) → v < 10 ^ width_of v
width_fits v =
    turns (λ (w : ℕ). w < 10 ^ width_of w)
    (λ w h. rw (width_few w h) (omega arith))
    (λ w h t.
    let p : 10 ^ suc (width_of (w / 10)) ≡ 10 ^ width_of (w / 10) * 10 = pow-suc 10 (width_of (w / 10)) in
    rw (width_on w h) (omega arith))
    v v (omega arith)

-- S7: the digits read as the number
pub decimal_read : (v : ℕ) → decimal_at (decimal_of v) 0 (width_of v) ≡ v
decimal_read v = decimal_back (width_of v) v (width_fits v)

-- S7: the first digit is no zero, but of the number 0
first_on : (v n : ℕ) → 1 ≤ n → get_or (digits_of (suc n) v) 0 0 ≡ get_or (digits_of n (v / 10)) 0 0
unfolding places
first_on v n h =
    let l = length_digits n (v / 10) in
    rw (map-append (λ (d : ℕ). 48 + d) (places 10 n (v / 10)) (v % 10 ∷ []))
    (get_or-append (digits_of n (v / 10)) ((48 + v % 10) ∷ []) 0 0 (omega arith))

first_few : (v : ℕ) → v < 10 → get_or (digits_of 1 v) 0 0 ≡ 48 → v ≡ 0
unfolding places
first_few v h e = omega arith

pub first_not_zero : (v : ℕ) → get_or (decimal_of v) 0 0 ≡ 48 → v ≡ 0
first_not_zero v =
    turns (λ (w : ℕ). get_or (decimal_of w) 0 0 ≡ 48 → w ≡ 0)
    (λ w h e. first_few w h (rw (width_few w h) at e))
    (λ w h t e.
    let z : w / 10 ≡ 0 = t (sym (first_on w (width_of (w / 10)) (width_some (w / 10))) ∙ (rw (width_on w h) at e)) in
    absurd (omega arith))
    v v (omega arith)
