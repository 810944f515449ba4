-- Laws of decimal digits: a number that fits is read back from its digits, and the steps of the loops over digits.
use Rattle.std.proofs.Common.{◌≡◌, ℕ, zero, suc, ◌+◌, ◌-◌, ◌*◌, ◌/◌, ◌%◌, ◌^◌, ◌<◌, ◌≤◌, true, leb, List, [], ◌∷◌, map, length, get_or, take, drop, set, sym, refl, ap, ◌∙◌, add-zero, add-one, arith, lit<, length-drop, length-take-le, drop-cons, get_or-drop, get_or-take, ext_get_or, le-leb, leb-true}
use Rattle.std.specs.List.{list_all}
use native.Mathlib.Nat.{pow-le-pow_right}
use mathlib.Core.List.{map-append}
use lib.ListN.{length-map, get_or-map}
use Rattle.octets.specs.Places.{places, value}
use Rattle.octets.specs.Digits.{is_digit, digits_at, digit_of, decimal_at, digits_of}
use Rattle.octets.specs.Pastes.{pasted}
use Rattle.octets.proofs.ChoiceLaws.{both_true, by_test}
use Rattle.octets.proofs.ListLaws.{get_or_other}
use Rattle.octets.proofs.PasteLaws.{paste_none, paste_last}
use Rattle.octets.proofs.PlaceLaws.{length_places, place_below, value_same, value_below, value_places, places_value}

pub is_digit_lem : (b : ℕ) → is_digit b ≡ true → (48 ≤ b) × (b ≤ 57)
is_digit_lem b e = let p = both_true (leb 48 b) (leb b 57) e in (leb-true 48 b p.0, leb-true b 57 p.1)

pub digit_below : (b : ℕ) → digit_of b < 10
digit_below b =
    by_test (is_digit b)
    (λ e. let p = is_digit_lem b e in rw e (omega arith))
    (λ e. rw e (lit< tt))

-- the byte of a digit counts the digit
pub digit_back : (d : ℕ) → d < 10 → digit_of (48 + d) ≡ d
digit_back d h = rw (le-leb 48 (48 + d) (omega arith), le-leb (48 + d) 57 (omega arith)) (omega arith)

-- and is a digit
pub digit_is : (d : ℕ) → d < 10 → is_digit (48 + d) ≡ true
digit_is d h = rw (le-leb 48 (48 + d) (omega arith), le-leb (48 + d) 57 (omega arith))

pub decimal_below : (s : List ℕ) (at n : ℕ) → decimal_at s at n < 10 ^ n
decimal_below s at n = value_below 10 (λ (i : ℕ). digit_of (get_or s (at + i) 0)) n (λ i k. digit_below (get_or s (at + i) 0))

-- few enough digits write a number that any type of 32 bits holds
pub decimal_small : (s : List ℕ) (at n : ℕ) → n ≤ 9 → decimal_at s at n < 10 ^ 9
decimal_small s at n h =
    let p : 10 ^ n ≤ 10 ^ 9 = pow-le-pow_right (lit< tt) h in
    omega (arith, decimal_below s at n)

pub length_digits : (n v : ℕ) → length (digits_of n v) ≡ n
length_digits n v = length-map (places 10 n v) (λ (d : ℕ). 48 + d) ∙ length_places 10 n v

-- a test of each byte of a part
pub digits_tested : (s : List ℕ) (at n : ℕ) → at + n ≤ length s → list_all is_digit (take n (drop at s)) ≡ digits_at s at n
unfolding digits_at
digits_tested s at zero h = refl
digits_tested s at (suc n) h =
    by_test (is_digit (get_or s at 0))
    (λ e. rw (drop-cons s at 0 (omega arith), e, ← add-one at) (digits_tested s (at + 1) n (omega arith)))
    (λ e. rw (drop-cons s at 0 (omega arith), e))

pub decimal_step : (s : List ℕ) (at i : ℕ) → decimal_at s at (i + 1) ≡ decimal_at s at i * 10 + digit_of (get_or s (at + i) 0)
unfolding value
decimal_step s at i = rw (add-one i)

-- digits put from the last to the first: the next one, and none left
pub digits_next : (s : List ℕ) (at n r : ℕ) → 0 < n → at + n ≤ length s
    → pasted s at (digits_of n r) ≡ pasted (set s (at + (n - 1)) (48 + r % 10)) at (digits_of (n - 1) (r / 10))
unfolding places
digits_next s at zero r p h = absurd (omega arith)
digits_next s at (suc k) r p h =
    let e : suc k - 1 ≡ k = omega arith in
    rw (e, map-append (λ (d : ℕ). 48 + d) (places 10 k (r / 10)) (r % 10 ∷ []))
    (paste_last s at k (digits_of k (r / 10)) (48 + r % 10) (length_digits k (r / 10)) (omega arith))

pub digits_none : (s : List ℕ) (at n r : ℕ) → n ≤ 0 → pasted s at (digits_of n r) ≡ s
unfolding places
digits_none s at n r h = let e : n ≡ 0 = omega arith in rw e (paste_none s at)

-- n digits stand there exactly where each of the n bytes is a digit
pub digits_all : (s : List ℕ) (at n : ℕ) → ((i : ℕ) → i < n → is_digit (get_or s (at + i) 0) ≡ true) → digits_at s at n ≡ true
unfolding digits_at
digits_all s at zero f = refl
digits_all s at (suc n) f =
    let first : is_digit (get_or s at 0) ≡ true = rw (add-zero at) at (f 0 (omega arith)) in
    rw first
    (digits_all s (at + 1) n (λ i h. let e : at + 1 + i ≡ at + suc i = omega arith in rw e (f (suc i) (omega arith))))

pub digits_each : (s : List ℕ) (at n : ℕ) → digits_at s at n ≡ true → (i : ℕ) → i < n → is_digit (get_or s (at + i) 0) ≡ true
unfolding digits_at
digits_each s at zero e i h = absurd (omega arith)
digits_each s at (suc n) e zero h = rw (add-zero at) (both_true (is_digit (get_or s at 0)) (digits_at s (at + 1) n) e).0
digits_each s at (suc n) e (suc i) h =
    let m : at + suc i ≡ at + 1 + i = omega arith in
    rw m (digits_each s (at + 1) n (both_true (is_digit (get_or s at 0)) (digits_at s (at + 1) n) e).1 i (omega arith))

-- each byte of a number's digits
digit_at : (n v i : ℕ) → i < n → get_or (digits_of n v) i 0 ≡ 48 + get_or (places 10 n v) i 0
digit_at n v i h =
    let l = length_places 10 n v in
    get_or_other (digits_of n v) i 0 48 (rw length-map (omega arith)) ∙ get_or-map (λ (d : ℕ). 48 + d) (places 10 n v) i 0

-- a number that fits is read back from its digits
pub decimal_back : (n v : ℕ) → v < 10 ^ n → decimal_at (digits_of n v) 0 n ≡ v
decimal_back n v h =
    value_same 10 (λ (i : ℕ). digit_of (get_or (digits_of n v) (0 + i) 0)) (λ (i : ℕ). get_or (places 10 n v) i 0) n
    (λ i k.
    let e : 0 + i ≡ i = omega arith in
    rw (e, digit_at n v i k) (digit_back (get_or (places 10 n v) i 0) (place_below 10 n v i (lit< tt))))
    ∙ value_places 10 n v (lit< tt) h

pub digits_are : (n v : ℕ) → digits_at (digits_of n v) 0 n ≡ true
digits_are n v =
    digits_all (digits_of n v) 0 n
    (λ i k.
    let e : 0 + i ≡ i = omega arith in
    rw (e, digit_at n v i k) (digit_is (get_or (places 10 n v) i 0) (place_below 10 n v i (lit< tt))))

-- digits that stand there are the digits of the number that they write
pub digits_back : (s : List ℕ) (at n : ℕ) → at + n ≤ length s → digits_at s at n ≡ true → digits_of n (decimal_at s at n) ≡ take n (drop at s)
digits_back s at n h e =
    let l : length (map digit_of (drop at s)) ≡ length s - at = rw (length-map, length-drop) in
    let v =
    value_same 10 (λ (i : ℕ). digit_of (get_or s (at + i) 0)) (λ (i : ℕ). get_or (map digit_of (drop at s)) i 0) n
    (λ i k. rw (get_or-map digit_of (drop at s) i 0, get_or-drop at s i 0))
    in
    let p =
    places_value 10 (map digit_of (drop at s)) n (omega arith)
    (λ i k. rw (get_or-map digit_of (drop at s) i 0) (digit_below (get_or (drop at s) i 0)))
    in
    ext_get_or 0 (digits_of n (decimal_at s at n)) (take n (drop at s))
    (length_digits n (decimal_at s at n) ∙ sym (length-take-le n (drop at s) (rw length-drop (omega arith))))
    (λ i k.
    let q : i < n = rw (length_digits n (decimal_at s at n)) at k in
    let b = is_digit_lem (get_or s (at + i) 0) (digits_each s at n e i q) in
    digit_at n (decimal_at s at n) i q
    ∙ ap (λ (x : List ℕ). 48 + get_or x i 0) (ap (places 10 n) v ∙ p)
    ∙ rw (get_or-take n (map digit_of (drop at s)) i 0 q, get_or-map digit_of (drop at s) i 0, get_or-drop at s i 0, digits_each s at n e i q)
    (rw (get_or-take n (drop at s) i 0 q, get_or-drop at s i 0) (omega arith)))
