-- Laws of byte sums: what is left, one byte replaced, bounds.
use Rattle.std.proofs.Common.{◌≡◌, ℕ, zero, suc, ◌+◌, ◌-◌, ◌*◌, ◌/◌, ◌%◌, ◌<◌, ◌≤◌, List, [], ◌∷◌, ◌++◌, length, get_or, take, drop, set, sym, refl, ap, ◌∙◌, add-one, arith, take-append-drop, drop-cons, drop-drop}
use Rattle.octets.specs.Sums.{sum_of, lows_of}

pub sum_step : (l : List ℕ) (i : ℕ) → i < length l → sum_of (drop i l) ≡ get_or l i 0 + sum_of (drop (i + 1) l)
unfolding sum_of
sum_step l i h = rw (add-one, drop-cons l i 0)

pub sum_append : (a b : List ℕ) → sum_of (a ++ b) ≡ sum_of a + sum_of b
unfolding sum_of
sum_append [] b = omega arith
sum_append (x ∷ a) b = omega (arith, sum_append a b)

-- a part, and what is left after it
pub sum_parts : (l : List ℕ) (i n : ℕ) → sum_of (take n (drop i l)) + sum_of (drop (i + n) l) ≡ sum_of (drop i l)
sum_parts l i n = rw (← drop-drop) (sym (sum_append (take n (drop i l)) (drop n (drop i l))) ∙ ap sum_of (take-append-drop n (drop i l)))

-- a store adds the new byte and takes the old one off
pub sum_set : (l : List ℕ) (i v : ℕ) → i < length l → sum_of (set l i v) + get_or l i 0 ≡ sum_of l + v
unfolding sum_of
sum_set [] i v h = absurd (omega arith)
sum_set (x ∷ l) zero v h = omega arith
sum_set (x ∷ l) (suc i) v h = omega (arith, sum_set l i v (omega arith))

pub sum_bound : (l : List ℕ) → ((i : ℕ) → get_or l i 0 < 256) → sum_of l ≤ 255 * length l
unfolding sum_of
sum_bound [] f = omega arith
sum_bound (x ∷ l) f =
    let first : x < 256 = f 0 in
    omega (arith, sum_bound l (λ i. f (suc i)))

pub sum_take : (n : ℕ) (l : List ℕ) → sum_of (take n l) ≤ sum_of l
unfolding sum_of
sum_take zero l = omega arith
sum_take (suc n) [] = omega arith
sum_take (suc n) (x ∷ l) = omega (arith, sum_take n l)

-- what is taken off in 16 bits and put on again, and that it is the one number of 16 bits that gives the whole
off_on : (t b : ℕ) → t < 0x10000 → b < 0x10000 → ((t + 0x10000 - b) % 0x10000 + b) % 0x10000 ≡ t
off_on t b h k = omega arith

only : (x y b : ℕ) → x < 0x10000 → y < 0x10000 → (x + b) % 0x10000 ≡ (y + b) % 0x10000 → x ≡ y
only x y b h k e = omega arith

pub lows_only : (words highs x : ℕ) → words < 0x10000 → x < 0x10000 → (x + highs % 256 * 256) % 0x10000 ≡ words → x ≡ lows_of words highs
unfolding lows_of
lows_only words highs x h k e =
    only x ((words + 0x10000 - highs % 256 * 256) % 0x10000) (highs % 256 * 256) k (omega arith) (e ∙ sym (off_on words (highs % 256 * 256) h (omega arith)))

pub lows_on : (words highs : ℕ) → words < 0x10000 → (lows_of words highs + highs % 256 * 256) % 0x10000 ≡ words
unfolding lows_of
lows_on words highs h = off_on words (highs % 256 * 256) h (omega arith)

-- the low bytes of words, one word on, where 16 bits hold their sum
one_on : (lows high a b : ℕ) → high < 256 → ((lows + high * 256) % 0x10000 + (a * 256 + b)) % 0x10000 ≡ (lows + b + (high + a) % 256 * 256) % 0x10000
one_on lows high a b h = omega arith

pub lows_step : (words highs w : ℕ) → words < 0x10000 → lows_of words highs + w % 256 < 0x10000
    → lows_of ((words + w) % 0x10000) (highs + w / 256) ≡ lows_of words highs + w % 256
lows_step words highs w k h =
    let highs' : (highs + w / 256) % 256 ≡ (highs % 256 + w / 256) % 256 = omega arith in
    let w' : w / 256 * 256 + w % 256 ≡ w = omega arith in
    let whole : (words + w) % 0x10000 ≡ (lows_of words highs + w % 256 + (highs % 256 + w / 256) % 256 * 256) % 0x10000 =
    rw (lows_on words highs k, w') at (one_on (lows_of words highs) (highs % 256) (w / 256) (w % 256) (omega arith)) in
    sym (lows_only ((words + w) % 0x10000) (highs + w / 256) (lows_of words highs + w % 256) (omega arith) h (rw highs' (sym whole)))

pub lows_none : lows_of 0 0 ≡ 0
unfolding lows_of
lows_none = refl
