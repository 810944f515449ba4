-- Laws of numbers in bytes: what stands there is what was put, for any number of bytes.
use Rattle.std.proofs.Common.{◌≡◌, ℕ, zero, suc, ◌+◌, ◌*◌, ◌/◌, ◌%◌, ◌^◌, ◌<◌, ◌≤◌, List, [], ◌∷◌, ◌++◌, length, get_or, take, drop, sym, refl, ap, ◌∙◌, add-zero, arith, lit<, get_or-drop}
use native.Mathlib.Nat.{pow-succ', div-div-eq-div-mul}
use Rattle.std.specs.Int.{byte_at, bytes_high_first}
use Rattle.octets.specs.Places.{places, value}
use Rattle.octets.specs.Numbers.{number_at, bytes_of}
use Rattle.octets.proofs.PlaceLaws.{value_same, value_one, value_below, value_places, places_value, length_places}

pub length_bytes : (n v : ℕ) → length (bytes_of n v) ≡ n
length_bytes n v = length_places 256 n v

-- a number that fits is read back from its bytes
pub number_back : (n v : ℕ) → v < 256 ^ n → number_at (bytes_of n v) 0 n ≡ v
number_back n v h =
    value_same 256 (λ (i : ℕ). get_or (bytes_of n v) (0 + i) 0) (λ (i : ℕ). get_or (bytes_of n v) i 0) n
    (λ i k. ap (λ (m : ℕ). get_or (bytes_of n v) m 0) (omega arith))
    ∙ value_places 256 n v (lit< tt) h

-- the bytes of the number that stands there are the bytes that stand there
pub bytes_back : (s : List ℕ) (at n : ℕ) → n ≤ length (drop at s) → ((i : ℕ) → get_or s i 0 < 256)
    → bytes_of n (number_at s at n) ≡ take n (drop at s)
bytes_back s at n h f =
    ap (places 256 n) (value_same 256 (λ (i : ℕ). get_or s (at + i) 0) (λ (i : ℕ). get_or (drop at s) i 0) n (λ i k. sym (get_or-drop at s i 0)))
    ∙ places_value 256 (drop at s) n h (λ i k. rw (get_or-drop at s i 0) (f (at + i)))

-- numbers that agree in every byte are equal; equal ones that agree in all bytes but one agree in that one too
pub number_same : (s t : List ℕ) (at n : ℕ) → ((i : ℕ) → i < n → get_or s (at + i) 0 ≡ get_or t (at + i) 0) → number_at s at n ≡ number_at t at n
number_same s t at n f = value_same 256 (λ (i : ℕ). get_or s (at + i) 0) (λ (i : ℕ). get_or t (at + i) 0) n f

pub number_one : (s t : List ℕ) (at n i : ℕ) → i < n → ((j : ℕ) → j < n → (j ≡ i → ⊥) → get_or s (at + j) 0 ≡ get_or t (at + j) 0)
    → number_at s at n ≡ number_at t at n → get_or s (at + i) 0 ≡ get_or t (at + i) 0
number_one s t at n i h f e = value_one 256 (λ (j : ℕ). get_or s (at + j) 0) (λ (j : ℕ). get_or t (at + j) 0) n i (lit< tt) h f e

pub number_below : (s : List ℕ) (at n : ℕ) → ((i : ℕ) → get_or s i 0 < 256) → number_at s at n < 256 ^ n
number_below s at n f = value_below 256 (λ (i : ℕ). get_or s (at + i) 0) n (λ i k. f (at + i))

-- two bytes, as code reads them
pub number_two : (s : List ℕ) (at : ℕ) → number_at s at 2 ≡ get_or s at 0 * 256 + get_or s (at + 1) 0
unfolding value
number_two s at = rw (add-zero at) (omega arith)

-- the bytes as std has them: one place on, and all
byte_on : (i v : ℕ) → byte_at (suc i) v ≡ byte_at i (v / 256)
byte_on zero v = omega arith
byte_on (suc i) v = ap (λ (n : ℕ). n % 256) (ap (λ (p : ℕ). v / p) (pow-succ' 256 (suc i)) ∙ sym (div-div-eq-div-mul v 256 (256 ^ suc i)))

bytes_on : (n v : ℕ) → bytes_high_first (suc n) v ≡ bytes_high_first n (v / 256) ++ (v % 256 ∷ [])
bytes_on zero v = refl
bytes_on (suc n) v = rw (byte_on n v) (ap (λ (l : List ℕ). byte_at n (v / 256) ∷ l) (bytes_on n v))

pub bytes_high : (n v : ℕ) → bytes_high_first n v ≡ bytes_of n v
unfolding places
bytes_high zero v = refl
bytes_high (suc n) v = bytes_on n v ∙ ap (λ (l : List ℕ). l ++ (v % 256 ∷ [])) (bytes_high n (v / 256))

-- two bytes read with the low one first, and exchanged, as code reads them
pub swapped_number : (s : List ℕ) (at v : ℕ) → v % 256 ≡ get_or s at 0 → v / 256 ≡ get_or s (at + 1) 0 → v % 256 * 256 + v / 256 ≡ number_at s at 2
swapped_number s at v low high = rw (low, high) (sym (number_two s at))
