-- Texts and digits are bytes.
use Rattle.std.proofs.Common.{◌≡◌, ℕ, zero, suc, ◌+◌, ◌<◌, Bool, true, ltb, List, [], ◌∷◌, map, get_or, replicate, arith, lit<, ltb-true}
use Rattle.octets.specs.Digits.{digits_of}
use Rattle.octets.specs.Numbers.{Bytes}
use Rattle.octets.specs.Places.{places}
use Rattle.octets.specs.Tests.{every}
use Rattle.octets.proofs.ChoiceLaws.{both_true}
use Rattle.octets.proofs.PlaceLaws.{place_below}

-- a text that is written out
abbrev pub small : ℕ → Bool
small b = ltb b 256

pub listed_bytes : (t : List ℕ) → every (map small t) ≡ true → Bytes t
listed_bytes [] e i = lit< tt
listed_bytes (b ∷ t) e zero = ltb-true b 256 (both_true (small b) (every (map small t)) e).0
listed_bytes (b ∷ t) e (suc i) = listed_bytes t (both_true (small b) (every (map small t)) e).1 i

pub one_byte : (b : ℕ) → b < 256 → Bytes (b ∷ [])
one_byte b h zero = h
one_byte b h (suc i) = lit< tt

pub repeated_bytes : (n b : ℕ) → b < 256 → Bytes (replicate n b)
repeated_bytes zero b h i = lit< tt
repeated_bytes (suc n) b h zero = h
repeated_bytes (suc n) b h (suc i) = repeated_bytes n b h i

-- digits
counted : (ds : List ℕ) → ((i : ℕ) → get_or ds i 0 < 10) → Bytes (map (λ (d : ℕ). 0x30 + d) ds)
counted [] f i = lit< tt
counted (d ∷ ds) f zero = let h : d < 10 = f 0 in omega arith
counted (d ∷ ds) f (suc i) = counted ds (λ j. f (suc j)) i

pub digits_bytes : (n v : ℕ) → Bytes (digits_of n v)
digits_bytes n v = counted (places 10 n v) (λ i. place_below 10 n v i (lit< tt))
