-- Numbers written in places of a base, the high place first: base 256 in bytes, base 10 in digits.
use Rattle.std.specs.Prelude.{ℕ, zero, suc, ◌+◌, ◌*◌, ◌/◌, ◌%◌, List, [], ◌∷◌, ◌++◌}

-- the last n places of v
unfoldable pub places : ℕ → ℕ → ℕ → List ℕ
places base zero v = []
places base (suc n) v = places base n (v / base) ++ (v % base ∷ [])

-- the number whose n places are p 0, p 1, ..
unfoldable pub value : ℕ → (ℕ → ℕ) → ℕ → ℕ
value base p zero = 0
value base p (suc n) = value base p n * base + p n
