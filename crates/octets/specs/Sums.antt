-- The sum of bytes as unsigned 8-bit values.
use Rattle.std.specs.Prelude.{ℕ, ◌+◌, ◌-◌, ◌*◌, ◌%◌, List, [], ◌∷◌}

unfoldable pub sum_of : List ℕ → ℕ
sum_of [] = 0
sum_of (x ∷ s) = x + sum_of s

-- the sum of the low bytes of words, where 16 bits hold it: from 16 bits of the words' sum, and the sum of their high bytes
unfoldable pub lows_of : ℕ → ℕ → ℕ
lows_of words highs = (words + 0x10000 - highs % 256 * 256) % 0x10000
