-- Numbers in bytes, high byte first.
use Rattle.std.specs.Prelude.{ℕ, ◌+◌, ◌<◌, List, [], ◌∷◌, ◌++◌, slice_index}
use Rattle.octets.specs.Places.{places, value}

-- the number that stands in n bytes of s at `at`
abbrev pub number_at : List ℕ → ℕ → ℕ → ℕ
number_at s at n = value 256 (λ (i : ℕ). slice_index s (at + i)) n

-- the n bytes of v
abbrev pub bytes_of : ℕ → ℕ → List ℕ
bytes_of n v = places 256 n v

-- words of 16 bits as bytes, one after the other
unfoldable pub bytes_of_words : List ℕ → List ℕ
bytes_of_words [] = []
bytes_of_words (w ∷ ws) = bytes_of 2 w ++ bytes_of_words ws

-- the numbers of a list are bytes
abbrev pub Bytes : List ℕ → Type 0
Bytes s = (i : ℕ) → slice_index s i < 256
