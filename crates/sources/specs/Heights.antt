-- A writer's heights (rules W1 and B2): 16-bit numbers, or two's complement words in bytes, the high byte first.
use Rattle.std.specs.Prelude.{ℕ, ◌+◌, ◌*◌, ◌/◌, ◌≡◌, Bool, List, map, eqb, ℤ, pos, length, get_or}
use Rattle.octets.specs.Numbers.{number_at, bytes_of_words}
use Rattle.octets.specs.Parts.{listed}
use Rattle.octets.specs.Twos.{twos_of, twos_word}
use Rattle.posts.specs.Heights.{word_of}

pub data Heights : Type 0 where
  numbers : List ℤ → Heights
  in_bytes : List ℕ → Heights

-- how many heights there are; a last byte alone is none
abbrev pub count_of : Heights → ℕ
count_of (numbers zs) = length zs
count_of (in_bytes bs) = length bs / 2

-- W1, B2: height i
abbrev pub nth_height : Heights → ℕ → ℤ
nth_height (numbers zs) i = get_or zs i (pos 0)
nth_height (in_bytes bs) i = twos_of (number_at bs (2 * i) 2)

-- all heights, and those in bytes
abbrev pub heights_of : Heights → List ℤ
heights_of g = listed (nth_height g) (count_of g)

abbrev pub heights_in_bytes : List ℕ → List ℤ
heights_in_bytes bs = heights_of (in_bytes bs)

-- N10: so many heights are given, and not a byte beside them
abbrev pub Counts : Heights → ℕ → Type 0
Counts (numbers zs) n = length zs ≡ n
Counts (in_bytes bs) n = length bs ≡ 2 * n

abbrev pub counts : Heights → ℕ → Bool
counts (numbers zs) n = eqb (length zs) n
counts (in_bytes bs) n = eqb (length bs) (2 * n)

-- P6: the words of n heights, from height `first` on
abbrev pub height_words : Heights → ℕ → ℕ → List ℕ
height_words g first n = listed (λ (i : ℕ). word_of (nth_height g (first + i))) n

-- B2: the other way, for heights of 16 bits: their bytes
abbrev pub bytes_for : List ℤ → List ℕ
bytes_for zs = bytes_of_words (map twos_word zs)
