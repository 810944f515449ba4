-- Decimal digits of a fixed width: the bytes 30 to 39 hex, the high digit first.
use Rattle.std.specs.Prelude.{ℕ, zero, suc, ◌+◌, ◌-◌, Bool, true, List, map, nat_le, slice_index}
use Rattle.octets.specs.Choice.{pick, both}
use Rattle.octets.specs.Places.{places, value}

abbrev pub is_digit : ℕ → Bool
is_digit b = both (nat_le 0x30 b) (nat_le b 0x39)

-- n digits stand in s at `at`
unfoldable pub digits_at : List ℕ → ℕ → ℕ → Bool
digits_at s at zero = true
digits_at s at (suc n) = both (is_digit (slice_index s at)) (digits_at s (at + 1) n)

-- what a digit counts, and 0 for any other byte
abbrev pub digit_of : ℕ → ℕ
digit_of b = pick (is_digit b) (b - 0x30) 0

-- the number that n digits of s at `at` write
abbrev pub decimal_at : List ℕ → ℕ → ℕ → ℕ
decimal_at s at n = value 10 (λ (i : ℕ). digit_of (slice_index s (at + i))) n

-- the last n digits of v
abbrev pub digits_of : ℕ → ℕ → List ℕ
digits_of n v = map (λ (d : ℕ). 0x30 + d) (places 10 n v)
