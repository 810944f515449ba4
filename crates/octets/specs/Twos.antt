-- Words of 16 bits as two's complement numbers.
use Rattle.std.specs.Prelude.{ℕ, ◌+◌, ◌-◌, ℤ, pos, negsuc, ◌-ℤ◌, nat_lt}
use Rattle.octets.specs.Choice.{pick}

-- B2: a word as a two's complement number
unfoldable pub twos_of : ℕ → ℤ
twos_of w = pick (nat_lt w 0x8000) (pos w) (pos w -ℤ pos 0x10000)

-- the other way, for a number of 16 bits: its word; `negsuc n` is -(n + 1)
abbrev pub twos_word : ℤ → ℕ
twos_word (pos n) = n
twos_word (negsuc n) = 0x10000 - (n + 1)
