-- Many words judged at once, as two's complement numbers: by the highest of them, and the highest of them turned (rules P3 and P4).
use Rattle.std.specs.Prelude.{ℕ, Bool, ℤ, pos, int_le}
use Rattle.octets.specs.Choice.{pick, both}

-- what is added to a word, in 16 bits: depths then lie from 0 on in their order; where voids are allowed one more is added, depths lie from 1 on,
-- and void lies below all
abbrev pub turn_by : Bool → ℕ
turn_by voids = pick voids 0x8001 0x8000

-- P3: where the deepest word that is allowed, 12,000 metres down, then lies
abbrev pub deepest_turned : Bool → ℤ
deepest_turned voids = pos (pick voids 12001 12000)

-- each word is allowed exactly where the highest of them, and the highest of them turned, are at most so much
abbrev pub extremes_allowed : Bool → ℤ → ℤ → Bool
extremes_allowed voids highest turned = both (int_le highest (pos 9000)) (int_le turned (deepest_turned voids))
