-- Many heights judged at once, by the lowest and the highest of them (rules P3 and P5).
use Rattle.std.specs.Prelude.{Bool, ℤ, pos, neg_ℤ, int_le}
use Rattle.octets.specs.Choice.{pick, both}
use Rattle.posts.specs.Heights.{void_number, is_void}

-- P5: void's number where voids are allowed; else 0, which every cell may hold
abbrev pub passed_over : Bool → ℤ
passed_over voids = pick voids void_number (pos 0)

-- a height as it counts among many: 0 in the place of a void that is allowed
unfoldable pub counted_as : Bool → ℤ → ℤ
counted_as voids z = pick (both voids (is_void z)) (pos 0) z

-- P3: all heights from the lowest to the highest are in range
unfoldable pub span_in_range : ℤ → ℤ → Bool
span_in_range lowest highest = both (int_le (neg_ℤ (pos 12000)) lowest) (int_le highest (pos 9000))
