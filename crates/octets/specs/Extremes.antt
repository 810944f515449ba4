-- The larger and the smaller of two whole numbers.
use Rattle.std.specs.Prelude.{ℤ, int_lt}
use Rattle.octets.specs.Choice.{pick}

unfoldable pub larger_of : ℤ → ℤ → ℤ
larger_of a b = pick (int_lt a b) b a

unfoldable pub smaller_of : ℤ → ℤ → ℤ
smaller_of a b = pick (int_lt a b) a b
