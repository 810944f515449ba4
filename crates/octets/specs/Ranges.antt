-- A whole number in a range.
use Rattle.std.specs.Prelude.{Bool, ℤ, int_le}
use Rattle.octets.specs.Choice.{both}

-- ends included
abbrev pub between : ℤ → ℤ → ℤ → Bool
between low high z = both (int_le low z) (int_le z high)
