-- The numbers of a grid within its ranges have four digits.
use Prim.Native.Nat.{◌<◌}
use native.Mathlib.Omega.{arith}
use Rattle.layout.specs.Ranges.{Ranged}
use Rattle.layout.specs.declared.Grid.{Grid}
use Rattle.fields.specs.declared.Number.{Number}
use Rattle.fields.specs.declared.Number.TheVariants as number
use Rattle.due.specs.Due.{number_of}

pub number_small : (g : Grid) → Ranged g → (n : Number) → number_of n g < 10000
number_small g r number.LatitudeInterval = omega (arith, r.latitude_high)
number_small g r number.LongitudeInterval = omega (arith, r.longitude_high)
number_small g r number.Columns = omega (arith, r.columns_high)
number_small g r number.Posts = omega (arith, r.posts_high)
