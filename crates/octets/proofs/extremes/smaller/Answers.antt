-- `smaller`: where neither is below the other, the two are one.
use Rattle.octets.proofs.ExtremeLaws.{smaller_is}
use Rattle.std.proofs.Common.{arith, to_z-of_z}
use Rattle.octets.proofs.extremes.smaller.Goals as goal

pub returns : goal.returns
returns c = grind (arith, to_z-of_z, smaller_is)
