-- `bytes_of`: what the machine's subtraction leaves is the definition's.
use Rattle.octets.specs.Sums.{lows_of}
use Rattle.std.proofs.Common.{arith}
use Rattle.octets.proofs.sums.bytes_of.Goals as goal

pub returns : goal.returns
unfolding lows_of
returns c = omega arith
