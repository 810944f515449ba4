-- `number_of`: the machine's reading of the word is the definition's.
use Rattle.octets.proofs.TwosLaws.{twos_read}
use Rattle.std.proofs.Common.{arith, to_z-of_z}
use Rattle.octets.proofs.twos.number_of.Goals as goal

pub returns : goal.returns
returns c = grind (arith, to_z-of_z, twos_read)
