-- `be16`: the number that the bytes write, place by place.
use Rattle.octets.specs.Places.{value}
use Rattle.std.proofs.Common.{add-zero, arith}
use Rattle.octets.proofs.numbers.be16.Goals as goal

pub returns : goal.returns
unfolding value
returns c = rw add-zero (omega arith)
