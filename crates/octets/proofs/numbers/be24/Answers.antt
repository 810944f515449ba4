-- `be24`: the number that the bytes write, place by place.
use Rattle.octets.specs.Places.{value}
use Rattle.std.proofs.Common.{◌+◌, add-zero, arith}
use Rattle.octets.proofs.numbers.be24.Goals as goal

pub returns : goal.returns
unfolding value
returns c =
    let at = c.args.at in
    let byte = c.type_inv.s in
    rw add-zero (omega (arith, byte at, byte (at + 1), byte (at + 2)))
