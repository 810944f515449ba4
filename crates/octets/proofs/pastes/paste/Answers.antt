-- `paste`: the part that was lent came back as `src`.
use Rattle.std.proofs.Common.{◌+◌, ◌-◌, length, arith}
use Rattle.octets.proofs.PasteLaws.{part_back}
use Rattle.octets.proofs.pastes.paste.Goals as goal

pub returns : goal.returns
returns c =
    let a = c.args in
    rw c.copy_from_slice.ensures.after (part_back a.dst.now a.at (a.at + length a.src.now - a.at) a.src.now (omega arith))
