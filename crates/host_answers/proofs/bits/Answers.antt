-- `bits`: the same number, without its sign.
use mir.Facts.{to_z-of_z}
use Rattle.host_answers.proofs.PostBits.{unsigned_bits}
use Rattle.host_answers.proofs.bits.Goals as goal

pub returns : goal.returns
returns c = rw (c.from.ensures, c.cast_unsigned.ensures, to_z-of_z c.ranges.height) (unsigned_bits c.args.height c.ranges.height)
