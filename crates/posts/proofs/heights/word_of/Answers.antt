-- `heights::word_of`: the sign, and what fifteen bits hold of the magnitude.
use Rattle.std.proofs.Common.{to_z-of_z}
use Rattle.posts.proofs.PostWords.{word_down, word_up}
use Rattle.posts.proofs.heights.word_of.Goals as goal

pub returns-then-height-lt0 : goal.returns-then-height-lt0
returns-then-height-lt0 c =
    let z = to_z-of_z c.ranges.height in
    rw (c.unsigned_abs.ensures.value, z) (word_down c.args.height (rw z at c.if-height-lt0.true))

pub returns-else-height-lt0 : goal.returns-else-height-lt0
returns-else-height-lt0 c =
    let z = to_z-of_z c.ranges.height in
    rw (c.unsigned_abs.ensures.value, z) (word_up c.args.height (rw z at c.if-height-lt0.false))
