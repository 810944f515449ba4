-- `spans::in_range`: the two tests of 16 bits are the definition's.
use Rattle.std.proofs.Common.{to_z-of_z}
use Rattle.posts.specs.Spans.{span_in_range}
use Rattle.posts.proofs.spans.in_range.Goals as goal

pub returns : goal.returns
unfolding span_in_range
returns c = rw (to_z-of_z c.ranges.lowest, to_z-of_z c.ranges.highest) at c.both.ensures
