-- `put_heights`: each is below 9,001.
use Rattle.std.proofs.Common.{◌<◌}
use Rattle.vectors.proofs.stream.put_heights.Given as goal

abbrev pub invariant-loop-height : goal.invariant-loop-height
invariant-loop-height l = l.metres < 9001
