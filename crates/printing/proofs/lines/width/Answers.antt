-- `width`: the digits counted so far and those of what is left are one more than all of them.
use Rattle.printing.proofs.Widths.{width_few, width_on, width_64}
use native.Mathlib.Omega.{arith}
use Rattle.printing.proofs.lines.width.Goals as goal

pub loop-rest-init : goal.loop-rest-init
loop-rest-init c = (omega arith, width_64 _ (omega arith))

pub loop-rest-preserved : goal.loop-rest-preserved
loop-rest-preserved c = let t = width_on c.loop-rest.rest (omega arith) in (omega arith, c.loop-rest.invariant.1)

pub returns : goal.returns
returns c = let t = width_few c.loop-rest.rest (omega arith) in (omega arith, omega arith)
