-- `differs`: what is left of `want` decides.
use Rattle.std.proofs.Common.{arith}
use Rattle.octets.proofs.TextLaws.{differ_here, differ_on, differ_done}
use Rattle.octets.proofs.texts.differs.Goals as goal

pub returns-then-s-at : goal.returns-then-s-at
returns-then-s-at c =
    let a = c.args in
    (omega (arith, differ_here a.s.now a.want.now a.at c.loop-i.i (omega arith) c.if-s-at.true), omega arith)

pub loop-i-preserved : goal.loop-i-preserved
loop-i-preserved c =
    let a = c.args in
    omega (arith, differ_on a.s.now a.want.now a.at c.loop-i.i (omega arith) c.if-s-at.false)

pub returns : goal.returns
returns c =
    let a = c.args in
    (omega (arith, differ_done a.s.now a.want.now a.at c.loop-i.i (omega arith) (omega arith)), omega arith)
