-- `put_digits`: what is left to put gives the whole.
use Rattle.std.proofs.Common.{sym, ◌∙◌, arith}
use Rattle.octets.proofs.DigitLaws.{digits_next, digits_none}
use Rattle.octets.proofs.digits.put_digits.Goals as goal

pub loop-i-preserved : goal.loop-i-preserved
loop-i-preserved c =
    let a = c.args in
    sym (digits_next c.loop-i.s a.at c.loop-i.i c.loop-i.rest (omega arith) (omega arith)) ∙ c.loop-i.invariant

pub returns : goal.returns
returns c =
    let a = c.args in
    sym (digits_none c.loop-i.s a.at c.loop-i.i c.loop-i.rest (omega arith)) ∙ c.loop-i.invariant
