-- `decimal`: the value so far is that of the digits read.
use Rattle.std.proofs.Common.{◌≡◌, ◌+◌, ◌-◌, refl, ap, ◌∙◌, arith}
use Rattle.octets.proofs.DigitLaws.{decimal_step, decimal_below, decimal_small}
use Rattle.octets.proofs.PartLaws.{byte_part}
use Rattle.octets.specs.Digits.{decimal_at}
use Rattle.octets.specs.Places.{value}
use Rattle.octets.proofs.digits.decimal.Goals as goal

pub loop-b-init : goal.loop-b-init
unfolding value
loop-b-init c = (omega arith, refl)

pub loop-b-preserved : goal.loop-b-preserved
loop-b-preserved c =
    let a = c.args in
    let e = decimal_step a.s.now a.at c.loop-b.b-index in
    let d = byte_part a.s.now a.at a.n c.loop-b.b-index (omega arith) in
    let n : a.at + a.n - a.at ≡ a.n = omega arith in
    let r = rw (n, d) at c.digit.ensures.0 in
    let b = decimal_small a.s.now a.at (c.loop-b.b-index + 1) (omega arith) in
    (omega arith, omega arith)

pub returns : goal.returns
returns c =
    let a = c.args in
    let e : c.loop-b.b-index ≡ a.n = omega arith in
    let r = c.loop-b.invariant.1 ∙ ap (decimal_at a.s.now a.at) e in
    (r, rw r (decimal_below a.s.now a.at a.n))
