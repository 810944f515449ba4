-- `decimal`: the value so far is that of the digits read.
use Rattle.std.proofs.Common.{◌≡◌, ◌^◌, ◌<◌}
use Rattle.octets.specs.Digits.{decimal_at}
use Rattle.octets.proofs.digits.decimal.Given as goal

abbrev pub invariant-loop-b : goal.invariant-loop-b
invariant-loop-b l = (l.v < 10 ^ 9) × (l.v ≡ decimal_at l.fn.s l.at l.b-index)
