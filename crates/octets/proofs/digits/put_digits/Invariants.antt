-- `put_digits`: what is left to put gives the whole.
use Rattle.std.proofs.Common.{◌≡◌}
use Rattle.octets.specs.Digits.{digits_of}
use Rattle.octets.specs.Pastes.{pasted}
use Rattle.octets.proofs.digits.put_digits.Given as goal

abbrev pub invariant-loop-i : goal.invariant-loop-i
invariant-loop-i l = pasted l.s l.at (digits_of l.i l.rest) ≡ pasted l.initial.s l.at (digits_of l.n l.v)
