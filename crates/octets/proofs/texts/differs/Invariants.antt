-- `differs`: what is left of `want` decides.
use Rattle.std.proofs.Common.{◌≡◌, ◌+◌, drop}
use Rattle.octets.specs.Texts.{differ}
use Rattle.octets.proofs.texts.differs.Given as goal

abbrev pub invariant-loop-i : goal.invariant-loop-i
invariant-loop-i l = differ l.s l.at l.want ≡ l.i + differ l.s (l.at + l.i) (drop l.i l.want)
