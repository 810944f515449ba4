-- `tell`: a line that broke off is told of; of an unread input there is no line.
use Rattle.std.proofs.Common.{inr}
use Rattle.std.proofs.KnownBytes.{Keeps-refl}
use Rattle.intake_program.proofs.tell.Goals as goal

pub returns-then-is_err : goal.returns-then-is_err
returns-then-is_err g c = rw c.in-Ok.is (inr (c.verdict.ensures.front, c.write_out.ensures.front))

pub returns-in-Err : goal.returns-in-Err
returns-in-Err g c = rw c.in-Err.is (Keeps-refl _, c.write_out-in-Err.ensures.front)
