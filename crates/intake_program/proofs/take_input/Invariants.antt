-- `take_input`: steps go on from a state that "more" led to, with fewer turns left each time.
use Rattle.std.proofs.Common.{◌≡◌, length}
use Rattle.steps.specs.Turns.{Going, turns_left}
use Rattle.intake_program.specs.Found.{year_named}
use Rattle.intake_program.proofs.take_input.Given as goal

abbrev pub invariant-loop-n : goal.invariant-loop-n
invariant-loop-n g l = (length l.buffer ≡ 7214) × Going year_named l.steps.phase

abbrev pub decreases-loop-n : goal.decreases-loop-n
decreases-loop-n g l = turns_left l.steps.phase
