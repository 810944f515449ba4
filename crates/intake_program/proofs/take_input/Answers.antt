-- `take_input`: steps go on from a state that "more" led to, with fewer turns left each time.
use Rattle.std.proofs.Common.{◌≡◌, ℕ, ◌≤◌, List, length, take, refl, arith, rules, length-take}
use Rattle.steps.specs.Turns.{new}
use Rattle.steps.proofs.TurnsLeft.{step_going, step_less}
use Rattle.intake_program.proofs.take_input.Goals as goal

-- a piece is no longer than what was wanted
piece-within : (n asked due : ℕ) (buffer : List ℕ) → n ≤ asked → asked ≡ due → length (take n buffer) ≤ due
piece-within n asked due buffer h e = omega (arith, length-take n buffer)

pub loop-n-init : goal.loop-n-init
loop-n-init g c = (refl, rw c.new-steps.ensures new)

pub loop-n-smaller : goal.loop-n-smaller
loop-n-smaller g c = search (step_less, rules)

pub loop-n-preserved : goal.loop-n-preserved
loop-n-preserved g c =
    let within = piece-within c.in_ok-n.n c.wanted.result _ c.fill.new.buffer c.in_ok-n.ensures c.wanted.ensures.0 in
    (search rules, step_going c.step-stepped.ensures c.loop-n.invariant.1 c.is_final.ensures c.if-is_final.false within)
