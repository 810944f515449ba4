-- `intake_under`: the headers, then the columns of the frame that they give.
use Rattle.std.specs.Prelude.{Ok}
use Rattle.std.proofs.Common.{rules}
use Rattle.headers.proofs.Exactly.{good_follows}
use Rattle.headers.proofs.FirstFour.{good_facts}
use Rattle.headers.specs.Judged.{judged}
use Rattle.intake.specs.Intake.{taken}
use mathlib.Core.Path.{◌≡◌, sym}
use Rattle.intake.proofs.intake_under.Goals as goal
use Rattle.intake.proofs.intake_under.Goals.{In_ok-facts}

good : (c : In_ok-facts) → judged c.args.cell.now ≡ Ok c.in_ok-facts.facts
good c = sym c.in_ok-facts.ensures

pub take_columns-requires : goal.take_columns-requires
take_columns-requires c =
    let s = c.args.cell.now in
    let g = good (goal.at.take_columns-requires c).In_ok-facts in
    rw c.frame_of.ensures (record { headers = (good_follows s _ g).0.0; grid = (good_facts s _ g).grid })

pub returns : goal.returns
unfolding taken
returns c = rw (good (goal.at.returns c).In_ok-facts) (rw c.frame_of.ensures at c.take_columns.ensures)

pub returns-in_err-facts : goal.returns-in_err-facts
unfolding taken
returns-in_err-facts c = rw (← c.in_err-facts.ensures) (search rules)
