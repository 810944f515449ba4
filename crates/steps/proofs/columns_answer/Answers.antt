-- `columns_answer`: by whether there is such a grid.
use Rattle.layout.specs.Ranges.{Ranged}
use Rattle.steps.proofs.Pieces.{laid_ranged}
use mathlib.Core.Path.{sym, ◌∙◌}
use Rattle.steps.proofs.columns_answer.Goals as goal
use Rattle.steps.proofs.columns_answer.Goals.{In-Ok}

within : (c : In-Ok) → Ranged c.in-Ok.grid
within c =
    let a = c.args in
    laid_ranged a.due.level a.due.edge _ (sym c.lay.ensures ∙ c.in-Ok.is)

pub column_answer-requires : goal.column_answer-requires
column_answer-requires c = within (goal.at.column_answer-requires c).In-Ok
