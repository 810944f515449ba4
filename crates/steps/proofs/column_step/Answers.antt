-- `column_step`: on to the next column, or an answer that is kept.
use Rattle.answers.specs.Told.{told, intake}
use Rattle.steps.proofs.Kept.{next_small}
use Rattle.std.proofs.Common.{Ok, rules}
use Rattle.answers.specs.declared.Verdict.TheVariants.{More}
use mathlib.Core.Path.{◌≡◌, sym, ap, ◌∙◌}
use native.Mathlib.Omega.{arith}
use Rattle.steps.proofs.column_step.Goals as goal

pub overflow_add-result : goal.overflow_add-result
overflow_add-result c =
    let a = c.args in
    let more : c.columns_answer-answer.result ≡ Ok More = search rules in
    omega (arith, next_small a.due a.piece.now (sym c.columns_answer-answer.ensures ∙ ap (told intake) more))
