-- `first_step`: 17 where no year is named.
use Rattle.std.proofs.Common.{Err, ap, sym, ◌∙◌}
use Rattle.answers.specs.declared.Refusal.{Refusal}
use Rattle.years.proofs.YearLaws.{refused_year}
use Rattle.steps.specs.declared.Phase.TheVariants.{Over}
use Rattle.steps.proofs.Kept.{none_kept}
use Rattle.steps.proofs.first_step.Goals as goal

pub returns-in-Err : goal.returns-in-Err
returns-in-Err c =
    let unnamed = sym c.in-Err.is ∙ c.try_from.ensures in
    let e = refused_year c.args.named c.in-Err.refusal unnamed in
    none_kept c.args.named (sym unnamed ∙ ap Err e) c.args.piece.now _ _ (c.over.ensures.0 ∙ ap Err e) (c.over.ensures.1 ∙ ap (λ (r : Refusal). Over (Err r)) e)
