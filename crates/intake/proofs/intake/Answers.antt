-- `intake`: under the year that is named, or 17.
use Rattle.std.proofs.Common.{◌≡◌, Err, rules}
use Rattle.years.proofs.YearLaws.{under_refused}
use Rattle.intake.proofs.intake.Goals as goal

pub returns-in_err-year : goal.returns-in_err-year
returns-in_err-year c =
    let left : c.from_residual.result ≡ Err c.in_err-year.field-0.0 = search rules in
    rw left (under_refused c.args.named _ _ c.in_err-year.ensures)
