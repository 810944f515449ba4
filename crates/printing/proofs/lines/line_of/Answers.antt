-- `line_of`: where more is due, nothing is put at the front of the zeros.
use Rattle.std.proofs.Common.{◌≡◌, Result, Ok, sym, ap, length, arith, rules}
use Rattle.answers.specs.Told.{told, intake}
use Rattle.answers.specs.declared.Refusal.{Refusal}
use Rattle.answers.specs.declared.Verdict.{Verdict}
use Rattle.answers.specs.declared.Verdict.TheVariants.{More}
use Rattle.octets.specs.Pastes.{pasted}
use Rattle.printing.specs.Line.{line_of, in_array}
use Rattle.printing.proofs.lines.line_of.Goals as goal

pub returns-in-Ok-More : goal.returns-in-Ok-More
unfolding pasted
returns-in-Ok-More c =
    let more : c.args.verdict ≡ Ok More = search rules in
    let line = sym (ap (λ (v : Result Verdict Refusal). line_of (told intake v)) more) in
    (ap in_array line, (ap length line, omega arith))
