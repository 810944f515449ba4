-- `dted_describe`: the reader's answer, packed, and the numbers of what it gave.
use Rattle.std.proofs.Common.{refl, sym, ◌∙◌}
use Rattle.host_answers.specs.Packed.{packed}
use Rattle.description.proofs.ReadRanged.{described_ranged}
use Rattle.dted.proofs.descriptions.dted_describe.Goals as goal

pub put_numbers-requires : goal.put_numbers-requires
put_numbers-requires c = described_ranged _ _ (sym c.describe.ensures ∙ c.in-Ok.is)

pub returns-in-Ok : goal.returns-in-Ok
unfolding packed
returns-in-Ok c = rw (sym c.describe.ensures ∙ c.in-Ok.is) (record { answer = refl; lent = c.put_numbers.ensures })

pub returns-in-Err : goal.returns-in-Err
returns-in-Err c = rw (sym c.describe.ensures ∙ c.in-Err.is) (record { answer = c.refusal.ensures; lent = refl })
