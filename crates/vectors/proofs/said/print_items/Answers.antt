-- `print_items`: what headers say is in range.
use Rattle.std.proofs.Common.{sym, ◌∙◌}
use Rattle.description.proofs.ReadRanged.{described_ranged}
use Rattle.vectors.proofs.said.print_items.Goals as goal

pub put_numbers-requires : goal.put_numbers-requires
put_numbers-requires g c = described_ranged _ _ (sym c.describe.ensures ∙ c.in-Ok.is)
