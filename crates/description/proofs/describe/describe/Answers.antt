-- `describe`: the items of headers that are judged good.
use Rattle.std.proofs.Common.{sym, rules}
use Rattle.headers.proofs.Exactly.{good_follows}
use Rattle.description.specs.Described.{described}
use Rattle.description.proofs.describe.describe.Goals as goal

pub returns-in_err-judge : goal.returns-in_err-judge
unfolding described
returns-in_err-judge c = rw (← c.in_err-judge.ensures) (search rules)

pub items_in-requires : goal.items_in-requires
items_in-requires c = (good_follows _ _ (sym c.in_ok-judge.ensures)).0.0

pub returns : goal.returns
unfolding described
returns c = rw (← c.in_ok-judge.ensures, c.items_in.ensures)
