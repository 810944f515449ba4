-- `rest_keep`: the search finds none exactly where all rows keep their rules.
use Rattle.std.proofs.Common.{rules}
use Rattle.headers.proofs.KeptRows.{search_ends}
use Rattle.headers.proofs.rows.rest_keep.Goals as goal

pub returns : goal.returns
returns c = search_ends c.args.s.now c.args.basis 36 4 c.is_none.result (rw (← c.first_broken.ensures) (search rules))
