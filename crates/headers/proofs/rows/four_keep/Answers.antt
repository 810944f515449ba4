-- `four_keep`: the search finds none exactly where all four keep their rules.
use Rattle.std.specs.Prelude.{is_some}
use Rattle.std.proofs.Common.{◌≡◌, ◌+◌, ◌-◌, sym, ap, ◌∙◌, arith, rules}
use Rattle.headers.proofs.BrokenRows.{first_in}
use Rattle.headers.proofs.KeptRows.{search_ends}
use Rattle.headers.proofs.rows.four_keep.Goals as goal

pub returns : goal.returns
returns c =
    let a = c.args in
    let four : a.from + 4 - a.from ≡ 4 = omega arith in
    let found = c.first_broken.ensures ∙ ap (first_in a.s.now a.basis a.from) four in
    search_ends a.s.now a.basis 4 a.from c.is_none.result (ap is_some (sym found) ∙ search rules)
