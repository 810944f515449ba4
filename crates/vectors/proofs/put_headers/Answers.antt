-- `put_headers`: where no item is out of range, all are in range.
use Rattle.std.proofs.Common.{◌≡◌, None, rules, sym, ap, ◌∙◌, arith}
use Rattle.description.proofs.RangedItems.{item_exactly}
use Rattle.description.specs.Facts.{facts_for}
use Rattle.headers.specs.declared.Facts.{Facts}
use Rattle.vectors.proofs.put_headers.Goals as goal

pub facts_for-facts-requires : goal.facts_for-facts-requires
facts_for-facts-requires c =
    let none : c.bad_item.result ≡ None = search rules in
    (item_exactly _).0.0 (sym c.bad_item.ensures ∙ none)

pub put_headers-requires : goal.put_headers-requires
unfolding facts_for
put_headers-requires c =
    let none : c.bad_item.result ≡ None = search rules in
    record {
      room = omega arith;
      ranged = (item_exactly _).0.0 (sym c.bad_item.ensures ∙ none);
      grid = ap (λ (x : Facts). x.grid) c.facts_for-facts.ensures;
    }
