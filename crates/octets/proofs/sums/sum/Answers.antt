-- `sum`: the sum of each byte as a wider number.
use Rattle.std.proofs.Common.{ℕ, sym, refl, ◌∙◌, rules}
use Rattle.std.proofs.lemmas.Iterator.{YieldsList-from_slice, YieldsList-from_map}
use Rattle.std.proofs.lemmas.Iterator.Consumers.{sum_by_from_yields_List}
use Rattle.std.proofs.lemmas.List.Recursion.{is_sum_by}
use Rattle.octets.specs.Sums.{sum_of}
use borrow.Author.Tests.{tests}
use Rattle.octets.proofs.sums.sum.Goals as goal

pub returns : goal.returns
unfolding sum_of
returns c =
    let b = c.args.part.now in
    sum_by_from_yields_List (λ (x : ℕ). x) b c.map.result c.sum.result c.sum.ensures.ran
    (YieldsList-from_map _ (λ (x : ℕ). x) (YieldsList-from_slice b (cc)) c.map.ensures.closure (λ x r q k. search (rules, tests)))
    ∙ sym (is_sum_by sum_of (λ (x : ℕ). x) refl (λ x l. refl) b)
