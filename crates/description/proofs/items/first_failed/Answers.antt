-- `first_failed`: the first test that fails, counted from 1.
use Rattle.std.proofs.Common.{◌≡◌, ◌∙◌, ◌+◌, ℕ, Bool, true, false, rules}
use Rattle.std.specs.Option.{option_map}
use Rattle.std.proofs.lemmas.Iterator.{IsFirst-from_position, YieldsList-from_slice}
use borrow.Author.Tests.{tests}
use Rattle.description.proofs.RangedItems.{counted}
use Rattle.description.proofs.items.first_failed.Goals as goal

pub returns : goal.returns
returns c =
    let found = IsFirst-from_position _ _ c.position.result (λ (t : Bool). t ≡ false) (λ (t : Bool). t ≡ true) c.position.ensures.ran
    (YieldsList-from_slice c.args.tests.now cc) (λ x q k. search (rules, tests)) (λ x q k. search (rules, tests)) in
    let next : c.map.result ≡ option_map (λ (i : ℕ). i + 1) c.position.result = search rules in
    next ∙ counted c.args.tests.now c.position.result found
