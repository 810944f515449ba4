-- `first_broken`: the first row that fails the test is the first that breaks its rule.
use Rattle.std.proofs.Common.{◌≡◌, Bool, true, false, ℕ, rules}
use Rattle.std.proofs.lemmas.Iterator.{first_from_Range}
use borrow.Author.Tests.{tests}
use Rattle.fields.specs.Table.{field_at}
use Rattle.headers.specs.Judged.{keeps}
use Rattle.headers.proofs.BrokenRows.{searched}
use Rattle.headers.proofs.rows.first_broken.Goals as goal

pub returns : goal.returns
returns c =
    let a = c.args in
    let keep : ℕ → Bool = λ (k : ℕ). keeps a.s.now a.basis (field_at k) in
    searched a.s.now a.basis a.from a.to c.requires.ordered c.find.result
    (first_from_Range _ _ _ c.find.result (λ (k : ℕ). keep k ≡ false) (λ (k : ℕ). keep k ≡ true) c.find.ensures.ran
    (λ x q k. search (rules, tests)) (λ x q k. search (rules, tests)))
