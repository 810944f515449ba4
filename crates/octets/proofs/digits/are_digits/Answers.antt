-- `are_digits`: a test of each byte of the part.
use Rattle.std.proofs.Common.{◌≡◌, ◌+◌, ◌-◌, take, drop, ◌∙◌, arith, rules}
use Rattle.std.proofs.lemmas.Iterator.{YieldsList-from_slice}
use Rattle.std.proofs.lemmas.Iterator.Search.{all_from_yields_List}
use Rattle.octets.proofs.DigitLaws.{digits_tested}
use borrow.Author.Tests.{tests}
use Rattle.octets.specs.Digits.{is_digit}
use Rattle.octets.proofs.digits.are_digits.Goals as goal

pub returns : goal.returns
returns c =
    let a = c.args in
    let part = take (a.at + a.n - a.at) (drop a.at a.s.now) in
    let long : a.at + a.n - a.at ≡ a.n = omega arith in
    all_from_yields_List is_digit _ _ _ c.all.ensures.ran (YieldsList-from_slice part cc) (λ x b q k. search (rules, tests))
    ∙ rw long (digits_tested a.s.now a.at a.n (omega arith))
