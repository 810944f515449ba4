-- `fill`: the part that was lent came back as so many bytes of the value.
use Rattle.std.proofs.Common.{◌≡◌, ℕ, ◌+◌, ◌-◌, length, take, drop, replicate, ap, ◌∙◌, arith}
use lib.ListN.{length-replicate}
use Rattle.octets.proofs.PasteLaws.{part_back, length_part}
use Rattle.octets.proofs.pastes.fill.Goals as goal

pub returns : goal.returns
returns c =
    let a = c.args in
    let lent = take (a.at + a.n - a.at) (drop a.at a.dst.now) in
    let long : length lent ≡ a.n = length_part a.dst.now a.at (a.at + a.n) (omega arith) (omega arith) ∙ omega arith in
    let filled : c.fill.new.self ≡ replicate a.n a.b = c.fill.ensures.after (λ y e. e) ∙ ap (λ (k : ℕ). replicate k a.b) long in
    rw filled (part_back a.dst.now a.at (a.at + a.n - a.at) (replicate a.n a.b) (rw length-replicate (omega arith)))
