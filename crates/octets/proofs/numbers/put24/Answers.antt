-- `put24`: the bytes that are pasted are the number's, but for the highest.
use Rattle.std.proofs.Common.{ℕ, List, take, drop, ap, ◌∙◌}
use Rattle.octets.specs.Pastes.{pasted}
use Rattle.octets.proofs.NumberLaws.{bytes_high}
use Rattle.octets.proofs.numbers.put24.Goals as goal

pub returns : goal.returns
returns c =
    let low = ap (λ (l : List ℕ). take 3 (drop 1 l)) c.to_be_bytes.ensures ∙ bytes_high 3 c.args.v in
    c.paste.ensures ∙ ap (pasted c.args.s.now c.args.at) low
