-- `put32`: the bytes that are pasted are the number's.
use Rattle.std.proofs.Common.{ap, ◌∙◌}
use Rattle.octets.specs.Pastes.{pasted}
use Rattle.octets.proofs.NumberLaws.{bytes_high}
use Rattle.octets.proofs.numbers.put32.Goals as goal

pub returns : goal.returns
returns c = c.paste.ensures ∙ ap (pasted c.args.s.now c.args.at) (c.to_be_bytes.ensures ∙ bytes_high 4 c.args.v)
