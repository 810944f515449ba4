-- `put_preamble`: four pastes, one after the other.
use Rattle.std.proofs.Common.{ℕ, List, ap, ◌∙◌}
use Rattle.columns.proofs.WrittenColumn.{preamble_put}
use Rattle.octets.specs.Numbers.{bytes_of}
use Rattle.octets.specs.Pastes.{pasted}
use Rattle.columns.proofs.write.put_preamble.Goals as goal

pub returns : goal.returns
returns c =
    let a = c.args in
    c.put16-2.ensures
    ∙ ap (λ (l : List ℕ). pasted l 6 (bytes_of 2 0))
    (c.put16.ensures ∙ ap (λ (l : List ℕ). pasted l 4 (bytes_of 2 a.number)) c.put24.ensures)
    ∙ preamble_put a.out.now a.number c.requires.room
