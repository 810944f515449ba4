-- `put_free`: blanks, zeros over them, and a text over those.
use Prim.Native.Nat.{ℕ}
use Rattle.header_writer.specs.Written.{with_areas, free_bytes}
use Rattle.fields.specs.Free.{areas, date_at}
use Rattle.octets.proofs.PasteLaws.{paste_all}
use Rattle.octets.specs.Pastes.{pasted}
use Rattle.octets.specs.Texts.{ascii}
use Rattle.layout.specs.Grid.{header_bytes}
use lib.ListN.{replicate, length-replicate}
use mathlib.Core.List.{List}
use mathlib.Core.Path.{sym, ap, ◌∙◌}
use Rattle.header_writer.proofs.write.put_free.Goals as goal

pub returns : goal.returns
unfolding free_bytes
returns c =
    let blank = c.fill.ensures ∙ paste_all c.args.head.now (replicate header_bytes 32) (length-replicate {A = ℕ} header_bytes 32 ∙ sym c.requires) in
    c.paste.ensures
    ∙ ap (λ (s : List ℕ). pasted s date_at (ascii "0005")) (c.put_areas.ensures ∙ ap (λ (s : List ℕ). with_areas s areas) blank)
