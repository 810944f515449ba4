-- `broken`: the row that was read, and its bytes.
use Rattle.headers.proofs.TableRows.{row_there, row_wide, row_within}
use Rattle.headers.proofs.judge.broken.Goals as goal

pub bytes-requires : goal.bytes-requires
bytes-requires c = row_there c.args.s.now c.requires.whole c.args.row c.requires.below c.row-field.result c.row-field.ensures

pub broken-requires : goal.broken-requires
broken-requires c =
    let s = c.args.s.now in
    let f = c.row-field.result in
    record {
      of_kind = record { wide = rw c.bytes.ensures (row_wide s c.requires.whole c.args.row c.requires.below f c.row-field.ensures); basis = c.requires.basis };
      within = rw c.bytes.ensures (row_within s c.requires.whole c.args.row c.requires.below f c.row-field.ensures);
    }
