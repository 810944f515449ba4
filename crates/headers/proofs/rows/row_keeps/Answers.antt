-- `row_keeps`: the row that was read, and its bytes.
use Rattle.headers.proofs.TableRows.{row_there, row_wide}
use Rattle.headers.proofs.rows.row_keeps.Goals as goal

pub bytes-requires : goal.bytes-requires
bytes-requires c = row_there c.args.s.now c.requires.whole c.args.row c.requires.below c.row-field.result c.row-field.ensures

pub keeps-requires : goal.keeps-requires
keeps-requires c =
    record {
      wide = rw c.bytes.ensures (row_wide c.args.s.now c.requires.whole c.args.row c.requires.below c.row-field.result c.row-field.ensures);
      basis = c.requires.basis;
    }
