-- `put_refused`: each piece stands where the one before it ends.
use Rattle.printing.proofs.LinePastes.{refused_put, refused_long}
use native.Mathlib.Omega.{arith}
use Rattle.printing.proofs.lines.put_refused.Goals as goal

pub returns : goal.returns
returns c =
    let a = c.args in
    let e = c.put_item-second.ensures.1 in
    let f = c.put_item.ensures.1 in (
      rw (c.put_item.ensures.0, c.put_item-second.ensures.0, c.paste.ensures)
          (refused_put a.s.now a.number a.place c.put_item-second.result (omega arith) e.0 e.1),
      (
        refused_long a.number a.place c.put_item-second.result c.put_item.result e.0 f.0,
        omega arith,
      ),
    )
