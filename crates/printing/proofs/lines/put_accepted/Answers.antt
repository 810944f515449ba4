-- `put_accepted`: each piece stands where the one before it ends.
use Rattle.printing.proofs.LinePastes.{accepted_put, accepted_long}
use native.Mathlib.Omega.{arith}
use Rattle.printing.proofs.lines.put_accepted.Goals as goal

pub returns : goal.returns
returns c =
    let a = c.args in
    let e = c.put_item-second.ensures.1 in
    let f = c.put_item-third.ensures.1 in
    let g = c.put_item.ensures.1 in (
      rw (c.put_item.ensures.0, c.put_item-third.ensures.0, c.put_item-second.ensures.0, c.paste.ensures)
          (accepted_put a.s.now a.level a.columns a.posts c.put_item-second.result c.put_item-third.result (omega arith) e.0 e.1 f.0 (omega arith)),
      (
        accepted_long a.level a.columns a.posts c.put_item-second.result c.put_item-third.result c.put_item.result e.0 f.0 g.0,
        omega arith,
      ),
    )
