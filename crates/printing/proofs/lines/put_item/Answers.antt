-- `put_item`: the digits, and the byte behind them.
use Rattle.printing.proofs.LinePastes.{item_put, length_item}
use native.Mathlib.Omega.{arith}
use Rattle.printing.proofs.lines.put_item.Goals as goal

pub returns : goal.returns
returns c =
    let a = c.args in
    let l = length_item a.v a.behind in (
      rw (c.put_digits.ensures, c.width-n.ensures.0) (item_put a.s.now a.at a.v a.behind (omega arith)),
      (omega arith, omega arith),
    )
