-- `put_fields`: the fields that are left give what all give.
use Prim.Native.Nat.{◌+◌}
use Rattle.header_writer.proofs.TableTurns.{fields_turn, fields_done}
use Rattle.headers.proofs.TableRows.{Row, row}
use Rattle.octets.proofs.PasteLaws.{length_part}
use mathlib.Core.Path.{sym, ◌∙◌}
use native.Mathlib.Omega.{arith}
use Rattle.header_writer.proofs.write.put_fields.Goals as goal
use Rattle.header_writer.proofs.write.put_fields.Goals.{After-row-at}

within : (c : After-row-at) → Row c.row-at.result
within c = rw c.row-at.ensures (row c.loop-i.i (omega arith))

pub overflow_add-at : goal.overflow_add-at
overflow_add-at c = omega (arith, within (goal.at.overflow_add-at c).After-row-at)

pub slice_bounds-put_field-end : goal.slice_bounds-put_field-end
slice_bounds-put_field-end c = omega (arith, within (goal.at.slice_bounds-put_field-end c).After-row-at)

pub put_field-requires : goal.put_field-requires
put_field-requires c =
    let f = c.row-at.result in
    let r = within (goal.at.put_field-requires c).After-row-at in
    let wide = length_part c.loop-i.head f.0 (f.0 + f.1) (omega arith) (omega (arith, r.within)) in
    let asked = c.requires in
    record { wide = omega arith; basis = asked.basis; origin = asked.origin }

pub loop-i-preserved : goal.loop-i-preserved
loop-i-preserved c =
    let a = c.args in
    let t = fields_turn c.loop-i.head a.d c.loop-i.i c.row-at.result c.put_field.new.field (omega arith) c.row-at.ensures c.loop-i.invariant.0 c.put_field.ensures in
    (t.0, t.1 ∙ c.loop-i.invariant.1)

pub returns : goal.returns
returns c =
    sym (fields_done c.loop-i.head c.args.d c.loop-i.i (omega arith)) ∙ c.loop-i.invariant.1
