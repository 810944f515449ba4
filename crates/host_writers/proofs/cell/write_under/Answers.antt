-- `write_under` of a cell: the lowest bad number, or as it is written under the description that the numbers say.
use Rattle.std.specs.Prelude.{None}
use Rattle.answers.specs.Told.{told, act}
use Rattle.host_writers.proofs.BytesExactly.{numbers_fine}
use Rattle.host_writers.specs.Cell.{judged_bytes, bytes_told, bytes_output}
use Rattle.host_items.proofs.ItemNumbers.{in_range_lem}
use Rattle.host_items.specs.Items.{bad_number}
use lib.ListN.{length}
use mathlib.Core.Path.{◌≡◌, sym, ap, ◌∙◌}
use Rattle.host_writers.proofs.cell.write_under.Goals as goal
use Rattle.host_writers.proofs.cell.write_under.Goals.{In_default}

-- no item is out of range
no_bad : (c : In_default) → bad_number c.args.items.now ≡ None
no_bad c = sym c.bad_number.ensures ∙ c.in_default.is

pub returns-in-Some-clause-answer : goal.returns-in-Some-clause-answer
unfolding bytes_told judged_bytes
returns-in-Some-clause-answer c = rw (sym c.bad_number.ensures ∙ c.in-Some.is)

pub returns-in-Some-clause-lent : goal.returns-in-Some-clause-lent
unfolding bytes_output judged_bytes
returns-in-Some-clause-lent c = rw (sym c.bad_number.ensures ∙ c.in-Some.is)

pub write_ranged-requires : goal.write_ranged-requires
write_ranged-requires c = rw c.description.ensures (in_range_lem _ (no_bad (goal.at.write_ranged-requires c).In_default))

pub returns-clause-answer : goal.returns-clause-answer
unfolding bytes_told
returns-clause-answer c =
    let a = c.args in
    rw (numbers_fine a.year a.items.now a.grid.now (length a.out.now) (no_bad (goal.at.returns-clause-answer c).In_default))
    (ap (told act) (rw c.description.ensures at c.write_ranged.ensures.answer))

pub returns-clause-lent : goal.returns-clause-lent
unfolding bytes_output
returns-clause-lent c =
    let a = c.args in
    rw (numbers_fine a.year a.items.now a.grid.now (length a.out.now) (no_bad (goal.at.returns-clause-lent c).In_default))
    (rw c.description.ensures at c.write_ranged.ensures.lent)
