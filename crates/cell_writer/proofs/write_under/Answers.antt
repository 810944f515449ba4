-- `write_under` of a cell: the lowest bad item, or as it is written under items in range.
use Rattle.std.specs.Prelude.{None}
use Rattle.answers.specs.Told.{told, act}
use Rattle.description.proofs.RangedItems.{item_exactly}
use Rattle.description.specs.Items.{bad_item}
use Rattle.sources.specs.Heights.{numbers}
use Rattle.sources.proofs.HeightLaws.{numbers_are}
use Rattle.cell_writer.proofs.CellExactly.{items_fine}
use Rattle.cell_writer.specs.Cell.{judged_cell_write, cell_told, cell_output}
use lib.ListN.{length}
use mathlib.Core.Path.{◌≡◌, sym, ap, ◌∙◌}
use Rattle.cell_writer.proofs.write_under.Goals as goal
use Rattle.cell_writer.proofs.write_under.Goals.{In_default}

-- no item is out of range
no_bad : (c : In_default) → bad_item c.args.d ≡ None
no_bad c = sym c.bad_item.ensures ∙ c.in_default.is

pub returns-in-Some-clause-answer : goal.returns-in-Some-clause-answer
unfolding cell_told judged_cell_write
returns-in-Some-clause-answer c = rw (sym c.bad_item.ensures ∙ c.in-Some.is)

pub returns-in-Some-clause-lent : goal.returns-in-Some-clause-lent
unfolding cell_output judged_cell_write
returns-in-Some-clause-lent c = rw (sym c.bad_item.ensures ∙ c.in-Some.is)

pub write_ranged-requires : goal.write_ranged-requires
write_ranged-requires c = (item_exactly c.args.d).0.0 (no_bad (goal.at.write_ranged-requires c).In_default)

pub returns-clause-answer : goal.returns-clause-answer
unfolding cell_told
returns-clause-answer c =
    let a = c.args in
    rw (items_fine a.year a.d (numbers a.heights.now) (length a.out.now) (no_bad (goal.at.returns-clause-answer c).In_default))
    (ap (told act) c.write_ranged.ensures.answer)

pub returns-clause-lent : goal.returns-clause-lent
unfolding cell_output
returns-clause-lent c =
    let a = c.args in
    rw (items_fine a.year a.d (numbers a.heights.now) (length a.out.now) (no_bad (goal.at.returns-clause-lent c).In_default))
    (rw (numbers_are a.heights.now) at c.write_ranged.ensures.lent)
