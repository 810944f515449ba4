-- `place`: the level, then the number on its zone I grid.
use Rattle.layout.specs.Grid.{grid_of}
use Rattle.column_writer.proofs.NumberExactly.{no_level, off_grid, on_grid}
use mathlib.Core.Path.{sym}
use Rattle.column_writer.proofs.place.Goals as goal

pub returns-then-level-ge3 : goal.returns-then-level-ge3
returns-then-level-ge3 c = sym (no_level _ _ c.if-level-ge3.true)

pub returns-then-grid-number : goal.returns-then-grid-number
unfolding grid_of
returns-then-grid-number c =
    let a = c.args in
    sym (off_grid a.level a.number c.if-level-ge3.false (rw c.grid_of-grid.ensures at c.if-grid-number.true))

pub returns : goal.returns
unfolding grid_of
returns c =
    let a = c.args in
    rw c.grid_of-grid.ensures (sym (on_grid a.level a.number c.if-level-ge3.false (rw c.grid_of-grid.ensures at c.if-grid-number.false)))
