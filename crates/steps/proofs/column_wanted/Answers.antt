-- `column_wanted`: by whether there is such a grid, and whether a column is left.
use Rattle.std.specs.Prelude.{Ok}
use Rattle.layout.specs.Ranges.{Ranged}
use Rattle.layout.specs.Grid.{laid}
use Rattle.steps.proofs.Pieces.{laid_ranged}
use borrow.Author.Tests.{lt-ltb}
use mathlib.Core.Path.{◌≡◌, sym, ◌∙◌}
use native.Mathlib.Omega.{arith}
use Rattle.steps.proofs.column_wanted.Goals as goal
use Rattle.steps.proofs.column_wanted.Goals.{In-Ok}

out : (c : In-Ok) → let a = c.args in laid a.due.level a.due.edge ≡ Ok c.in-Ok.grid
out c = sym c.lay.ensures ∙ c.in-Ok.is

within : (c : In-Ok) → Ranged c.in-Ok.grid
within c =
    let a = c.args in
    laid_ranged a.due.level a.due.edge _ (out c)

pub returns-then-due-grid : goal.returns-then-due-grid
returns-then-due-grid c =
    let k = (goal.at.returns-then-due-grid c).In-Ok in
    (rw (out k, lt-ltb _ _ c.if-due-grid.true), omega (arith, within k))
