-- `reach_in`: off the grid, its column cut, or as its column is judged.
use Rattle.cells.proofs.ColumnPlaces.{part_is}
use Rattle.lookup.proofs.PostReached.{off_columns, off_posts, column_cut, column_judged}
use Rattle.std.proofs.Common.{◌≡◌, refl, ◌∙◌, Err, rules}
use Rattle.lookup.proofs.reach.reach_in.Goals as goal

pub returns-then-grid-column : goal.returns-then-grid-column
returns-then-grid-column c =
    let a = c.args in
    off_columns a.cell.now a.frame a.column a.post c.if-grid-column.true

pub returns-then-posts-post : goal.returns-then-posts-post
returns-then-posts-post c =
    let a = c.args in
    off_posts a.cell.now a.frame a.column a.post c.if-grid-column.false c.if-posts-post.true

pub returns-then-cell-end : goal.returns-then-cell-end
returns-then-cell-end c =
    let a = c.args in
    column_cut a.cell.now a.frame a.column a.post c.if-grid-column.false c.if-posts-post.false c.if-cell-end.true

pub returns-in_err-judge : goal.returns-in_err-judge
returns-in_err-judge c =
    let a = c.args in
    let left : c.from_residual.result ≡ Err c.in_err-judge.field-0.0 = search rules in
    left ∙ column_judged a.cell.now a.frame a.column a.post c.if-grid-column.false c.if-posts-post.false c.if-cell-end.false
    _ (part_is a.cell.now a.frame.grid a.column _ refl) _ c.in_err-judge.ensures _ refl

pub returns : goal.returns
returns c =
    let a = c.args in
    column_judged a.cell.now a.frame a.column a.post c.if-grid-column.false c.if-posts-post.false c.if-cell-end.false
    _ (part_is a.cell.now a.frame.grid a.column _ refl) _ c.in_ok-judge.ensures _ (rw c.word_at.ensures at c.be16.ensures)
