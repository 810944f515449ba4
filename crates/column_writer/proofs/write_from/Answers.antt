-- `write_from`: a column of the level is judged, and put at the front where it was accepted.
use Rattle.columns.specs.Column.{column_of_words, column_of}
use Rattle.columns.proofs.ColumnHeights.{length_written}
use Rattle.layout.specs.Ranges.{Ranged}
use Rattle.octets.proofs.PasteLaws.{length_part}
use Rattle.sources.specs.Heights.{Heights, heights_of}
use Rattle.sources.proofs.HeightLaws.{counted, heights_counted, all_words}
use Rattle.column_writer.proofs.ColumnExactly.{judged_on}
use Rattle.column_writer.proofs.PostsExactly.{Fine, posts_fine}
use Rattle.column_writer.proofs.NumberExactly.{placed_on, placed_ranged, number_small}
use Rattle.column_writer.proofs.OutputPut.{front_put}
use Rattle.column_writer.specs.Column.{judged_column_write, after_number, column_told_from, column_output_from}
use Rattle.std.proofs.Common.{◌≡◌, sym, ap, ◌∙◌, length, true, arith, rules}
use Rattle.column_writer.proofs.write_from.Given.{Over}
use Rattle.column_writer.proofs.write_from.Goals as goal
use Rattle.column_writer.proofs.write_from.Goals.{After-judge_posts, In_ok-judge_posts}

-- a column that was placed on a grid is judged as the call's order says
judged : (g : Over) (c : After-judge_posts g) →
    let a = c.args in
    c.judge_posts.result ≡ judged_column_write a.level a.number (g.H.Heights.given a.heights) (length a.out.now)
judged g c =
    let a = c.args in
    c.judge_posts.ensures ∙ judged_on a.level a.number (g.H.Heights.given a.heights) (length a.out.now) c.in_ok-grid.grid (sym c.in_ok-grid.ensures)

module _ (g : Over) (c : In_ok-judge_posts g) where
  abbrev given : Heights
  given = g.H.Heights.given c.args.heights

  range : Ranged c.in_ok-grid.grid
  range = placed_ranged _ _ _ (sym c.in_ok-grid.ensures)

  fine : Fine c.in_ok-grid.grid.posts c.in_ok-grid.grid.bytes.column true given (length c.args.out.now)
  fine = posts_fine _ _ _ _ _ (sym c.in_ok-judge_posts.ensures)

pub returns-in_err-grid-clause-answer : goal.returns-in_err-grid-clause-answer
unfolding column_told_from judged_column_write after_number
returns-in_err-grid-clause-answer g c = rw (← c.in_err-grid.ensures) (search rules)

pub returns-in_err-grid-clause-lent : goal.returns-in_err-grid-clause-lent
unfolding column_output_from judged_column_write after_number
returns-in_err-grid-clause-lent g c = rw (← c.in_err-grid.ensures)

pub returns-in_err-judge_posts-clause-answer : goal.returns-in_err-judge_posts-clause-answer
unfolding column_told_from
returns-in_err-judge_posts-clause-answer g c =
    rw (sym (judged g (goal.at.returns-in_err-judge_posts-clause-answer g c).After-judge_posts) ∙ c.in_err-judge_posts.was) (search rules)

pub returns-in_err-judge_posts-clause-lent : goal.returns-in_err-judge_posts-clause-lent
unfolding column_output_from
returns-in_err-judge_posts-clause-lent g c =
    rw (sym (judged g (goal.at.returns-in_err-judge_posts-clause-lent g c).After-judge_posts) ∙ c.in_err-judge_posts.was)

pub slice_bounds-put_column-end : goal.slice_bounds-put_column-end
slice_bounds-put_column-end g c = (fine g (goal.at.slice_bounds-put_column-end g c).In_ok-judge_posts).roomy

pub put_column-requires : goal.put_column-requires
put_column-requires g c =
    let p = (goal.at.put_column-requires g c).In_ok-judge_posts in
    let grid = c.in_ok-grid.grid in
    let placed_so = placed_on _ _ _ (sym c.in_ok-grid.ensures) in
    record {
      heights = record { there = omega (arith, counted (given g p) grid.posts (fine g p).long); end = omega (arith, (range g p).posts_high) };
      long = length_part c.args.out.now 0 grid.bytes.column (omega arith) (fine g p).roomy ∙ omega (arith, (range g p).column);
      few = (range g p).posts_high;
      small = (number_small _ _ placed_so.0 placed_so.1.0).1;
    }

pub returns-clause-answer : goal.returns-clause-answer
unfolding column_told_from
returns-clause-answer g c =
    rw (sym (judged g (goal.at.returns-clause-answer g c).After-judge_posts) ∙ c.in_ok-judge_posts.was)

pub returns-clause-lent : goal.returns-clause-lent
unfolding column_output_from
returns-clause-lent g c =
    let p = (goal.at.returns-clause-lent g c).In_ok-judge_posts in
    let a = c.args in
    let grid = c.in_ok-grid.grid in
    let n = counted (given g p) grid.posts (fine g p).long in
    let column = column_of a.number (heights_of (given g p)) in
    let long : length column ≡ grid.bytes.column = length_written a.number (heights_of (given g p)) ∙ omega (arith, heights_counted (given g p), n, (range g p).column) in
    rw (sym (judged g (goal.at.returns-clause-lent g c).After-judge_posts) ∙ c.in_ok-judge_posts.was)
    (front_put a.out.now column c.put_column.new.out grid.bytes.column long
    (c.put_column.ensures ∙ ap (column_of_words a.number) (all_words (given g p) grid.posts n)))
