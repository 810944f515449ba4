-- `write_ranged`: judged under the frame of the items, and put at the front where it was accepted.
use Rattle.headers.specs.Judged.{frame_of}
use Rattle.layout.specs.declared.Frame.{Frame}
use Rattle.layout.specs.Ranges.{Ranged}
use Rattle.octets.proofs.JoinedLaws.{parts_small}
use Rattle.sources.proofs.HeightLaws.{counted}
use Rattle.cell_writer.proofs.CellExactly.{UnderFine, under_fine}
use Rattle.cell_writer.proofs.GridDue.{due_ranged}
use Rattle.cell_writer.specs.Cell.{posts_due, frame_for, judged_under}
use lib.ListN.{length}
use borrow.Author.Rules.{rules}
use mathlib.Core.Path.{◌≡◌, sym, ap, ◌∙◌}
use native.Mathlib.Omega.{arith}
use Rattle.description.specs.Facts.{facts_for}
use Rattle.cell_writer.proofs.write_ranged.Given.{Over}
use Rattle.cell_writer.proofs.write_ranged.Goals as goal
use Rattle.cell_writer.proofs.write_ranged.Goals.{After-frame_of-frame, After-judge_posts}

-- the frame is that of the items
is : (g : Over) (c : After-frame_of-frame g) → c.frame_of-frame.result ≡ frame_for c.args.year c.args.d
is g c = c.frame_of-frame.ensures ∙ ap (frame_of c.args.year) c.facts_for.ensures

grid_due : (g : Over) (c : After-frame_of-frame g) → c.frame_of-frame.result.grid ≡ (facts_for c.args.d).grid
grid_due g c = ap (λ (f : Frame). f.grid) (is g c)

range : (g : Over) (c : After-frame_of-frame g) → Ranged c.frame_of-frame.result.grid
range g c = due_ranged c.args.d c.requires _ (grid_due g c)

-- it was judged as the definition says
judged : (g : Over) (c : After-judge_posts g) →
    let a = c.args in
    c.judge_posts.result ≡ judged_under (frame_for a.year a.d) (g.H.Heights.given a.heights) (length a.out.now)
unfolding judged_under
judged g c =
    let a = c.args in
    c.judge_posts.ensures
    ∙ ap (λ (f : Frame). judged_under f (g.H.Heights.given a.heights) (length a.out.now)) (c.frame_of-frame.ensures ∙ ap (frame_of a.year) c.facts_for.ensures)

pub overflow_mul-posts : goal.overflow_mul-posts
overflow_mul-posts g c =
    let grid = c.frame_of-frame.result.grid in
    let r = range g (goal.at.overflow_mul-posts g c).After-frame_of-frame in
    omega (arith, parts_small grid.columns grid.posts r.columns_high (omega (arith, r.posts_high)))

pub returns-in_err-judge_posts-clause-answer : goal.returns-in_err-judge_posts-clause-answer
returns-in_err-judge_posts-clause-answer g c =
    rw (sym (judged g (goal.at.returns-in_err-judge_posts-clause-answer g c).After-judge_posts) ∙ c.in_err-judge_posts.was) (search rules)

pub returns-in_err-judge_posts-clause-lent : goal.returns-in_err-judge_posts-clause-lent
returns-in_err-judge_posts-clause-lent g c =
    rw (sym (judged g (goal.at.returns-in_err-judge_posts-clause-lent g c).After-judge_posts) ∙ c.in_err-judge_posts.was)

pub put_cell-requires : goal.put_cell-requires
unfolding judged_under
put_cell-requires g c =
    let k = (goal.at.put_cell-requires g c).After-frame_of-frame in
    let a = c.args in
    let heights = g.H.Heights.given a.heights in
    let fine : UnderFine (frame_for a.year a.d) heights (length a.out.now)
    = under_fine (frame_for a.year a.d) heights (length a.out.now) (sym (judged g (goal.at.put_cell-requires g c).After-judge_posts) ∙ c.in_ok-judge_posts.was) in
    record {
      ranged = c.requires;
      due = grid_due g k;
      all = counted heights _ fine.long ∙ ap posts_due (sym (grid_due g k));
      room = rw (grid_due g k) fine.roomy;
    }

pub returns-clause-answer : goal.returns-clause-answer
returns-clause-answer g c = sym c.in_ok-judge_posts.was ∙ judged g (goal.at.returns-clause-answer g c).After-judge_posts

pub returns-clause-lent : goal.returns-clause-lent
returns-clause-lent g c =
    rw (sym (judged g (goal.at.returns-clause-lent g c).After-judge_posts) ∙ c.in_ok-judge_posts.was) c.put_cell.ensures
