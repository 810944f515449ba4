-- `judge_posts`: how many are given, then each of them and the room.
use Rattle.std.proofs.Common.{sym, ◌∙◌, rules}
use Rattle.column_writer.specs.Judged.{judged_posts, room_for}
use Rattle.column_writer.proofs.HeightParts.{then_rest}
use Rattle.column_writer.proofs.judge.judge_posts.Goals as goal

pub returns-then-not-count_is : goal.returns-then-not-count_is
unfolding judged_posts
returns-then-not-count_is g c = rw (sym c.count_is.ensures ∙ c.if-not-count_is.true)

pub returns-in_err-judge_heights : goal.returns-in_err-judge_heights
unfolding judged_posts
returns-in_err-judge_heights g c =
    let a = c.args in
    rw (sym c.count_is.ensures ∙ c.if-not-count_is.false, then_rest a.voids (g.H.Heights.given a.heights) a.posts (room_for a.due a.room), ← c.in_err-judge_heights.ensures) (search rules)

pub returns : goal.returns
unfolding judged_posts
returns g c =
    let a = c.args in
    rw (sym c.count_is.ensures ∙ c.if-not-count_is.false, then_rest a.voids (g.H.Heights.given a.heights) a.posts (room_for a.due a.room), ← c.in_ok-judge_heights.ensures) c.judge_room.ensures
