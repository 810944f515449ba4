-- `judge_room`: by the one test.
use Rattle.column_writer.specs.Judged.{room_for}
use borrow.Author.Tests.{le-leb, lt-leb}
use Rattle.column_writer.proofs.judge.judge_room.Goals as goal

pub returns-then-room-due : goal.returns-then-room-due
unfolding room_for
returns-then-room-due c = simp (lt-leb _ _ c.if-room-due.true)

pub returns : goal.returns
unfolding room_for
returns c = simp (le-leb _ _ c.if-room-due.false)
