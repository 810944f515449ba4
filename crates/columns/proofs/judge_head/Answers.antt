-- `judge_head`: each test in its turn settles the ladder.
use Rattle.columns.specs.Judged.{head_of}
use Rattle.std.proofs.Common.{eq-eqb, ne_eqb}
use Rattle.columns.proofs.judge_head.Goals as goal

pub returns-then-column : goal.returns-then-column
unfolding head_of
returns-then-column c = simp (ne_eqb _ _ c.if-column.true)

pub returns-then-be24-number : goal.returns-then-be24-number
unfolding head_of
returns-then-be24-number c = simp (eq-eqb _ _ c.if-column.false, ne_eqb _ _ (rw c.be24.ensures.0 at c.if-be24-number.true))

pub returns-then-from-number : goal.returns-then-from-number
unfolding head_of
returns-then-from-number c =
    simp (
      eq-eqb _ _ c.if-column.false,
      eq-eqb _ _ (rw c.be24.ensures.0 at c.if-be24-number.false),
      ne_eqb _ _ (rw (c.from.ensures, c.be16.ensures) at c.if-from-number.true),
    )

pub returns-then-be16-ne0 : goal.returns-then-be16-ne0
unfolding head_of
returns-then-be16-ne0 c =
    simp (
      eq-eqb _ _ c.if-column.false,
      eq-eqb _ _ (rw c.be24.ensures.0 at c.if-be24-number.false),
      eq-eqb _ _ (rw (c.from.ensures, c.be16.ensures) at c.if-from-number.false),
      ne_eqb _ _ (rw c.be16-2.ensures at c.if-be16-ne0.true),
    )

pub returns-then-be32-sum : goal.returns-then-be32-sum
unfolding head_of
returns-then-be32-sum c =
    simp (
      eq-eqb _ _ c.if-column.false,
      eq-eqb _ _ (rw c.be24.ensures.0 at c.if-be24-number.false),
      eq-eqb _ _ (rw (c.from.ensures, c.be16.ensures) at c.if-from-number.false),
      eq-eqb _ _ (rw c.be16-2.ensures at c.if-be16-ne0.false),
      ne_eqb _ _ (rw (c.be32.ensures, c.requires.summed, c.sum_at-end.ensures) at c.if-be32-sum.true),
      c.sum_at-end.ensures,
    )

pub returns : goal.returns
unfolding head_of
returns c =
    simp (
      eq-eqb _ _ c.if-column.false,
      eq-eqb _ _ (rw c.be24.ensures.0 at c.if-be24-number.false),
      eq-eqb _ _ (rw (c.from.ensures, c.be16.ensures) at c.if-from-number.false),
      eq-eqb _ _ (rw c.be16-2.ensures at c.if-be16-ne0.false),
      eq-eqb _ _ (rw (c.be32.ensures, c.requires.summed, c.sum_at-end.ensures) at c.if-be32-sum.false),
    )
