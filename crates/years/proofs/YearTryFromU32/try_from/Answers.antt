-- `try_from`: 1, 2, or no year.
use borrow.Author.Tests.{eq-eqb, ne_eqb}
use Rattle.years.specs.Years.{named_of}
use Rattle.years.proofs.YearTryFromU32.try_from.Goals as goal

pub returns-then-named-eq1 : goal.returns-then-named-eq1
unfolding named_of
returns-then-named-eq1 c = simp (eq-eqb _ _ c.if-named-eq1.true)

pub returns-then-named-eq2 : goal.returns-then-named-eq2
unfolding named_of
returns-then-named-eq2 c = simp (ne_eqb _ _ c.if-named-eq1.false, eq-eqb _ _ c.if-named-eq2.true)

pub returns : goal.returns
unfolding named_of
returns c = simp (ne_eqb _ _ c.if-named-eq1.false, ne_eqb _ _ c.if-named-eq2.false)
