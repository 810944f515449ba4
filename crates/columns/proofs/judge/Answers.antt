-- `judge`: what is left of the words answers as the whole column.
use Rattle.std.proofs.Common.{◌≡◌, sym, ◌∙◌, arith, rules}
use Rattle.columns.proofs.WordSearch.{word_on, word_stop, words_end, searched_from, starts_within}
use Rattle.posts.specs.Words.{word_allowed}
use Rattle.columns.specs.Column.{word_in}
use Rattle.columns.specs.Judged.{judged_column}
use borrow.Author.Tests.{not-true, not-false}
use Rattle.columns.proofs.judge.Goals as goal
use Rattle.columns.proofs.judge.Goals.{After-is_allowed}

-- whether the word is allowed is what was found
found : (c : After-is_allowed) →
    let a = c.args in
    word_allowed a.voids (word_in a.column.now c.loop-i.i) ≡ c.is_allowed.result
found c = sym (rw (c.be16.ensures, c.word_at-at.ensures) at c.is_allowed.ensures)

pub returns-in_err-judge_head : goal.returns-in_err-judge_head
unfolding judged_column
returns-in_err-judge_head c = rw (← c.in_err-judge_head.ensures) (search rules)

pub loop-i-init : goal.loop-i-init
unfolding judged_column
loop-i-init c =
    let a = c.args in
    rw c.search_from-i.ensures (
      starts_within a.posts c.measure-measured.result.allowed,
      searched_from a.column.now a.voids a.base a.posts c.measure-measured.result.allowed c.measure-measured.ensures.allowed
          ∙ rw (← c.in_ok-judge_head.ensures),
    )

pub returns-then-not-is_allowed : goal.returns-then-not-is_allowed
returns-then-not-is_allowed c =
    let a = c.args in
    rw c.word_at-at.ensures
    (sym (word_stop a.column.now a.voids a.base c.loop-i.i a.posts c.loop-i-test.true (found (goal.at.returns-then-not-is_allowed c).After-is_allowed ∙ not-true _ (search rules)))
    ∙ c.loop-i.invariant.1)

pub loop-i-preserved : goal.loop-i-preserved
loop-i-preserved c =
    let a = c.args in (
      omega arith,
      sym (word_on a.column.now a.voids a.base c.loop-i.i a.posts c.loop-i-test.true (found (goal.at.loop-i-preserved c).After-is_allowed ∙ not-false _ (search rules)))
          ∙ c.loop-i.invariant.1,
    )

pub returns : goal.returns
returns c =
    let a = c.args in
    sym (words_end a.column.now a.voids a.base c.loop-i.i a.posts c.loop-i-test.false) ∙ c.loop-i.invariant.1
