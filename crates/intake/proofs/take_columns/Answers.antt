-- `take_columns`: what is left of the columns, and within one of its words, answers as the whole.
use Rattle.std.specs.Prelude.{Result, Ok, Err, ⊤}
use Rattle.std.proofs.Common.{rules}
use Rattle.answers.specs.declared.Refusal.{Refusal}
use Prim.Native.Nat.{◌+◌, ◌-◌}
use Rattle.columns.proofs.WordSearch.{word_on, word_stop, words_end, searched_from, starts_within}
use Rattle.columns.specs.Column.{word_in}
use Rattle.columns.specs.Judged.{and_then, head_of, words_from}
use Rattle.octets.proofs.PasteLaws.{length_part}
use Rattle.posts.specs.Words.{word_allowed}
use Rattle.cells.proofs.ColumnPlaces.{next_start, part_is}
use Rattle.intake.proofs.Turns.{turn_cut, turn_as, turn_end}
use Rattle.intake.specs.Intake.{or_rest, columns_from}
use borrow.Author.Tests.{not-true, not-false}
use lib.ListN.{take, drop}
use mathlib.Core.Path.{◌≡◌, sym, ◌∙◌}
use native.Mathlib.Nat.{sub-zero, add-sub_cancel_left}
use native.Mathlib.Omega.{arith}
use Rattle.intake.proofs.take_columns.Goals as goal
use Rattle.intake.proofs.take_columns.Goals.{After-is_allowed, After-judge_head}

-- where preamble and checksum are judged x, the turn's answer goes by x
turned : (c : After-judge_head) (x : Result ⊤ Refusal) →
    let a = c.args in
    let f = a.frame in
    let part = take (c.columns.base + f.grid.bytes.column - c.columns.base) (drop c.columns.base a.cell.now) in
    head_of part c.columns.k f.grid.posts c.columns.base ≡ x →
    or_rest (and_then x (words_from part f.voids c.columns.base 0 f.grid.posts))
    (columns_from a.cell.now f (c.columns.k + 1) (f.grid.columns - (c.columns.k + 1)))
    ≡ columns_from a.cell.now f 0 f.grid.columns
turned c x q =
    let a = c.args in
    let start = c.columns.invariant.start in
    sym (turn_as a.cell.now a.frame c.columns.k c.columns.base start
    c.columns-test.true (omega arith) _ (part_is a.cell.now a.frame.grid c.columns.k c.columns.base start)
    x q)
    ∙ c.columns.invariant.left

-- whether the word is allowed is what was found
found : (c : After-is_allowed) →
    let a = c.args in
    let part = take (c.columns.base + a.frame.grid.bytes.column - c.columns.base) (drop c.columns.base a.cell.now) in
    word_allowed a.frame.voids (word_in part c.loop-i.i) ≡ c.is_allowed.result
found c = sym (rw (c.be16.ensures, c.word_at-at.ensures) at c.is_allowed.ensures)

pub columns-init : goal.columns-init
columns-init c = record { due = omega arith; start = omega arith; there = omega arith; left = rw sub-zero; good = c.end-found.ensures }

pub overflow_sub-cell : goal.overflow_sub-cell
overflow_sub-cell c = omega arith

pub loop-i-init : goal.loop-i-init
loop-i-init c =
    let m = c.measure-measured in
    let a = c.args in
    let posts = a.frame.grid.posts in
    let part = take (c.columns.base + a.frame.grid.bytes.column - c.columns.base) (drop c.columns.base a.cell.now) in
    record {
      due = rw c.search_from-i.ensures (starts_within posts m.result.allowed);
      long = length_part a.cell.now c.columns.base (c.columns.base + a.frame.grid.bytes.column) (omega arith) (omega arith) ∙ add-sub_cancel_left _ _;
      left =
          rw (c.search_from-i.ensures, searched_from part a.frame.voids c.columns.base posts m.result.allowed m.ensures.allowed)
          (turned (goal.at.loop-i-init c).After-judge_head (Ok tt) (sym c.in_ok-judge_head.ensures));
      good = c.columns.invariant.good;
    }

pub loop-i-preserved : goal.loop-i-preserved
loop-i-preserved c =
    let l = c.loop-i.invariant in
    record {
      due = omega arith;
      long = l.long;
      left = rw (← word_on _ _ _ _ _ c.loop-i-test.true (found (goal.at.loop-i-preserved c).After-is_allowed ∙ not-false _ (search rules))) l.left;
      good = l.good;
    }

pub columns-preserved : goal.columns-preserved
columns-preserved c =
    let a = c.args in
    let part = take (c.columns.base + a.frame.grid.bytes.column - c.columns.base) (drop c.columns.base a.cell.now) in
    record {
      due = omega arith;
      start = omega (arith, next_start a.frame.grid c.columns.k);
      there = omega arith;
      left = rw (words_end part a.frame.voids c.columns.base c.loop-i.i a.frame.grid.posts c.loop-i-test.false) at c.loop-i.invariant.left;
      good = c.loop-i.invariant.good;
    }

pub returns-after-columns : goal.returns-after-columns
returns-after-columns c =
    let a = c.args in
    let l = c.columns.invariant in
    l.good ∙ sym (turn_end a.cell.now a.frame c.columns.k c.columns.base l.start c.columns-test.false) ∙ l.left

pub returns-then-cell-base : goal.returns-then-cell-base
returns-then-cell-base c =
    let a = c.args in
    sym (turn_cut a.cell.now a.frame c.columns.k c.columns.base c.columns.invariant.start c.columns-test.true (omega arith))
    ∙ c.columns.invariant.left

pub returns-in_err-judge_head : goal.returns-in_err-judge_head
returns-in_err-judge_head c =
    let x = c.in_err-judge_head in
    let left : c.from_residual.result ≡ Err x.field-0.0 = search rules in
    rw left (turned (goal.at.returns-in_err-judge_head c).After-judge_head (Err x.field-0.0) (sym x.ensures))

pub returns-then-not-is_allowed : goal.returns-then-not-is_allowed
returns-then-not-is_allowed c =
    let l = c.loop-i.invariant.left in
    rw c.word_at-at.ensures (rw (word_stop _ _ _ _ _ c.loop-i-test.true (found (goal.at.returns-then-not-is_allowed c).After-is_allowed ∙ not-true _ (search rules))) at l)
