-- `take_columns`: what is left of the columns, and within one of its words, answers as the whole.
use Rattle.std.specs.Prelude.{Result}
use Rattle.answers.specs.Told as told
use Rattle.answers.specs.declared.Refusal.{Refusal}
use Rattle.answers.specs.declared.Verdict.{Verdict}
use Prim.Native.Nat.{ℕ, ◌+◌, ◌-◌, ◌≤◌}
use Rattle.columns.specs.Judged.{words_from}
use Rattle.layout.specs.declared.Frame.{Frame}
use Rattle.cells.specs.Cell.{start_of}
use Rattle.intake.specs.Intake.{or_rest, columns_from, ended}
use lib.ListN.{length}
use mathlib.Core.List.{List}
use mathlib.Core.Path.{◌≡◌}
use Rattle.intake.proofs.take_columns.Given as goal

-- from column k on, at its start, what is left answers as the whole; nothing was found but the end
pub record ColumnsLeft (cell : List ℕ) (f : Frame) (k base : ℕ) (found : Result Verdict Refusal) : Type 0 where
  pub due : k ≤ f.grid.columns
  pub start : base ≡ start_of f.grid k
  pub there : base ≤ length cell
  pub left : columns_from cell f k (f.grid.columns - k) ≡ columns_from cell f 0 f.grid.columns
  pub good : told.told told.intake found ≡ ended (length cell) f.grid

-- and within column k, from word i on
pub record WordsLeft (cell : List ℕ) (f : Frame) (k base : ℕ) (column : List ℕ) (i : ℕ) (found : Result Verdict Refusal) : Type 0 where
  pub due : i ≤ f.grid.posts
  pub long : length column ≡ f.grid.bytes.column
  pub left : or_rest (words_from column f.voids base i (f.grid.posts - i)) (columns_from cell f (k + 1) (f.grid.columns - (k + 1)))
      ≡ columns_from cell f 0 f.grid.columns
  pub good : told.told told.intake found ≡ ended (length cell) f.grid

abbrev pub invariant-loop-i : goal.invariant-loop-i
invariant-loop-i l = WordsLeft l.cell l.fn.frame l.k l.base l.column l.i l.found

abbrev pub invariant-columns : goal.invariant-columns
invariant-columns l = ColumnsLeft l.cell l.fn.frame l.k l.base l.found
