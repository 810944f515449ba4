-- A turn of intake over the columns of a frame: the column that is due, and the end.
use Rattle.std.specs.Prelude.{Result, ⊤}
use Rattle.answers.specs.declared.Refusal.{Refusal}
use Prim.Native.Nat.{ℕ, ◌+◌, ◌-◌, ◌≤◌, ◌<◌}
use mathlib.Core.Path.{◌≡◌, ◌∙◌}
use mathlib.Core.List.{List}
use lib.ListN.{length}
use borrow.Author.Tests.{le-leb, lt-leb}
use Rattle.octets.proofs.ScanLaws.{scan_step, scan_done}
use Rattle.answers.specs.Told.{refused}
use Rattle.layout.specs.declared.Frame.{Frame}
use Rattle.columns.specs.Judged.{and_then, head_of, words_from, judged_column}
use Rattle.cells.specs.Cell.{start_of, column_at}
use Rattle.intake.specs.Intake.{or_rest, judge_next, ended, columns_from}

module _ (s : List ℕ) (f : Frame) (k base : ℕ) (e : base ≡ start_of f.grid k) where
  -- a column that is not there whole
  pub turn_cut : k < f.grid.columns → length s < base + f.grid.bytes.column → columns_from s f k (f.grid.columns - k) ≡ refused 3 base
  unfolding judge_next
  turn_cut h u =
      scan_step (judge_next s f) (ended (length s) f.grid) k f.grid.columns h ∙ rw (← e, lt-leb (base + f.grid.bytes.column) (length s) u)

  -- a column that is there whole is answered as it is judged
  pub turn_here : k < f.grid.columns → base + f.grid.bytes.column ≤ length s → (column : List ℕ) → column ≡ column_at s f.grid k
      → columns_from s f k (f.grid.columns - k)
      ≡ or_rest (judged_column column k f.grid.posts f.voids base) (columns_from s f (k + 1) (f.grid.columns - (k + 1)))
  unfolding judge_next
  turn_here h u column c =
      scan_step (judge_next s f) (ended (length s) f.grid) k f.grid.columns h
      ∙ rw (← c, ← e, le-leb (base + f.grid.bytes.column) (length s) u)

  -- and by its preamble and checksum, judged x
  pub turn_as : k < f.grid.columns → base + f.grid.bytes.column ≤ length s → (column : List ℕ) → column ≡ column_at s f.grid k
      → (x : Result ⊤ Refusal) → head_of column k f.grid.posts base ≡ x
      → columns_from s f k (f.grid.columns - k)
      ≡ or_rest (and_then x (words_from column f.voids base 0 f.grid.posts)) (columns_from s f (k + 1) (f.grid.columns - (k + 1)))
  unfolding judged_column
  turn_as h u column c x q = turn_here h u column c ∙ rw q

  -- after the last column
  pub turn_end : f.grid.columns ≤ k → columns_from s f k (f.grid.columns - k) ≡ ended (length s) f.grid
  turn_end h = scan_done (judge_next s f) (ended (length s) f.grid) k f.grid.columns h
