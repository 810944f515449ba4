-- X2 over the column writers' own promises, inner and exported: given the posts of a column of an accepted cell, a call is done, and puts that
-- column's bytes where its words are plain; and the cell is its headers and the columns so put.
use Rattle.std.specs.Prelude.{Ok}
use Prim.Native.Nat.{ℕ, ◌*◌, ◌<◌, ◌≤◌}
use native.Mathlib.Omega.{arith}
use mathlib.Core.Path.{◌≡◌, sym, ap, ◌∙◌}
use mathlib.Core.List.{List, ◌++◌}
use lib.IntN.{ℤ}
use lib.ListN.{length, take, drop}
use lib.Seq.{take_at}
use contract.Lifetimes as L
use borrow.Fn.Kinds as K
use Rattle.answers.specs.Told.{told, act}
use Rattle.answers.proofs.Injective.{told_injective}
use Rattle.host_answers.specs.Packed.{packed}
use Rattle.octets.specs.Numbers.{Bytes}
use Rattle.octets.specs.Parts.{joined}
use Rattle.years.specs.declared.Year.{Year}
use Rattle.layout.specs.Levels.{posts_of}
use Rattle.layout.specs.Grid.{header_bytes}
use Rattle.layout.specs.declared.Grid.{Grid}
use Rattle.headers.specs.Judged.{facts_in}
use Rattle.columns.specs.Column.{words_in, heights_in, Plain}
use Rattle.cells.specs.Cell.{column_at, Cell}
use Rattle.cells.specs.Words.{words_of_cell}
use Rattle.cells.proofs.ColumnParts.{by_columns}
use Rattle.cells.proofs.MadeCells.{cell_facts}
use Rattle.cells.proofs.OwnGrid.{column_plain}
use Rattle.column_writer.specs.Column.{column_told, column_output}
use Rattle.sources.specs.Heights.{heights_in_bytes}
use Rattle.host_writers.proofs.AsHeights.{column_same}
use Rattle.cell_writer.proofs.ByteReturn.{cell_of_level, return_done, byte_return}
use Rattle.column_writer.proofs.write.Reads as write-column
use Rattle.column_writer.proofs.write.Kinds as write-column-kinds
use Rattle.dted.proofs.writers.dted_write_column.Reads as host-write-column
use Rattle.dted.proofs.writers.dted_write_column.Kinds as host-write-column-kinds
use Rattle.demands.proofs.HostAnswers.{done_0}

module _ {year : Year} (l : List ℕ) (cell : Cell year l) (bytes : Bytes l) where
  abbrev g : Grid
  g = (facts_in l).grid

  -- a call was given the cell's level, the number of a column, that column's posts, and room for it
  pub record OwnPosts (level number : ℕ) (posts : List ℤ) (out : List ℕ) : Type 0 where
    pub column : number < (facts_in l).grid.columns
    pub of_level : level ≡ (facts_in l).grid.level
    pub own : posts ≡ heights_in (column_at l (facts_in l).grid number) (facts_in l).grid.posts
    pub room : (facts_in l).grid.bytes.column ≤ length out

  -- the column at the front of the output, the rest as it was
  abbrev pub put_back : ℕ → List ℕ → List ℕ
  put_back k out = column_at l (facts_in l).grid k ++ drop (facts_in l).grid.bytes.column out

  -- what is left is that, where the words of column k are plain
  abbrev pub Returned : ℕ → List ℕ → List ℕ → Type 0
  Returned k out left = Plain (words_in (column_at l (facts_in l).grid k) (facts_in l).grid.posts) → left ≡ put_back k out

  returned : (level number : ℕ) (posts : List ℤ) (out : List ℕ) → OwnPosts level number posts out
      → (column_told level number posts out ≡ told act (Ok tt)) × Returned number out (column_output level number posts out)
  unfolding column_told
  returned level number posts out own =
      rw (own.of_level, own.own) (ap (told act) (return_done l cell number own.column out own.room), λ plain. byte_return l cell number own.column out own.room bytes plain)

  -- the column writer over heights
  pub column_returned : (κs : L.Lfts 2) (a : K.Dens κs write-column-kinds.ps) (r : _) (s : _) → write-column.Post κs a r s
      → OwnPosts a.1.0 a.1.1.0 a.1.1.1.0.now a.0.now → (r ≡ Ok tt) × Returned a.1.1.0 a.0.now s.0.now
  column_returned κs a r s kept own =
      let it = returned a.1.0 a.1.1.0 a.1.1.1.0.now a.0.now own in
      (told_injective act r (Ok tt) (kept.0 ∙ it.0), λ plain. kept.1 ∙ it.1 plain)

  -- and the exported one, over bytes: as many as the column's posts, and the same heights
  pub host_column_returned : (κs : L.Lfts 2) (a : K.Dens κs host-write-column-kinds.ps) (r : _) (s : _) → host-write-column.Post κs a r s
      → length a.1.1.1.0.now ≡ 2 * (facts_in l).grid.posts → OwnPosts a.1.0 a.1.1.0 (heights_in_bytes a.1.1.1.0.now) a.0.now
      → (r ≡ 0) × Returned a.1.1.0 a.0.now s.0.now
  host_column_returned κs a r s kept long own =
      let given = a.1.1.1.0.now in
      let out = a.0.now in
      let it = returned a.1.0 a.1.1.0 (heights_in_bytes given) out own in
      let due = ap (λ (n : ℕ). 2 * n) (sym (cell_of_level l cell).posts) ∙ ap (λ (v : ℕ). 2 * posts_of v) (sym own.of_level) in
      let same = column_same a.1.0 a.1.1.0 given out (long ∙ due) in
      (kept.0 ∙ ap packed (same.0 ∙ it.0) ∙ done_0, λ plain. kept.1 ∙ same.1 ∙ it.1 plain)

  -- of a cell of plain words, the front of what each call left, behind the cell's headers: the cell
  pub cell_returned : Plain (words_of_cell l) → (left out : ℕ → List ℕ) → ((k : ℕ) → k < (facts_in l).grid.columns → Returned k (out k) (left k))
      → take header_bytes l ++ joined (λ (k : ℕ). take (facts_in l).grid.bytes.column (left k)) (facts_in l).grid.columns ≡ l
  cell_returned plain left out put =
      let size = g.bytes.column in
      let in_range_lem = (cell_facts l cell).grid in
      by_columns g l (omega (arith, cell.framed.long, in_range_lem.cell)) (λ (k : ℕ). take size (left k))
      (λ k h. ap (take size) (put k h (column_plain l plain k h)) ∙ take_at (column_at l g k) (drop size (out k)) size ((cell.framed.columns k h).long ∙ sym in_range_lem.column))
