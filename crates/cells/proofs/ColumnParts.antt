-- The columns of a grid's words, side by side: each of them, and one of them replaced.
use Prim.Native.Nat.{ℕ, ◌+◌, ◌*◌, ◌<◌}
use native.Mathlib.Omega.{arith}
use mathlib.Core.Path.{◌≡◌, sym, ap, ◌∙◌}
use mathlib.Core.List.{List, ◌++◌}
use lib.ListN.{length, get_or, take, drop, length-append, length-drop, take-append-drop}
use lib.Seq.{drop-drop, drop-append-add}
use Rattle.octets.specs.Parts.{part, joined}
use Rattle.octets.specs.Pastes.{pasted}
use Rattle.octets.proofs.JoinedLaws.{length_listed, get_or_listed, length_part, get_or_part, joined_all, length_joined, part_joined, replaced_joined, paste_append}
use Rattle.layout.specs.Grid.{header_bytes}
use Rattle.layout.specs.declared.Grid.{Grid}
use Rattle.layout.specs.Ranges.{Ranged}
use Rattle.columns.specs.Column.{column_of_words, word_in, words_in}
use Rattle.columns.proofs.ColumnWords.{length_column}
use Rattle.cells.specs.Cell.{start_of, column_at}
use Rattle.cells.specs.Words.{columns_of_words, cell_of_words, words_under}

-- bytes as long as a grid makes them are their room for headers and their columns
pub by_columns : (g : Grid) (s : List ℕ) → length s ≡ header_bytes + g.columns * g.bytes.column
    → (f : ℕ → List ℕ) → ((k : ℕ) → k < g.columns → f k ≡ column_at s g k) → take header_bytes s ++ joined f g.columns ≡ s
by_columns g s long f same =
    let width = g.bytes.column in
    let all =
    joined_all width f (drop header_bytes s) g.columns (rw length-drop (omega arith))
    (λ k h. same k h ∙ ap (take width) (sym (drop-drop (k * width) header_bytes s)))
    in
    rw all (take-append-drop header_bytes s)

-- the words that stand under a grid, whatever the bytes are: as many as it has posts, column by column and one by one
module _ (g : Grid) (s : List ℕ) where
  pub length_under : length (words_under g s) ≡ g.columns * g.posts
  length_under =
      length_joined g.posts (λ (k : ℕ). words_in (column_at s g k) g.posts) g.columns (λ k h. length_listed (word_in (column_at s g k)) g.posts)

  pub part_under : (k : ℕ) → k < g.columns → part g.posts (words_under g s) k ≡ words_in (column_at s g k) g.posts
  part_under =
      part_joined g.posts (λ (k : ℕ). words_in (column_at s g k) g.posts) g.columns (λ k h. length_listed (word_in (column_at s g k)) g.posts)

  pub word_under : (c p : ℕ) → c < g.columns → p < g.posts → get_or (words_under g s) (c * g.posts + p) 0 ≡ word_in (column_at s g c) p
  word_under c p u v =
      sym (get_or_part g.posts (words_under g s) c p 0 v)
      ∙ ap (λ (ws : List ℕ). get_or ws p 0) (part_under c u) ∙ get_or_listed (word_in (column_at s g c)) g.posts p 0 v

-- words that were put behind room for headers
module _ (g : Grid) (in_range_lem : Ranged g) (h ws : List ℕ) (front : length h ≡ header_bytes) (all : length ws ≡ g.columns * g.posts) where
  abbrev columns : List ℕ
  columns = columns_of_words g.posts ws g.columns

  -- a column of the grid's width
  wide : (k : ℕ) (vs : List ℕ) → length vs ≡ g.posts → length (column_of_words k vs) ≡ g.bytes.column
  wide k vs e = length_column k vs ∙ omega (arith, in_range_lem.column)

  each : (k : ℕ) → k < g.columns → length (column_of_words k (part g.posts ws k)) ≡ g.bytes.column
  each k u = wide k (part g.posts ws k) (length_part g.posts ws g.columns k all u)

  pub length_cell : length (cell_of_words h g ws) ≡ g.bytes.cell
  length_cell =
      length-append h columns
      ∙ omega (arith, in_range_lem.cell, length_joined g.bytes.column (λ (k : ℕ). column_of_words k (part g.posts ws k)) g.columns each)

  pub column_there : (k : ℕ) → k < g.columns → column_at (cell_of_words h g ws) g k ≡ column_of_words k (part g.posts ws k)
  column_there k u =
      let width = g.bytes.column in
      ap (λ (n : ℕ). take width (drop (n + k * width) (h ++ columns))) (sym front)
      ∙ ap (take width) (drop-append-add h columns (k * width))
      ∙ part_joined width (λ (j : ℕ). column_of_words j (part g.posts ws j)) g.columns each k u

  -- one column's words replaced are that column replaced
  pub column_replaced : (c : ℕ) → c < g.columns → (vs : List ℕ) → length vs ≡ g.posts
      → pasted (cell_of_words h g ws) (start_of g c) (column_of_words c vs) ≡ cell_of_words h g (pasted ws (c * g.posts) vs)
  column_replaced c u vs e =
      paste_append h columns (c * g.bytes.column) header_bytes (column_of_words c vs) front
      ∙ ap (λ (l : List ℕ). h ++ l) (sym (replaced_joined g.posts g.bytes.column column_of_words wide ws g.columns c all u vs e))
