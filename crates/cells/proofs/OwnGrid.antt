-- A cell's own posts as a grid: how many there are, what each says, and a cell of plain words written afresh from them (rules X2 and D3).
use Prim.Native.Nat.{ℕ, ◌+◌, ◌*◌, ◌<◌}
use native.Mathlib.Omega.{arith}
use mathlib.Core.Path.{◌≡◌, sym, ap, subst, ◌∙◌}
use mathlib.Core.List.{List}
use lib.IntN.{pos}
use lib.ListN.{length, get_or, take, length-map}
use Rattle.octets.specs.Numbers.{Bytes}
use Rattle.octets.proofs.JoinedLaws.{length_listed, part_within, part_each}
use Rattle.octets.proofs.ListLaws.{mapped}
use Rattle.octets.proofs.PartLaws.{part_bytes}
use Rattle.years.specs.declared.Year.{Year}
use Rattle.layout.specs.Grid.{header_bytes}
use Rattle.posts.specs.Words.{negative_zero}
use Rattle.posts.specs.Heights.{word_of, said_by}
use Rattle.headers.specs.Judged.{frame_in, facts_in}
use Rattle.columns.specs.Column.{column_of_words, words_of, column_of, word_in, words_in, heights_in, Plain}
use Rattle.columns.proofs.ColumnWords.{good_allowed, column_is}
use Rattle.columns.proofs.ColumnHeights.{said_held, words_allowed_lem, words_written, only_plain}
use Rattle.cells.specs.Cell.{start_of, column_at, Cell}
use Rattle.cells.specs.Words.{cell_of_words, words_under, words_of_cell}
use Rattle.cells.specs.Grid.{height_at, afresh, grid_in}
use Rattle.cells.proofs.ColumnParts.{length_under, part_under, word_under}
use Rattle.cells.proofs.FramedWords.{Made, words_there}
use Rattle.cells.proofs.MadeCells.{cell_made, cell_remade}

module _ (s : List ℕ) where
  pub length_grid : length (grid_in s) ≡ (facts_in s).grid.columns * (facts_in s).grid.posts
  length_grid = length-map (words_of_cell s) said_by ∙ length_under (facts_in s).grid s

  pub own_post : (c p : ℕ) → c < (facts_in s).grid.columns → p < (facts_in s).grid.posts
      → height_at (facts_in s).grid.posts (grid_in s) c p ≡ said_by (word_in (column_at s (facts_in s).grid c) p)
  own_post c p hc hp =
      let g = (facts_in s).grid in
      let w = part_within c g.columns g.posts hc in
      mapped said_by (words_of_cell s) (c * g.posts + p) 0 (pos 0) (omega (arith, length_under g s)) ∙ ap said_by (word_under g s c p hc hp)

  -- where all words are plain, those of each column are
  pub column_plain : Plain (words_of_cell s) → (k : ℕ) → k < (facts_in s).grid.columns
      → Plain (words_in (column_at s (facts_in s).grid k) (facts_in s).grid.posts)
  column_plain plain k h i u =
      let g = (facts_in s).grid in
      let c = column_at s g k in
      let n = length_listed (word_in c) g.posts in
      subst (λ (ws : List ℕ). get_or ws i 0 ≡ negative_zero → ⊥) (part_under g s k h)
      (part_each g.posts (λ w. w ≡ negative_zero → ⊥) (words_of_cell s) g.columns 0 (λ j v. plain j (omega (arith, length_under g s))) k h i (omega arith))

module _ {year : Year} (s : List ℕ) (cell : Cell year s) where
  -- the words that are written for its posts are its words, where they are plain
  pub own_words : Plain (words_of_cell s) → words_of (grid_in s) ≡ words_of_cell s
  own_words = words_written (frame_in year s).voids (words_of_cell s) (cell_made s cell).allowed

  -- and a cell that is its columns written afresh has plain words
  pub afresh_plain : afresh (take header_bytes s) (facts_in s).grid (grid_in s) ≡ s → Plain (words_of_cell s)
  afresh_plain same =
      let f = frame_in year s in
      let made = cell_made s cell in
      let written : Made f (take header_bytes s) (words_of (grid_in s)) = record {
        range = made.range;
        front = made.front;
        all = length-map (grid_in s) word_of ∙ length_grid s;
        allowed = words_allowed_lem f.voids (grid_in s) (said_held f.voids (words_of_cell s) made.allowed);
      } in
      only_plain f.voids (words_of_cell s) made.allowed
      (sym (words_there f (take header_bytes s) (words_of (grid_in s)) written) ∙ ap (words_under f.grid) same)

  module _ (bytes : Bytes s) where
    pub cell_afresh : Plain (words_of_cell s) → afresh (take header_bytes s) (facts_in s).grid (grid_in s) ≡ s
    cell_afresh plain = ap (cell_of_words (take header_bytes s) (facts_in s).grid) (own_words plain) ∙ cell_remade s cell bytes

    -- a column written from its own posts
    pub column_afresh : (k : ℕ) → k < (facts_in s).grid.columns → Plain (words_in (column_at s (facts_in s).grid k) (facts_in s).grid.posts)
        → column_of k (heights_in (column_at s (facts_in s).grid k) (facts_in s).grid.posts) ≡ column_at s (facts_in s).grid k
    column_afresh k h plain =
        let g = (facts_in s).grid in
        let c = column_at s g k in
        let good = cell.framed.columns k h in
        ap (column_of_words k) (words_written (frame_in year s).voids (words_in c g.posts) (good_allowed c k g.posts (frame_in year s).voids good) plain)
        ∙ column_is c k g.posts (part_bytes s (start_of g k) g.bytes.column bytes) good.long good.right
