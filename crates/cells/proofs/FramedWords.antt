-- Under any frame: columns that follow it are those of their words, and columns of words that it allows follow it.
use Prim.Native.Nat.{ℕ, ◌*◌, ◌<◌}
use native.Mathlib.Omega.{arith}
use mathlib.Core.Path.{◌≡◌, sym, ap, ◌∙◌}
use mathlib.Core.Bool.{true}
use mathlib.Core.List.{List}
use lib.ListN.{length, take, set, length-set}
use lib.Seq.{length-take-le}
use Rattle.octets.specs.Numbers.{Bytes}
use Rattle.octets.specs.Parts.{part}
use Rattle.octets.specs.Pastes.{pasted}
use Rattle.octets.proofs.ChoiceLaws.{by_equal}
use Rattle.octets.proofs.PartLaws.{part_bytes}
use Rattle.octets.proofs.JoinedLaws.{length_listed, get_or_listed, length_part, part_each, each_part, each_set, joined_all, length_replaced, part_replaced, part_kept}
use Rattle.layout.specs.Grid.{header_bytes}
use Rattle.layout.specs.declared.Frame.{Frame}
use Rattle.layout.specs.Ranges.{Ranged}
use Rattle.posts.specs.Words.{word_allowed}
use Rattle.columns.specs.Column.{column_of_words, word_in, words_in, GoodColumn, Allowed}
use Rattle.columns.proofs.ColumnWords.{column_is, words_good, words_back, allowed_fit, good_allowed}
use Rattle.cells.specs.Cell.{start_of, column_at, Framed}
use Rattle.cells.specs.Words.{cell_of_words, words_under}
use Rattle.cells.proofs.ColumnParts.{by_columns, length_under, part_under, length_cell, column_there, column_replaced}

-- a grid in range, room for headers, and a word for each post that the frame allows
pub record Made (f : Frame) (h ws : List ℕ) : Type 0 where
  pub range : Ranged f.grid
  pub front : length h ≡ header_bytes
  pub all : length ws ≡ f.grid.columns * f.grid.posts
  pub allowed : Allowed f.voids ws

module _ (f : Frame) (h ws : List ℕ) (made : Made f h ws) where
  part_allowed : (k : ℕ) → k < f.grid.columns → Allowed f.voids (part f.grid.posts ws k)
  part_allowed k u i v =
      let m = length_part f.grid.posts ws f.grid.columns k made.all u in
      part_each f.grid.posts (λ w. word_allowed f.voids w ≡ true) ws f.grid.columns 0 (λ j x. made.allowed j (omega (arith, made.all))) k u i (omega arith)

  -- what is made of allowed words follows the frame
  pub made_framed : Framed f (cell_of_words h f.grid ws)
  made_framed = record {
    long = length_cell f.grid made.range h ws made.front made.all;
    columns = λ k u.
        rw (column_there f.grid made.range h ws made.front made.all k u)
        (words_good k f.grid.posts f.voids (part f.grid.posts ws k) (omega (arith, made.range.columns_high)) (omega (arith, made.range.posts_high))
        (length_part f.grid.posts ws f.grid.columns k made.all u) (part_allowed k u));
  }

  -- and gives its words back
  pub words_there : words_under f.grid (cell_of_words h f.grid ws) ≡ ws
  words_there =
      let g = f.grid in
      joined_all g.posts (λ (k : ℕ). words_in (column_at (cell_of_words h g ws) g k) g.posts) ws g.columns made.all
      (λ k u.
      let vs = part g.posts ws k in
      let n = length_part g.posts ws g.columns k made.all u in
      ap (λ (c : List ℕ). words_in c g.posts) (column_there g made.range h ws made.front made.all k u)
      ∙ ap (words_in (column_of_words k vs)) (sym n)
      ∙ words_back k vs (allowed_fit f.voids vs (part_allowed k u)))

  -- one word set
  pub set_made : (i w : ℕ) → word_allowed f.voids w ≡ true → Made f h (set ws i w)
  set_made i w a = record {
    range = made.range;
    front = made.front;
    all = length-set ws i w ∙ made.all;
    allowed = each_set (λ u. word_allowed f.voids u ≡ true) ws i w 0 a made.allowed;
  }

  -- one column's words replaced
  pub replaced_made : (c : ℕ) → c < f.grid.columns → (vs : List ℕ) → length vs ≡ f.grid.posts → Allowed f.voids vs
      → Made f h (pasted ws (c * f.grid.posts) vs)
  replaced_made c u vs e allowed =
      let g = f.grid in
      let new = pasted ws (c * g.posts) vs in
      let long : length new ≡ g.columns * g.posts = length_replaced g.posts ws g.columns c made.all u vs e ∙ made.all in
      record {
        range = made.range;
        front = made.front;
        all = long;
        allowed = λ j v.
            each_part g.posts (λ w. word_allowed f.voids w ≡ true) new g.columns 0
            (λ k x i y. by_equal k c
            (λ same. rw (same, part_replaced g.posts ws g.columns c made.all u vs e) (allowed i (omega arith)))
            (λ other.
            rw (part_kept g.posts ws g.columns c made.all u vs e k other)
            (part_each g.posts (λ w. word_allowed f.voids w ≡ true) ws g.columns 0 (λ m z. made.allowed m (omega (arith, made.all))) k x i y)))
            j (omega arith);
      }

-- bytes that follow a frame
module _ (f : Frame) (in_range_lem : Ranged f.grid) (s : List ℕ) (framed : Framed f s) where
  pub framed_made : Made f (take header_bytes s) (words_under f.grid s)
  framed_made =
      let g = f.grid in
      record {
        range = in_range_lem;
        front = length-take-le header_bytes s (omega (arith, framed.long, in_range_lem.cell));
        all = length_under g s;
        allowed = λ i u.
            each_part g.posts (λ w. word_allowed f.voids w ≡ true) (words_under g s) g.columns 0
            (λ k v j x. rw (part_under g s k v, get_or_listed (word_in (column_at s g k)) g.posts j 0 x) ((framed.columns k v).words j x))
            i (omega (arith, length_under g s));
      }

  -- nothing of them is free but the room for headers and the words
  pub framed_is : Bytes s → cell_of_words (take header_bytes s) f.grid (words_under f.grid s) ≡ s
  framed_is bytes =
      let g = f.grid in
      by_columns g s (omega (arith, framed.long, in_range_lem.cell)) (λ (k : ℕ). column_of_words k (part g.posts (words_under g s) k))
      (λ k h.
      ap (column_of_words k) (part_under g s k h)
      ∙ column_is (column_at s g k) k g.posts (part_bytes s (start_of g k) g.bytes.column bytes) (framed.columns k h).long (framed.columns k h).right)

  -- one good column in the place of another is that column's words replaced
  module _ (c : ℕ) (u : c < f.grid.columns) (column : List ℕ) (good : GoodColumn column c f.grid.posts f.voids) where
    abbrev pub words_put : List ℕ
    words_put = pasted (words_under f.grid s) (c * f.grid.posts) (words_in column f.grid.posts)

    pub put_made : Made f (take header_bytes s) words_put
    put_made =
        let posts = f.grid.posts in
        replaced_made f (take header_bytes s) (words_under f.grid s) framed_made c u (words_in column posts) (length_listed (word_in column) posts)
        (good_allowed column c posts f.voids good)

    pub put_is : Bytes s → Bytes column → pasted s (start_of f.grid c) column ≡ cell_of_words (take header_bytes s) f.grid words_put
    put_is bytes column_bytes_lem =
        let g = f.grid in
        sym (λ i. pasted (framed_is bytes i) (start_of g c) (column_is column c g.posts column_bytes_lem good.long good.right i))
        ∙ column_replaced g in_range_lem (take header_bytes s) (words_under g s) framed_made.front framed_made.all c u (words_in column g.posts)
        (length_listed (word_in column) g.posts)
