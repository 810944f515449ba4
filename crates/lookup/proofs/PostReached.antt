-- A post under a frame: off the grid, its column cut, or as its column is judged.
use Rattle.std.specs.Prelude.{Result, Ok, Err, ⊤}
use Rattle.answers.specs.declared.Refusal.{Refusal}
use Prim.Native.Nat.{ℕ, ◌+◌, ◌≤◌, ◌<◌}
use mathlib.Core.Path.{◌≡◌, refl, sym, ◌∙◌}
use mathlib.Core.List.{List}
use lib.Dec.{ltb}
use lib.ListN.{length}
use borrow.Author.Tests.{le-leb, lt-leb, lt-ltb, le-ltb, ltb-true}
use Rattle.octets.specs.Choice.{pick, both}
use Rattle.octets.proofs.ChoiceLaws.{both_true, by_test, by_order}
use Rattle.answers.specs.declared.Refusal.TheVariants.{Cut, OffGrid}
use Rattle.layout.specs.Ranges.{Ranged}
use Rattle.layout.specs.declared.Frame.{Frame}
use Rattle.columns.specs.Column.{word_in, GoodColumn}
use Rattle.columns.specs.Judged.{judged_column}
use Rattle.columns.proofs.Exactly.{good_if}
use Rattle.cells.specs.Cell.{start_of, column_at, Framed}
use Rattle.cells.proofs.ColumnPlaces.{column_whole}
use Rattle.lookup.specs.Reach.{spot_in, reached_by, reached_in}

module _ (s : List ℕ) (f : Frame) (c p : ℕ) where
  pub off_columns : f.grid.columns ≤ c → Err OffGrid ≡ reached_in s f c p
  unfolding reached_in
  off_columns h = simp le-ltb

  pub off_posts : c < f.grid.columns → f.grid.posts ≤ p → Err OffGrid ≡ reached_in s f c p
  unfolding reached_in
  off_posts h u = simp (lt-ltb, le-ltb)

  pub off_grid : (c < f.grid.columns → p < f.grid.posts → ⊥) → reached_in s f c p ≡ Err OffGrid
  off_grid away =
      sym (by_order f.grid.columns c off_columns (λ on. by_order f.grid.posts p (off_posts on) (λ u. absurd (away on u))))

  module _ (h : c < f.grid.columns) (u : p < f.grid.posts) where
    pub column_cut : length s < start_of f.grid c + f.grid.bytes.column → Err (Cut (start_of f.grid c)) ≡ reached_in s f c p
    unfolding reached_in
    column_cut short = simp (lt-ltb, lt-leb)

    -- the column is the part lent, judged x, and w the word found in it
    pub column_judged : start_of f.grid c + f.grid.bytes.column ≤ length s
        → (part : List ℕ) → part ≡ column_at s f.grid c
        → (x : Result ⊤ Refusal) → x ≡ judged_column part c f.grid.posts f.voids (start_of f.grid c) → (w : ℕ) → w ≡ word_in part p
        → reached_by x (record { start = start_of f.grid c; posts = f.grid.posts; voids = f.voids; word = w }) ≡ reached_in s f c p
    unfolding reached_in
    column_judged whole part e x j w q =
        rw (lt-ltb c f.grid.columns h, lt-ltb p f.grid.posts u, le-leb (start_of f.grid c + f.grid.bytes.column) (length s) whole, ← e, ← j, q)

    -- a good column that is there whole
    pub post_at_lem : start_of f.grid c + f.grid.bytes.column ≤ length s → GoodColumn (column_at s f.grid c) c f.grid.posts f.voids
        → reached_in s f c p ≡ Ok (spot_in s f c p)
    post_at_lem whole good =
        let column = column_at s f.grid c in
        sym (column_judged whole column refl (Ok tt) (sym (good_if column c f.grid.posts f.voids (start_of f.grid c) good)) (word_in column p) refl)

    -- every column that follows a frame is one
    pub framed_at : Ranged f.grid → Framed f s → reached_in s f c p ≡ Ok (spot_in s f c p)
    framed_at in_range_lem framed = post_at_lem (column_whole s f.grid c in_range_lem framed.long h) (framed.columns c h)

  -- there only the numbers decide
  pub framed_reached : Ranged f.grid → Framed f s
      → reached_in s f c p ≡ pick (both (ltb c f.grid.columns) (ltb p f.grid.posts)) (Ok (spot_in s f c p)) (Err OffGrid)
  unfolding reached_in
  framed_reached in_range_lem framed =
      by_test (both (ltb c f.grid.columns) (ltb p f.grid.posts))
      (λ t.
      let on = both_true (ltb c f.grid.columns) (ltb p f.grid.posts) t in
      framed_at (ltb-true c f.grid.columns on.0) (ltb-true p f.grid.posts on.1) in_range_lem framed ∙ rw t)
      (λ t. rw t)
