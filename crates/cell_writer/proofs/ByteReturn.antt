-- Under the headers of an accepted cell, the column writer makes the cell's own bytes from the posts of a column with plain words (rule X2).
use Rattle.std.specs.Prelude.{Result, Ok, ⊤}
use Rattle.answers.specs.declared.Refusal.{Refusal}
use Prim.Native.Nat.{ℕ, ◌<◌, ◌≤◌}
use native.Mathlib.Omega.{arith}
use mathlib.Core.Path.{◌≡◌, refl, sym, ap, ◌∙◌}
use mathlib.Core.Bool.{true}
use mathlib.Core.List.{List, ◌++◌}
use lib.IntN.{pos}
use lib.ListN.{length, get_or, drop}
use Rattle.octets.specs.Numbers.{Bytes}
use Rattle.years.specs.declared.Year.{Year}
use Rattle.layout.specs.Levels.{posts_of, column_bytes}
use Rattle.layout.specs.Grid.{grid_of}
use Rattle.layout.specs.declared.Grid.{Grid}
use Rattle.layout.proofs.ZoneOne.{zone_one_most}
use Rattle.posts.proofs.RoundTrip.{heights_more}
use Rattle.headers.specs.Basis.{level_at}
use Rattle.layout.specs.Zones.{edge_of}
use Rattle.headers.specs.Judged.{facts_in, frame_in}
use Rattle.layout.proofs.NearEdges.{edge_below}
use Rattle.headers.proofs.FirstFour.{level_below}
use Rattle.columns.specs.Column.{column_of, words_in, heights_in, Plain}
use Rattle.columns.proofs.ColumnWords.{good_allowed}
use Rattle.columns.proofs.ColumnHeights.{Held, length_heights, said_held}
use Rattle.sources.specs.Heights.{numbers}
use Rattle.cells.specs.Cell.{column_at, Cell}
use Rattle.cells.proofs.MadeCells.{cell_facts}
use Rattle.cells.proofs.OwnGrid.{column_afresh}
use Rattle.column_writer.specs.Column.{zone_one_columns, judged_column_write, column_output}
use Rattle.column_writer.specs.Judged.{output_after}
use Rattle.column_writer.proofs.ColumnExactly.{given}
use Rattle.column_writer.proofs.NumberExactly.{then_rest}
use Rattle.column_writer.proofs.PostsExactly.{fine}

-- what the level alone makes due, beside a grid
pub record OfLevel (g : Grid) : Type 0 where
  pub level : g.level < 3
  pub columns : g.columns ≤ zone_one_columns g.level
  pub posts : posts_of g.level ≡ g.posts
  pub bytes : column_bytes (posts_of g.level) ≡ g.bytes.column

of_level : (level edge : ℕ) → level < 3 → edge < 90 → OfLevel (grid_of level edge)
unfolding grid_of
of_level level edge hl he = record { level = hl; columns = zone_one_most level edge hl he; posts = refl; bytes = refl }

pub cell_of_level : {year : Year} (s : List ℕ) → Cell year s → OfLevel (facts_in s).grid
cell_of_level s cell =
    let f = cell_facts s cell in
    let latitude = (facts_in s).latitude in
    rw f.laid (of_level (level_at s) (edge_of latitude) (level_below s) (edge_below latitude f.latitude))

module _ {year : Year} (s : List ℕ) (cell : Cell year s) (k : ℕ) (h : k < (facts_in s).grid.columns) where
  -- the posts of a column may be held where voids are allowed
  column_held : Held true (heights_in (column_at s (facts_in s).grid k) (facts_in s).grid.posts)
  column_held i u =
      let g = (facts_in s).grid in
      let c = column_at s g k in
      let ws = words_in c g.posts in
      heights_more (frame_in year s).voids (get_or (heights_in c g.posts) i (pos 0))
      (said_held (frame_in year s).voids ws (good_allowed c k g.posts (frame_in year s).voids (cell.framed.columns k h)) i u)

  module _ (out : List ℕ) (room : (facts_in s).grid.bytes.column ≤ length out) where
    pub return_done : judged_column_write (facts_in s).grid.level k (numbers (heights_in (column_at s (facts_in s).grid k) (facts_in s).grid.posts)) (length out) ≡ Ok tt
    return_done =
        let g = (facts_in s).grid in
        let zs = heights_in (column_at s g k) g.posts in
        let l = cell_of_level s cell in
        let n = length_heights (column_at s g k) g.posts in
        given g.level k (numbers zs) (length out) (Ok tt)
        (then_rest (Ok tt) l.level (omega (arith, l.columns))
        (fine (n ∙ sym l.posts) (λ i u. column_held i (omega (arith, l.posts))) (omega (arith, l.bytes))))

    pub byte_return : Bytes s → Plain (words_in (column_at s (facts_in s).grid k) (facts_in s).grid.posts)
        → column_output (facts_in s).grid.level k (heights_in (column_at s (facts_in s).grid k) (facts_in s).grid.posts) out
        ≡ column_at s (facts_in s).grid k ++ drop (facts_in s).grid.bytes.column out
    unfolding column_output
    byte_return bytes plain =
        let g = (facts_in s).grid in
        let zs = heights_in (column_at s g k) g.posts in
        let long : length (column_at s g k) ≡ g.bytes.column = (cell.framed.columns k h).long ∙ sym (cell_facts s cell).grid.column in
        ap (λ (o : Result ⊤ Refusal). output_after o (column_of k zs) out) return_done
        ∙ ap (λ (c : List ℕ). c ++ drop (length c) out) (column_afresh s cell bytes k h plain)
        ∙ ap (λ (n : ℕ). column_at s g k ++ drop n out) long
