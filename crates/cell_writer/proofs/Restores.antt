-- Write then read restores everything (rule D2): the cell is accepted, and gives back its description, its grid and each post.
use Rattle.std.specs.Prelude.{Ok}
use Prim.Native.Nat.{ℕ, ◌+◌, ◌*◌, ◌<◌}
use native.Mathlib.Omega.{arith}
use mathlib.Core.Path.{◌≡◌, sym, ap, subst, ◌∙◌}
use mathlib.Core.Bool.{true}
use mathlib.Core.List.{List, map}
use lib.IntN.{ℤ, pos}
use lib.ListN.{length, get_or}
use Rattle.octets.proofs.JoinedLaws.{part_within}
use Rattle.octets.proofs.ListLaws.{mapped}
use Rattle.answers.specs.Told.{accepted}
use Rattle.years.specs.declared.Year.{Year}
use Rattle.layout.specs.declared.Frame.{Frame}
use Rattle.posts.specs.Heights.{word_of, said_by}
use Rattle.posts.proofs.RoundTrip.{height_back}
use Rattle.headers.specs.Judged.{frame_in}
use Rattle.description.specs.Items.{in_range}
use Rattle.description.specs.Described.{described}
use Rattle.description.specs.declared.Description.{Description}
use Rattle.description.specs.Facts.{facts_for}
use Rattle.header_writer.specs.Written.{headers_for}
use Rattle.header_writer.proofs.WrittenGood.{written_described}
use Rattle.columns.specs.Column.{words_of, Plain}
use Rattle.columns.proofs.ColumnHeights.{Held, words_plain, said_back}
use Rattle.cells.specs.Cell.{Cell}
use Rattle.cells.specs.Words.{words_of_cell}
use Rattle.cells.specs.Grid.{height_at, columns_written, grid_in}
use Rattle.cells.proofs.FramedWords.{Made}
use Rattle.cells.proofs.MadeCells.{made_frame, made_cell, made_words}
use Rattle.intake.specs.Intake.{taken}
use Rattle.intake.proofs.CellExactly.{cell_accepted}
use Rattle.lookup.specs.Lookup.{height_said, looked_up}
use Rattle.lookup.proofs.LookupLaws.{said_there}
use Rattle.cell_writer.specs.Cell.{posts_due, frame_for, cell_of}
use Rattle.cell_writer.proofs.WrittenCell.{written_headed, written_made}

pub restored_description : (d : Description) → in_range d ≡ true → (zs : List ℤ) → described (cell_of d zs) ≡ Ok d
unfolding cell_of
restored_description d e zs = written_described d (columns_written (facts_for d).grid.posts zs (facts_for d).grid.columns) e

module _ (year : Year) (d : Description) (e : in_range d ≡ true) (zs : List ℤ) (all : length zs ≡ posts_due (facts_for d).grid) (held : Held (frame_for year d).voids zs) where
  made : Made (frame_for year d) (headers_for d) (words_of zs)
  made = written_made year d e zs all held

  written_frame : frame_in year (cell_of d zs) ≡ frame_for year d
  unfolding cell_of
  written_frame = made_frame (frame_for year d) (headers_for d) (words_of zs) (written_headed year d e) made

  pub written_cell : Cell year (cell_of d zs)
  unfolding cell_of
  written_cell = made_cell (frame_for year d) (headers_for d) (words_of zs) (written_headed year d e) made

  pub restored_accepted : taken year (cell_of d zs) ≡ accepted (facts_for d).grid.level (facts_for d).grid.columns (facts_for d).grid.posts
  restored_accepted =
      cell_accepted year (cell_of d zs) written_cell ∙ ap (λ (f : Frame). accepted f.grid.level f.grid.columns f.grid.posts) written_frame

  -- and holds no second word of height 0
  pub written_plain : Plain (words_of_cell (cell_of d zs))
  unfolding cell_of
  written_plain =
      subst Plain (sym (made_words (frame_for year d) (headers_for d) (words_of zs) (written_headed year d e) made)) (words_plain (frame_for year d).voids zs held)

  pub restored_grid : grid_in (cell_of d zs) ≡ zs
  unfolding cell_of
  restored_grid = ap (map said_by) (made_words (frame_for year d) (headers_for d) (words_of zs) (written_headed year d e) made) ∙ said_back (frame_for year d).voids zs held

  pub restored_post : (c p : ℕ) → c < (facts_for d).grid.columns → p < (facts_for d).grid.posts
      → looked_up year (cell_of d zs) c p ≡ height_said (height_at (facts_for d).grid.posts zs c p)
  unfolding cell_of
  restored_post c p hc hp =
      let f = frame_for year d in
      let i = c * f.grid.posts + p in
      let w = part_within c f.grid.columns f.grid.posts hc in
      said_there f (headers_for d) (words_of zs) (written_headed year d e) made c p hc hp
      ∙ ap (λ (u : ℕ). height_said (said_by u)) (mapped word_of zs i (pos 0) 0 (omega arith))
      ∙ ap height_said (height_back f.voids (get_or zs i (pos 0)) (held i (omega arith)))
