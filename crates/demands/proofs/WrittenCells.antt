-- D2 over the promises themselves: what a call of the writer leaves, where it was done, is read back whole by any later call that names the same year.
use Rattle.std.specs.Prelude.{Result, Ok, ⊤}
use Rattle.answers.specs.declared.Refusal.{Refusal}
use Prim.Native.Nat.{ℕ, ◌<◌}
use mathlib.Core.Path.{◌≡◌, sym, ap, subst, ◌∙◌}
use mathlib.Core.List.{List, ◌++◌}
use lib.IntN.{ℤ}
use lib.ListN.{length, drop}
use contract.Lifetimes as L
use borrow.Fn.Kinds as K
use Rattle.answers.specs.Told.{told, act, done, accepted}
use Rattle.answers.specs.Told as telling
use Rattle.answers.proofs.Injective.{told_injective}
use Rattle.years.specs.declared.Year.{Year}
use Rattle.years.specs.Years.{Names}
use Rattle.description.specs.declared.Description.{Description}
use Rattle.description.proofs.describe.describe.Reads as describe
use Rattle.description.proofs.describe.describe.Kinds as describe-kinds
use Rattle.intake.proofs.intake.Reads as intake
use Rattle.intake.proofs.intake.Kinds as intake-kinds
use Rattle.lookup.proofs.look_up.Reads as look_up
use Rattle.lookup.proofs.look_up.Kinds as look-up-kinds
use Rattle.intake.specs.Intake.{taken}
use Rattle.lookup.specs.Lookup.{height_said, looked_up}
use Rattle.description.specs.Described.{described}
use Rattle.description.specs.Facts.{facts_for}
use Rattle.cell_writer.specs.Cell.{frame_for, judged_cell_write, cell_of, cell_told, cell_output}
use Rattle.column_writer.specs.Judged.{output_after}
use Rattle.cells.specs.Grid.{height_at}
use Rattle.sources.specs.Heights.{numbers}
use Rattle.columns.specs.Column.{Plain}
use Rattle.columns.proofs.ColumnHeights.{Held}
use Rattle.cells.specs.Words.{words_of_cell}
use Rattle.cell_writer.proofs.CellExactly.{Ready, ready}
use Rattle.cell_writer.proofs.Restores.{written_plain, restored_description, restored_accepted, restored_post}
use Rattle.cell_writer.proofs.write.Reads as write
use Rattle.cell_writer.proofs.write.Kinds as write-kinds
use Rattle.demands.proofs.NamedYears.{write_named, intake_named, post_named}

-- a call of the writer that keeps its promise and was done under a year: the output was lent, a description and heights were given
module _ (κs : L.Lfts 2) (a : K.Dens κs write-kinds.ps) (r : _) (s : _) (kept : write.Post κs a r s) (year : Year) (names : Names a.0 year)
    (was : told act r ≡ done) where
  abbrev pub description : Description
  description = a.1.1.0

  abbrev pub grid : List ℤ
  grid = a.1.1.1.0.now

  -- the bytes that the call wrote
  abbrev pub cell : List ℕ
  cell = cell_of description grid

  accepted_call : judged_cell_write year description (numbers grid) (length a.1.0.now) ≡ Ok tt
  unfolding cell_told
  accepted_call = told_injective act (judged_cell_write year description (numbers grid) (length a.1.0.now)) (Ok tt) (sym (write_named κs a r s kept year names).0 ∙ was)

  fine : Ready year description (numbers grid) (length a.1.0.now)
  fine = ready year description (numbers grid) (length a.1.0.now) accepted_call

  held : Held (frame_for year description).voids grid
  held i h = fine.fine.held i (subst (λ (n : ℕ). i < n) fine.fine.long h)

  -- the output begins with them, and past them is as it was
  pub written : s.1.0.now ≡ cell ++ drop (length cell) a.1.0.now
  unfolding cell_output
  written = (write_named κs a r s kept year names).1 ∙ ap (λ (x : Result ⊤ Refusal). output_after x cell a.1.0.now) accepted_call

  -- none of their words is the second word of height 0
  pub plain : Plain (words_of_cell cell)
  plain = written_plain year description fine.ranged grid fine.fine.long held

  -- intake of them under that year accepts
  pub taken_back : (κs' : L.Lfts 1) (b : K.Dens κs' intake-kinds.ps) (q : _) (t : _) → b.1.0.now ≡ cell → intake.Post κs' b q t → Names b.0 year
      → told telling.intake q ≡ accepted (facts_for description).grid.level (facts_for description).grid.columns (facts_for description).grid.posts
  taken_back κs' b q t same post names' = intake_named κs' b q t post year names' ∙ ap (taken year) same ∙ restored_accepted year description fine.ranged grid fine.fine.long held

  -- the description reader gives the description back
  pub described_back : (κs' : L.Lfts 1) (b : K.Dens κs' describe-kinds.ps) (q : _) (t : _) → b.0.now ≡ cell → describe.Post κs' b q t → q ≡ Ok description
  described_back κs' b q t same post = post ∙ ap described same ∙ restored_description description fine.ranged grid

  -- and lookup gives each post of the grid
  pub posts_back : (κs' : L.Lfts 1) (b : K.Dens κs' look-up-kinds.ps) (q : _) (t : _) → b.1.0.now ≡ cell → look_up.Post κs' b q t → Names b.0 year
      → b.1.1.0 < (facts_for description).grid.columns → b.1.1.1.0 < (facts_for description).grid.posts
      → told telling.post q ≡ height_said (height_at (facts_for description).grid.posts grid b.1.1.0 b.1.1.1.0)
  posts_back κs' b q t same post names' hc hp =
      post_named κs' b q t post year names' ∙ ap (λ (l : List ℕ). looked_up year l b.1.1.0 b.1.1.1.0) same
      ∙ restored_post year description fine.ranged grid fine.fine.long held b.1.1.0 b.1.1.1.0 hc hp
