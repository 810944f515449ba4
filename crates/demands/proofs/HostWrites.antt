-- D2 for a C host: what a call of the writer leaves, where it answered 0, is read back whole by any later call that names the same year.
use Rattle.std.specs.Prelude.{Result, Ok, ⊤}
use Rattle.description.specs.declared.Description.{Description}
use Rattle.answers.specs.declared.Refusal.{Refusal}
use Prim.Native.Nat.{ℕ, ◌<◌}
use mathlib.Core.Path.{◌≡◌, sym, ap, ◌∙◌}
use mathlib.Core.List.{List, ◌++◌}
use lib.IntN.{ℤ}
use lib.ListN.{length, drop}
use contract.Lifetimes as L
use borrow.Fn.Kinds as K
use Rattle.answers.specs.Told.{accepted}
use Rattle.years.specs.declared.Year.{Year}
use Rattle.years.specs.Years.{Names}
use Rattle.host_answers.specs.Packed.{packed}
use Rattle.description.specs.Described.{described}
use Rattle.fields.specs.declared.Item.{Item}
use Rattle.description.specs.Facts.{facts_for}
use Rattle.intake.specs.Intake.{taken}
use Rattle.lookup.specs.Lookup.{height_said, looked_up}
use Rattle.cell_writer.specs.Cell.{posts_due, frame_for, cell_of}
use Rattle.column_writer.specs.Judged.{output_after}
use Rattle.column_writer.proofs.PostsExactly.{fine_long, fine_held}
use Rattle.cells.specs.Grid.{height_at}
use Rattle.cell_writer.proofs.Restores.{written_plain, restored_description, restored_accepted, restored_post}
use Rattle.sources.specs.Heights.{heights_in_bytes}
use Rattle.columns.specs.Column.{Plain}
use Rattle.columns.proofs.ColumnHeights.{Held}
use Rattle.cells.specs.Words.{words_of_cell}
use Rattle.host_items.specs.Items.{item_in, description_of, numbers_of}
use Rattle.host_writers.specs.Cell.{judged_bytes, bytes_told, bytes_output}
use Rattle.host_writers.proofs.BytesExactly.{Ready, ready}
use Rattle.host_items.proofs.ItemNumbers.{in_range_lem, description_back}
use Rattle.dted.specs.Description.{items_after}
use Rattle.dted.proofs.cell_calls.dted_intake.Reads as intake
use Rattle.dted.proofs.cell_calls.dted_intake.Kinds as intake-kinds
use Rattle.dted.proofs.cell_calls.dted_post.Reads as post
use Rattle.dted.proofs.cell_calls.dted_post.Kinds as post-kinds
use Rattle.dted.proofs.descriptions.dted_describe.Reads as describe
use Rattle.dted.proofs.descriptions.dted_describe.Kinds as describe-kinds
use Rattle.dted.proofs.writers.dted_write.Reads as write
use Rattle.dted.proofs.writers.dted_write.Kinds as write-kinds
use Rattle.demands.proofs.NamedYears.{host_write_named, host_intake_named, host_post_named}
use Rattle.demands.proofs.HostAnswers.{was_done}

module _ (κs : L.Lfts 3) (a : K.Dens κs write-kinds.ps) (r : _) (s : _) (kept : write.Post κs a r s) (year : Year) (names : Names a.0 year) (was : r ≡ 0) where
  abbrev pub items : List ℤ
  items = a.1.1.0.now

  abbrev pub heights : List ℤ
  heights = heights_in_bytes a.1.1.1.0.now

  -- the bytes that the call wrote
  abbrev pub cell : List ℕ
  cell = cell_of (description_of items) heights

  accepted_call : judged_bytes year items a.1.1.1.0.now (length a.1.0.now) ≡ Ok tt
  unfolding bytes_told
  accepted_call = was_done (judged_bytes year items a.1.1.1.0.now (length a.1.0.now)) (sym (host_write_named κs a r s kept year names).0 ∙ was)

  fine : Ready year items a.1.1.1.0.now (length a.1.0.now)
  fine = ready year items a.1.1.1.0.now (length a.1.0.now) accepted_call

  all : length heights ≡ posts_due (facts_for (description_of items)).grid
  all = fine_long _ _ _ _ _ fine.fine

  held : Held (frame_for year (description_of items)).voids heights
  held = fine_held _ _ _ _ _ fine.fine

  -- the output begins with them, and past them is as it was
  pub written : s.1.0.now ≡ cell ++ drop (length cell) a.1.0.now
  unfolding bytes_output
  written = (host_write_named κs a r s kept year names).1 ∙ ap (λ (x : Result ⊤ Refusal). output_after x cell a.1.0.now) accepted_call

  -- none of their words is the second word of height 0
  pub plain : Plain (words_of_cell cell)
  plain = written_plain year (description_of items) (in_range_lem items fine.numbers) heights all held

  pub taken_back : (κs' : L.Lfts 1) (b : K.Dens κs' intake-kinds.ps) (q : _) (t : _) → b.1.0.now ≡ cell → intake.Post κs' b q t → Names b.0 year
      → q ≡ packed (accepted (facts_for (description_of items)).grid.level (facts_for (description_of items)).grid.columns (facts_for (description_of items)).grid.posts)
  taken_back κs' b q t same kept' names' =
      host_intake_named κs' b q t kept' year names' ∙ ap (λ (l : List ℕ). packed (taken year l)) same
      ∙ ap packed (restored_accepted year (description_of items) (in_range_lem items fine.numbers) heights all held)

  -- the thirteen numbers come back, each in its item's place
  pub described_back : (κs' : L.Lfts 2) (b : K.Dens κs' describe-kinds.ps) (q : _) (t : _) → b.0.now ≡ cell → describe.Post κs' b q t
      → (length t.1.0.now ≡ 13) × ((i : Item) → item_in t.1.0.now i ≡ item_in items i)
  unfolding numbers_of
  described_back κs' b q t same kept' =
      let back : t.1.0.now ≡ numbers_of (description_of items) =
      kept'.1 ∙ ap (λ (l : List ℕ). items_after (described l) b.1.0.now) same
      ∙ ap (λ (x : Result Description Refusal). items_after x b.1.0.now) (restored_description (description_of items) (in_range_lem items fine.numbers) heights)
      in
      (ap length back, λ i. ap (λ (zs : List ℤ). item_in zs i) back ∙ description_back items fine.numbers i)

  pub posts_back : (κs' : L.Lfts 1) (b : K.Dens κs' post-kinds.ps) (q : _) (t : _) → b.1.0.now ≡ cell → post.Post κs' b q t → Names b.0 year
      → b.1.1.0 < (facts_for (description_of items)).grid.columns → b.1.1.1.0 < (facts_for (description_of items)).grid.posts
      → q ≡ packed (height_said (height_at (facts_for (description_of items)).grid.posts heights b.1.1.0 b.1.1.1.0))
  posts_back κs' b q t same kept' names' hc hp =
      host_post_named κs' b q t kept' year names' ∙ ap (λ (l : List ℕ). packed (looked_up year l b.1.1.0 b.1.1.1.0)) same
      ∙ ap packed (restored_post year (description_of items) (in_range_lem items fine.numbers) heights all held b.1.1.0 b.1.1.1.0 hc hp)
