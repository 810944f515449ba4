-- W1, N14: the writer answers exactly the first row of its order that holds, whatever the source.
use Rattle.std.specs.Prelude.{None, Result, Ok, ⊤}
use Rattle.answers.specs.declared.Refusal.{Refusal}
use Prim.Native.Nat.{ℕ}
use mathlib.Core.Path.{◌≡◌}
use mathlib.Core.Bool.{true}
use Rattle.years.specs.declared.Year.{Year}
use Rattle.layout.specs.declared.Frame.{Frame}
use Rattle.headers.specs.Judged.{frame_of}
use Rattle.description.specs.Items.{item_tests, bad_item, in_range}
use Rattle.description.specs.declared.Description.{Description}
use Rattle.description.specs.Facts.{facts_for}
use Rattle.sources.specs.Heights.{Heights}
use Rattle.column_writer.proofs.PostsExactly.{PostsRow, posts_given, posts_row, Fine, posts_fine}
use Rattle.cell_writer.specs.Cell.{posts_due, frame_for, judged_under, judged_cell_write}
use Rattle.cell_writer.proofs.ItemExactly.{ItemRow, none_bad}
use Rattle.cell_writer.proofs.ItemExactly as by_item

-- 10, 11, 12, or done, under any frame
abbrev pub UnderRow : Frame → Heights → ℕ → Result ⊤ Refusal → Type 0
UnderRow f g room = PostsRow (posts_due f.grid) f.grid.bytes.cell f.voids g room

abbrev pub UnderFine : Frame → Heights → ℕ → Type 0
UnderFine f g room = Fine (posts_due f.grid) f.grid.bytes.cell f.voids g room

module _ (f : Frame) (g : Heights) (room : ℕ) where
  pub given_under : (x : Result ⊤ Refusal) → UnderRow f g room x → judged_under f g room ≡ x
  unfolding judged_under
  given_under = posts_given _ _ f.voids g room

  pub row_under : UnderRow f g room (judged_under f g room)
  unfolding judged_under
  row_under = posts_row _ _ f.voids g room

  pub under_fine : judged_under f g room ≡ Ok tt → UnderFine f g room
  unfolding judged_under
  under_fine = posts_fine _ _ f.voids g room

module _ (year : Year) (d : Description) (g : Heights) (room : ℕ) where
  -- 9 with the lowest item, then 10, 11, 12, or done
  abbrev pub CellRow : Result ⊤ Refusal → Type 0
  CellRow = ItemRow (item_tests d) (UnderRow (frame_of year (facts_for d)) g room)

  -- every row's answer is given
  pub given : (x : Result ⊤ Refusal) → CellRow x → judged_cell_write year d g room ≡ x
  unfolding judged_cell_write
  given = by_item.given (item_tests d) (judged_under (frame_for year d) g room) _ (given_under (frame_for year d) g room)

  -- and every answer is a row's
  pub row : CellRow (judged_cell_write year d g room)
  unfolding judged_cell_write
  row = by_item.row (item_tests d) (judged_under (frame_for year d) g room) _ (row_under (frame_for year d) g room)

  pub items_fine : bad_item d ≡ None → judged_cell_write year d g room ≡ judged_under (frame_for year d) g room
  unfolding judged_cell_write
  items_fine e = none_bad (bad_item d) (judged_under (frame_for year d) g room) e

-- what an accepted call was given
pub record Ready (year : Year) (d : Description) (g : Heights) (room : ℕ) : Type 0 where
  pub ranged : in_range d ≡ true
  pub fine : UnderFine (frame_of year (facts_for d)) g room

pub ready : (year : Year) (d : Description) (g : Heights) (room : ℕ) → judged_cell_write year d g room ≡ Ok tt → Ready year d g room
unfolding judged_cell_write
ready year d g room done =
    let r = by_item.ready (item_tests d) (judged_under (frame_for year d) g room) done in
    record { ranged = r.0; fine = under_fine (frame_for year d) g room r.1 }
