-- W1, B2, N14: the writer for a C host answers exactly the first row of its order that holds, and as the writer over heights does.
use Rattle.std.specs.Prelude.{None, Result, Ok, Err, ⊤}
use Rattle.answers.specs.declared.Refusal.{Refusal}
use Prim.Native.Nat.{ℕ, ◌*◌, ◌<◌}
use mathlib.Core.Path.{◌≡◌, sym, ◌∙◌}
use mathlib.Core.List.{List}
use lib.IntN.{ℤ}
use lib.ListN.{length}
use Rattle.answers.specs.declared.Refusal.TheVariants.{GridLength}
use Rattle.years.specs.declared.Year.{Year}
use Rattle.description.proofs.RangedItems.{item_exactly}
use Rattle.sources.specs.Heights.{numbers, in_bytes, heights_in_bytes, Counts}
use Rattle.layout.specs.Levels.{posts_of}
use Rattle.headers.specs.Judged.{frame_of}
use Rattle.description.specs.Facts.{facts_for}
use Rattle.column_writer.specs.Column.{zone_one_columns, judged_column_write}
use Rattle.column_writer.proofs.PostsExactly.{differs, as_numbers}
use Rattle.column_writer.proofs.NumberExactly as by_number
use Rattle.column_writer.proofs.ColumnExactly as column
use Rattle.cell_writer.specs.Cell.{posts_due, frame_for, judged_under, judged_cell_write}
use Rattle.cell_writer.proofs.ItemExactly.{ItemRow, none_bad}
use Rattle.cell_writer.proofs.ItemExactly as by_item
use Rattle.cell_writer.proofs.CellExactly.{UnderRow, UnderFine, given_under, row_under, under_fine, items_fine}
use Rattle.host_items.specs.Items.{number_tests, bad_number, description_of}
use Rattle.host_items.proofs.ItemNumbers.{number_exactly, in_range_lem}
use Rattle.host_writers.specs.Cell.{judged_bytes}

module _ (year : Year) (items : List ℤ) (grid : List ℕ) (room : ℕ) where
  -- 10 to 12 under the description that the items say
  abbrev pub judged_then : Result ⊤ Refusal
  judged_then = judged_under (frame_for year (description_of items)) (in_bytes grid) room

  -- 9 with the lowest item, then 10, 11, 12, or done
  abbrev pub CellRow : Result ⊤ Refusal → Type 0
  CellRow = ItemRow (number_tests items) (UnderRow (frame_of year (facts_for (description_of items))) (in_bytes grid) room)

  -- every row's answer is given
  pub given : (x : Result ⊤ Refusal) → CellRow x → judged_bytes year items grid room ≡ x
  unfolding judged_bytes
  given = by_item.given (number_tests items) judged_then _ (given_under (frame_for year (description_of items)) (in_bytes grid) room)

  -- and every answer is a row's
  pub row : CellRow (judged_bytes year items grid room)
  unfolding judged_bytes
  row = by_item.row (number_tests items) judged_then _ (row_under (frame_for year (description_of items)) (in_bytes grid) room)

  pub numbers_fine : bad_number items ≡ None → judged_bytes year items grid room ≡ judged_then
  unfolding judged_bytes
  numbers_fine e = none_bad (bad_number items) judged_then e

  -- B2, N10 in plain numbers: any length but two bytes a post is 10, an odd one too
  pub length_refused : bad_number items ≡ None → (length grid ≡ 2 * posts_due (facts_for (description_of items)).grid → ⊥)
      → judged_bytes year items grid room ≡ Err (GridLength (posts_due (facts_for (description_of items)).grid))
  length_refused e other = numbers_fine e ∙ given_under (frame_for year (description_of items)) (in_bytes grid) room _ (differs other)

  -- where items are in range and the bytes are those of the posts due, the writer over heights answers the same
  pub even_agrees : bad_number items ≡ None → Counts (in_bytes grid) (posts_due (facts_for (description_of items)).grid)
      → judged_bytes year items grid room ≡ judged_cell_write year (description_of items) (numbers (heights_in_bytes grid)) room
  unfolding judged_under
  even_agrees e h =
      let d = description_of items in
      let f = frame_for year d in
      numbers_fine e
      ∙ as_numbers (posts_due f.grid) f.grid.bytes.cell f.voids (in_bytes grid) room h
      ∙ sym (items_fine year d (numbers (heights_in_bytes grid)) room ((item_exactly d).0.1 (in_range_lem items e)))

-- what an accepted call was given
pub record Ready (year : Year) (items : List ℤ) (grid : List ℕ) (room : ℕ) : Type 0 where
  pub numbers : bad_number items ≡ None
  pub fine : UnderFine (frame_of year (facts_for (description_of items))) (in_bytes grid) room

pub ready : (year : Year) (items : List ℤ) (grid : List ℕ) (room : ℕ) → judged_bytes year items grid room ≡ Ok tt → Ready year items grid room
unfolding judged_bytes
ready year items grid room done =
    let r = by_item.ready (number_tests items) (judged_then year items grid room) done in
    record { numbers = (number_exactly items).0.1 r.0; fine = under_fine (frame_for year (description_of items)) (in_bytes grid) room r.1 }

-- the same of the column writer, for a level and a number that there are
pub column_length_refused : (level number : ℕ) (posts : List ℕ) (room : ℕ) → level < 3 → number < zone_one_columns level → (length posts ≡ 2 * posts_of level → ⊥)
    → judged_column_write level number (in_bytes posts) room ≡ Err (GridLength (posts_of level))
column_length_refused level number posts room h u other = column.given level number (in_bytes posts) room _ (by_number.then_rest _ h u (differs other))
