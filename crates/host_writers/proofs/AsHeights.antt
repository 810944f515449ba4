-- The writers for a C host promise what the writers over heights promise (rules B1 and B2), so every law of those holds of these.
use Rattle.std.specs.Prelude.{Option, Some, None, Result, ⊤}
use Rattle.answers.specs.declared.Refusal.{Refusal}
use Prim.Native.Nat.{ℕ, ◌*◌}
use native.Mathlib.Omega.{arith}
use mathlib.Core.Path.{◌≡◌, refl, sym, ap, ◌∙◌}
use mathlib.Core.Bool.{true}
use mathlib.Core.List.{List}
use lib.IntN.{ℤ}
use lib.ListN.{length}
use Rattle.answers.specs.Told.{told, act}
use Rattle.years.specs.declared.Year.{Year}
use Rattle.layout.specs.Levels.{posts_of, column_bytes}
use Rattle.description.specs.Items.{bad_item}
use Rattle.description.specs.declared.Description.{Description}
use Rattle.description.specs.Facts.{facts_for}
use Rattle.columns.specs.Column.{column_of}
use Rattle.column_writer.specs.Judged.{output_after}
use Rattle.cell_writer.specs.Cell.{posts_due, frame_for, judged_under, judged_cell_write, cell_of, cell_told, cell_output, after_item}
use Rattle.cell_writer.proofs.ItemExactly.{one_bad}
use Rattle.column_writer.specs.Column.{after_number, judged_column_write, column_told_from, column_output_from, column_told, column_output}
use Rattle.sources.specs.Heights.{numbers, in_bytes, heights_in_bytes, bytes_for}
use Rattle.host_items.specs.Items.{bad_number, description_of, numbers_of}
use Rattle.host_writers.specs.Cell.{judged_bytes, bytes_told, bytes_output}
use Rattle.host_writers.specs.Column.{column_bytes_told, column_bytes_output}
use Rattle.sources.proofs.HeightLaws.{Words, heights_back, length_bytes_for}
use Rattle.column_writer.proofs.PostsExactly.{as_numbers}
use Rattle.host_items.proofs.ItemNumbers.{numbers_back}
use Rattle.host_items.proofs.TestsAlike.{items_alike}
use Rattle.host_writers.proofs.BytesExactly as cell

-- items in range, and bytes of the length due; for a column the length is enough
pub cell_same : (year : Year) (items : List ℤ) (grid out : List ℕ) → bad_number items ≡ None → length grid ≡ 2 * posts_due (facts_for (description_of items)).grid
    → (bytes_told year items grid out ≡ cell_told year (description_of items) (heights_in_bytes grid) out)
    × (bytes_output year items grid out ≡ cell_output year (description_of items) (heights_in_bytes grid) out)
unfolding bytes_told bytes_output cell_told cell_output
cell_same year items grid out e h =
    let same = cell.even_agrees year items grid (length out) e h in
    (ap (told act) same, ap (λ (x : Result ⊤ Refusal). output_after x (cell_of (description_of items) (heights_in_bytes grid)) out) same)

pub column_same : (level number : ℕ) (posts out : List ℕ) → length posts ≡ 2 * posts_of level
    → (column_bytes_told level number posts out ≡ column_told level number (heights_in_bytes posts) out)
    × (column_bytes_output level number posts out ≡ column_output level number (heights_in_bytes posts) out)
unfolding column_told_from column_output_from column_told column_output judged_column_write
column_same level number posts out e =
    let same = ap (after_number level number) (as_numbers (posts_of level) (column_bytes (posts_of level)) true (in_bytes posts) (length out) e) in
    (ap (told act) same, ap (λ (x : Result ⊤ Refusal). output_after x (column_of number (heights_in_bytes posts)) out) same)

-- an item out of range leaves the output as it was
bad_left : (bad : Option ℕ) (rest : Result ⊤ Refusal) (written out : List ℕ) → (bad ≡ None → ⊥) → output_after (after_item bad rest) written out ≡ out
bad_left None rest written out n = absurd (n refl)
bad_left (Some item) rest written out n = refl

-- a description with an item out of range: both name the same item, whatever else is given
pub same_item : (year : Year) (d : Description) → (bad_item d ≡ None → ⊥) → (zs : List ℤ) (grid out : List ℕ)
    → (bytes_told year (numbers_of d) grid out ≡ cell_told year d zs out) × (bytes_output year (numbers_of d) grid out ≡ cell_output year d zs out)
unfolding bytes_told bytes_output cell_told cell_output judged_bytes judged_cell_write
same_item year d bad zs grid out =
    let none : bad_number (numbers_of d) ≡ None → ⊥ = λ q. bad (sym (items_alike d) ∙ q) in
    let ours = cell.judged_then year (numbers_of d) grid (length out) in
    let theirs = judged_under (frame_for year d) (numbers zs) (length out) in (
      ap (told act) (ap (λ (b : Option ℕ). after_item b ours) (items_alike d) ∙ one_bad (bad_item d) ours theirs bad),
      bad_left (bad_number (numbers_of d)) ours _ out none ∙ sym (bad_left (bad_item d) theirs _ out bad),
    )

-- so a host can have any description written with any heights of 16 bits, and is answered as the writer over heights answers
any_by : (year : Year) (d : Description) (zs : List ℤ) → length zs ≡ posts_due (facts_for d).grid → Words zs → (out : List ℕ) (bad : Option ℕ) → bad_item d ≡ bad
    → (bytes_told year (numbers_of d) (bytes_for zs) out ≡ cell_told year d zs out) × (bytes_output year (numbers_of d) (bytes_for zs) out ≡ cell_output year d zs out)
any_by year d zs h w out None e =
    let long = length_bytes_for zs in
    rw (numbers_back d, heights_back zs w) at
    (cell_same year (numbers_of d) (bytes_for zs) out (items_alike d ∙ e) (rw (numbers_back d) (omega arith)))
any_by year d zs h w out (Some n) e = same_item year d (λ q. cc) zs (bytes_for zs) out

pub any_cell : (year : Year) (d : Description) (zs : List ℤ) → length zs ≡ posts_due (facts_for d).grid → Words zs → (out : List ℕ)
    → (bytes_told year (numbers_of d) (bytes_for zs) out ≡ cell_told year d zs out) × (bytes_output year (numbers_of d) (bytes_for zs) out ≡ cell_output year d zs out)
any_cell year d zs h w out = any_by year d zs h w out (bad_item d) refl
