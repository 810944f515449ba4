-- N15, D1 over the calls' own promises, inner and exported: a refused call changes no byte that it was lent.
use Rattle.std.specs.Prelude.{Result, Ok, Err, ⊤}
use Rattle.description.specs.declared.Description.{Description}
use Rattle.answers.specs.declared.Refusal.{Refusal}
use Prim.Native.Nat.{ℕ, ◌<◌}
use native.Mathlib.Omega.{arith}
use mathlib.Core.Path.{◌≡◌, refl, ap, subst, ◌∙◌}
use mathlib.Core.List.{List}
use lib.IntN.{ℤ}
use lib.ListN.{length}
use contract.Lifetimes as L
use borrow.Fn.Kinds as K
use Rattle.answers.specs.Told.{Told, number_told, told, act}
use Rattle.years.specs.declared.Year.{Year}
use Rattle.years.specs.Years.{under, left_under}
use Rattle.years.proofs.YearLaws.{by_year, under_named, left_named, left_none}
use Rattle.host_answers.specs.Packed.{packed}
use Rattle.host_answers.specs.Apart.{number_in, Fits}
use Rattle.host_answers.proofs.TakenApart.{number_told_lem}
use Rattle.description.specs.Described.{described}
use Rattle.column_writer.specs.Judged.{output_after}
use Rattle.column_writer.specs.Column.{judged_column_write, column_told_from, column_output_from, column_told, column_output}
use Rattle.columns.specs.Column.{column_of}
use Rattle.cell_writer.specs.Cell.{judged_cell_write, cell_of, cell_told, cell_output}
use Rattle.sources.specs.Heights.{numbers, in_bytes, heights_in_bytes}
use Rattle.host_items.specs.Items.{description_of}
use Rattle.host_writers.specs.Cell.{judged_bytes, bytes_told, bytes_output}
use Rattle.host_writers.specs.Column.{column_bytes_told, column_bytes_output}
use Rattle.edit.specs.Edit.{judged_edit, edit_told, edited}
use Rattle.edit.proofs.EditExactly.{refused_leaves}
use Rattle.dted.specs.Description.{said_of_described, items_after}
use Rattle.edit.proofs.edit.Reads as edit
use Rattle.edit.proofs.edit.Kinds as edit-kinds
use Rattle.cell_writer.proofs.write.Reads as write
use Rattle.cell_writer.proofs.write.Kinds as write-kinds
use Rattle.column_writer.proofs.write.Reads as write-column
use Rattle.column_writer.proofs.write.Kinds as write-column-kinds
use Rattle.host_writers.proofs.cell.write.Reads as write_bytes
use Rattle.host_writers.proofs.cell.write.Kinds as write-bytes-kinds
use Rattle.host_writers.proofs.column.write.Reads as write-column-bytes
use Rattle.host_writers.proofs.column.write.Kinds as write-column-bytes-kinds
use Rattle.dted.proofs.cell_calls.dted_edit.Reads as host-edit
use Rattle.dted.proofs.cell_calls.dted_edit.Kinds as host-edit-kinds
use Rattle.dted.proofs.descriptions.dted_describe.Reads as host-describe
use Rattle.dted.proofs.descriptions.dted_describe.Kinds as host-describe-kinds
use Rattle.dted.proofs.writers.dted_write.Reads as host-write
use Rattle.dted.proofs.writers.dted_write.Kinds as host-write-kinds
use Rattle.dted.proofs.writers.dted_write_column.Reads as host-write-column
use Rattle.dted.proofs.writers.dted_write_column.Kinds as host-write-column-kinds
use Rattle.demands.proofs.PlacesFit.{edit_fits}
use Rattle.demands.proofs.HostFits.{write_fits, write_column_fits, describe_fits}

-- where what is told has a number, the bytes are as they were
abbrev Leaves : {A : Type 0} → Told → List A → List A → Type 0
Leaves t before after = 0 < number_told t → after ≡ before

-- so after a call that promises to tell this and to leave that; its answer may be this number
told_so : {A : Type 0} (t u : Told) (before left after : List A) → u ≡ t → after ≡ left → Leaves t before left → Leaves u before after
told_so t u before left after e f leaves some = f ∙ leaves (subst (λ (x : Told). 0 < number_told x) e some)

packed_so : {A : Type 0} (t : Told) (r : ℕ) (before left after : List A) → Fits t → r ≡ packed t → after ≡ left → Leaves t before left
    → 0 < number_in r → after ≡ before
packed_so t r before left after fits e f leaves some = f ∙ leaves (subst (λ (n : ℕ). 0 < n) (ap number_in e ∙ number_told_lem t fits) some)

-- by what was judged
output_leaves : (x : Result ⊤ Refusal) (written out : List ℕ) → Leaves (told act x) out (output_after x written out)
output_leaves (Ok tt) written out some = absurd (omega arith)
output_leaves (Err r) written out some = refl

edit_by : (year : Year) (l : List ℕ) (c p : ℕ) (z : ℤ) (x : Result ⊤ Refusal) → judged_edit year l c p z ≡ x → Leaves (told act x) l (edited year l c p z)
edit_by year l c p z (Ok tt) e some = absurd (omega arith)
edit_by year l c p z (Err r) e some = refused_leaves year l c p z r e

items_leaves : (x : Result Description Refusal) (items : List ℤ) → Leaves (said_of_described x) items (items_after x items)
items_leaves (Ok d) items some = absurd (omega arith)
items_leaves (Err r) items some = refl

edit_leaves : (year : Year) (l : List ℕ) (c p : ℕ) (z : ℤ) → Leaves (edit_told year l c p z) l (edited year l c p z)
unfolding edit_told
edit_leaves year l c p z = edit_by year l c p z (judged_edit year l c p z) refl

bytes_leaves : (year : Year) (items : List ℤ) (grid out : List ℕ) → Leaves (bytes_told year items grid out) out (bytes_output year items grid out)
unfolding bytes_told bytes_output
bytes_leaves year items grid out = output_leaves (judged_bytes year items grid (length out)) (cell_of (description_of items) (heights_in_bytes grid)) out

column_bytes_leaves : (level number : ℕ) (posts out : List ℕ) → Leaves (column_bytes_told level number posts out) out (column_bytes_output level number posts out)
unfolding column_told_from column_output_from
column_bytes_leaves level number posts out = output_leaves (judged_column_write level number (in_bytes posts) (length out)) (column_of number (heights_in_bytes posts)) out

-- N17: 17 leaves them too
under_leaves : (n : ℕ) (tells : Year → Told) (before : List ℕ) (leaves : Year → List ℕ) → ((year : Year) → Leaves (tells year) before (leaves year))
    → Leaves (under n tells) before (left_under n before leaves)
under_leaves n tells before leaves each some =
    by_year n
    (λ none. left_none n before leaves none)
    (λ year names.
    left_named n before leaves year names ∙ each year (subst (λ (t : Told). 0 < number_told t) (under_named n tells year names) some))

packed_under : (n : ℕ) (tells : Year → Told) (r : ℕ) (before : List ℕ) (leaves : Year → List ℕ) (after : List ℕ) → ((year : Year) → Fits (tells year))
    → r ≡ packed (under n tells) → after ≡ left_under n before leaves → ((year : Year) → Leaves (tells year) before (leaves year)) → 0 < number_in r → after ≡ before
packed_under n tells r before leaves after fits e f each some =
    by_year n
    (λ none. f ∙ left_none n before leaves none)
    (λ year names.
    packed_so (tells year) r before (leaves year) after (fits year) (e ∙ ap packed (under_named n tells year names)) (f ∙ left_named n before leaves year names) (each year) some)

-- the inner calls
pub edit_refused : (κs : L.Lfts 1) (a : K.Dens κs edit-kinds.ps) (r : _) (s : _) → edit.Post κs a r s
    → 0 < number_told (told act r) → s.1.0.now ≡ a.1.0.now
edit_refused κs a r s kept =
    told_so _ (told act r) _ _ _ kept.0 kept.1
    (under_leaves a.0 _ _ _ (λ year. edit_leaves year a.1.0.now a.1.1.0 a.1.1.1.0 a.1.1.1.1.0))

pub write_refused : (κs : L.Lfts 2) (a : K.Dens κs write-kinds.ps) (r : _) (s : _) → write.Post κs a r s
    → 0 < number_told (told act r) → s.1.0.now ≡ a.1.0.now
unfolding cell_told cell_output
write_refused κs a r s kept =
    let d = a.1.1.0 in
    let zs = a.1.1.1.0.now in
    let out = a.1.0.now in
    told_so _ (told act r) _ _ _ kept.0 kept.1 (under_leaves a.0 _ _ _ (λ year. output_leaves (judged_cell_write year d (numbers zs) (length out)) (cell_of d zs) out))

pub write_column_refused : (κs : L.Lfts 2) (a : K.Dens κs write-column-kinds.ps) (r : _) (s : _) → write-column.Post κs a r s
    → 0 < number_told (told act r) → s.0.now ≡ a.0.now
unfolding column_told column_output
write_column_refused κs a r s kept =
    let k = a.1.1.0 in
    let zs = a.1.1.1.0.now in
    let out = a.0.now in
    told_so _ (told act r) _ _ _ kept.0 kept.1 (output_leaves (judged_column_write a.1.0 k (numbers zs) (length out)) (column_of k zs) out)

pub write_bytes_refused : (κs : L.Lfts 3) (a : K.Dens κs write-bytes-kinds.ps) (r : _) (s : _) → write_bytes.Post κs a r s
    → 0 < number_told (told act r) → s.1.0.now ≡ a.1.0.now
write_bytes_refused κs a r s kept =
    told_so _ (told act r) _ _ _ kept.0 kept.1 (under_leaves a.0 _ _ _ (λ year. bytes_leaves year a.1.1.0.now a.1.1.1.0.now a.1.0.now))

pub write_column_bytes_refused : (κs : L.Lfts 2) (a : K.Dens κs write-column-bytes-kinds.ps) (r : _) (s : _) → write-column-bytes.Post κs a r s
    → 0 < number_told (told act r) → s.0.now ≡ a.0.now
write_column_bytes_refused κs a r s kept =
    told_so _ (told act r) _ _ _ kept.0 kept.1 (column_bytes_leaves a.1.0 a.1.1.0 a.1.1.1.0.now a.0.now)

-- the exported calls
pub host_edit_refused : (κs : L.Lfts 1) (a : K.Dens κs host-edit-kinds.ps) (r : _) (s : _) → host-edit.Post κs a r s
    → 0 < number_in r → s.1.0.now ≡ a.1.0.now
host_edit_refused κs a r s kept =
    let l = a.1.0.now in
    let z = a.1.1.1.1.0 in
    packed_under a.0 _ r _ _ _ (λ year. edit_fits year l a.1.1.0 a.1.1.1.0 z) kept.0 kept.1 (λ year. edit_leaves year l a.1.1.0 a.1.1.1.0 z)

pub host_describe_refused : (κs : L.Lfts 2) (a : K.Dens κs host-describe-kinds.ps) (r : _) (s : _) → host-describe.Post κs a r s
    → 0 < number_in r → s.1.0.now ≡ a.1.0.now
host_describe_refused κs a r s kept =
    packed_so _ r _ _ _ (describe_fits a.0.now) kept.0 kept.1 (items_leaves (described a.0.now) a.1.0.now)

pub host_write_refused : (κs : L.Lfts 3) (a : K.Dens κs host-write-kinds.ps) (r : _) (s : _) → host-write.Post κs a r s
    → 0 < number_in r → s.1.0.now ≡ a.1.0.now
host_write_refused κs a r s kept =
    let items = a.1.1.0.now in
    let grid = a.1.1.1.0.now in
    packed_under a.0 _ r _ _ _ (λ year. write_fits year items grid a.1.0.now) kept.0 kept.1 (λ year. bytes_leaves year items grid a.1.0.now)

pub host_write_column_refused : (κs : L.Lfts 2) (a : K.Dens κs host-write-column-kinds.ps) (r : _) (s : _) → host-write-column.Post κs a r s
    → 0 < number_in r → s.0.now ≡ a.0.now
host_write_column_refused κs a r s kept =
    let k = a.1.1.0 in
    let posts = a.1.1.1.0.now in
    packed_so _ r _ _ _ (write_column_fits a.1.0 k posts a.0.now) kept.0 kept.1 (column_bytes_leaves a.1.0 k posts a.0.now)
