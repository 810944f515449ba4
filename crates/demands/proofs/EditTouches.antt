-- E3 over the edit's own promise, and over the exported call's: an edit touches at most six bytes, those of its post and of its column's checksum.
use Prim.Native.Nat.{ℕ}
use mathlib.Core.Path.{◌≡◌, refl, sym, subst, ◌∙◌}
use mathlib.Core.List.{List}
use lib.IntN.{ℤ}
use lib.ListN.{length, get_or}
use contract.Lifetimes as L
use borrow.Fn.Kinds as K
use Rattle.years.specs.declared.Year.{Year}
use Rattle.years.specs.Years.{left_under}
use Rattle.years.proofs.YearLaws.{by_year, left_named, left_none}
use Rattle.column_edit.proofs.StoredBytes.{NoneOf}
use Rattle.edit.specs.Edit.{edited}
use Rattle.edit.proofs.SixBytes.{post_at, checksum_at, same_length, six_bytes}
use Rattle.edit.proofs.edit.Reads as edit
use Rattle.edit.proofs.edit.Kinds as edit-kinds
use Rattle.dted.proofs.cell_calls.dted_edit.Reads as host-edit
use Rattle.dted.proofs.cell_calls.dted_edit.Kinds as host-edit-kinds

-- the bytes after an edit are as many as before, and each that is none of the six is as it was
pub record Touched (l after : List ℕ) (c p : ℕ) : Type 0 where
  pub long : length after ≡ length l
  pub others : (i : ℕ) → NoneOf (post_at l c p) 2 i → NoneOf (checksum_at l c) 4 i → get_or after i 0 ≡ get_or l i 0

-- under whatever year is named; where there is none, nothing is touched
touched : (n : ℕ) (l after : List ℕ) (c p : ℕ) (z : ℤ) → after ≡ left_under n l (λ (year : Year). edited year l c p z) → Touched l after c p
touched n l after c p z left =
    let leaves : Year → List ℕ = λ year. edited year l c p z in
    by_year n
    (λ none. subst (λ (m : List ℕ). Touched l m c p) (sym (left ∙ left_none n l leaves none)) (record { long = refl; others = λ i apart beyond. refl }))
    (λ year names.
    subst (λ (m : List ℕ). Touched l m c p) (sym (left ∙ left_named n l leaves year names))
    (record { long = same_length year l c p z; others = six_bytes year l c p z }))

pub edit_touches : (κs : L.Lfts 1) (a : K.Dens κs edit-kinds.ps) (r : _) (s : _) → edit.Post κs a r s
    → Touched a.1.0.now s.1.0.now a.1.1.0 a.1.1.1.0
edit_touches κs a r s kept = touched a.0 a.1.0.now s.1.0.now a.1.1.0 a.1.1.1.0 a.1.1.1.1.0 kept.1

pub host_edit_touches : (κs : L.Lfts 1) (a : K.Dens κs host-edit-kinds.ps) (r : _) (s : _) → host-edit.Post κs a r s
    → Touched a.1.0.now s.1.0.now a.1.1.0 a.1.1.1.0
host_edit_touches κs a r s kept = touched a.0 a.1.0.now s.1.0.now a.1.1.0 a.1.1.1.0 a.1.1.1.1.0 kept.1
