-- V1 in other words, over any year: none where the cell is complete; where it is partial, at level 2, and at the others in year 1 alone.
use mathlib.Core.Path.{◌≡◌, refl, sym, ap, ◌∙◌}
use mathlib.Core.Bool.{Bool, true, false}
use lib.Dec.{eqb}
use borrow.Author.Tests.{eq-eqb, ne_eqb}
use Rattle.octets.specs.Choice.{both}
use Rattle.octets.proofs.ChoiceLaws.{both_true}
use Rattle.years.specs.declared.Year.{Year}
use Rattle.years.specs.declared.Year.TheVariants.{One, Two}
use Rattle.layout.specs.declared.Frame.{Frame}
use Rattle.headers.specs.Judged.{is_partial, voids_allowed, frame_of}
use Rattle.headers.specs.declared.Facts.{Facts}

both_all : (a : Bool) → both a true ≡ a
both_all true = refl
both_all false = refl

both_none : (a : Bool) → both a false ≡ false
both_none true = refl
both_none false = refl

module _ (f : Facts) where
  -- year 1: wherever the cell is partial
  pub partial_some : (f.partial ≡ 0 → ⊥) → (frame_of One f).voids ≡ true
  partial_some other = rw (ne_eqb f.partial 0 other)

  -- year 2: none at another level than 2
  pub lower_none : (f.grid.level ≡ 2 → ⊥) → (frame_of Two f).voids ≡ false
  lower_none other = ap (both (is_partial f)) (ne_eqb f.grid.level 2 other) ∙ both_none (is_partial f)

  -- under either, none in a complete cell, and at level 2 some in a partial one
  pub complete_none : (year : Year) → f.partial ≡ 0 → (frame_of year f).voids ≡ false
  complete_none One e = rw (eq-eqb f.partial 0 e)
  complete_none Two e = rw (eq-eqb f.partial 0 e)

  at_level_2 : (year : Year) → f.grid.level ≡ 2 → voids_allowed year f ≡ is_partial f
  at_level_2 One level = refl
  at_level_2 Two level = ap (both (is_partial f)) (eq-eqb f.grid.level 2 level) ∙ both_all (is_partial f)

  pub level_2_some : (year : Year) → f.grid.level ≡ 2 → (f.partial ≡ 0 → ⊥) → (frame_of year f).voids ≡ true
  level_2_some year level other = at_level_2 year level ∙ partial_some other

  -- what year 2 allows, year 1 does
  pub allowed_before : voids_allowed Two f ≡ true → voids_allowed One f ≡ true
  allowed_before e = (both_true (is_partial f) (eqb f.grid.level 2) e).0

  -- so under any two years there is one frame at level 2, and of a complete cell
  one_frame : (a b : Year) → voids_allowed a f ≡ voids_allowed b f → frame_of a f ≡ frame_of b f
  one_frame a b e = let framed : Bool → Frame = λ (v : Bool). record { grid = f.grid; voids = v } in ap framed e

  pub level_2_alike : (a b : Year) → f.grid.level ≡ 2 → frame_of a f ≡ frame_of b f
  level_2_alike a b level = one_frame a b (at_level_2 a level ∙ sym (at_level_2 b level))

  pub complete_alike : (a b : Year) → f.partial ≡ 0 → frame_of a f ≡ frame_of b f
  complete_alike a b e = one_frame a b (complete_none a e ∙ sym (complete_none b e))
