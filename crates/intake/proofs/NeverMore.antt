-- Intake of a whole file never asks for more: that is what a step alone tells.
use Prim.Native.Nat.{ℕ}
use native.Mathlib.Omega.{arith}
use mathlib.Core.Path.{◌≡◌, sym, ◌∙◌}
use mathlib.Core.List.{List}
use Rattle.answers.specs.Told.{Told, refused, more, accepted, numbered, number_told, place_told}
use Rattle.answers.specs.declared.Refusal.{Refusal}
use Rattle.answers.proofs.Injective.{refusal_told}
use Rattle.years.specs.declared.Year.{Year}
use Rattle.intake.specs.Intake.{taken}
use Rattle.intake.proofs.IntakeExactly.{IntakeRow, bad_headers, cut, column, surplus, fine, row}

-- neither a refusal nor an acceptance does
pub refused_not_more : (n at : ℕ) → refused n at ≡ more → ⊥
refused_not_more n at e = let z : ◌≡◌ {A = ℕ} 0 1 = cc in omega arith

pub accepted_not_more : (level columns posts : ℕ) → accepted level columns posts ≡ more → ⊥
accepted_not_more level columns posts e = let z : ◌≡◌ {A = ℕ} 0 1 = cc in omega arith

pub numbered_not_more : (r : Refusal) → numbered r ≡ more → ⊥
numbered_not_more r e = refused_not_more (number_told (numbered r)) (place_told (numbered r)) (sym (refusal_told r) ∙ e)

-- and every row is one of the two
by_row : (year : Year) (s : List ℕ) (t : Told) → IntakeRow year s t → t ≡ more → ⊥
by_row year s _ (bad_headers r e) = numbered_not_more r
by_row year s _ (cut h k u f short) = refused_not_more _ _
by_row year s _ (column h k u f whole r e) = numbered_not_more r
by_row year s _ (surplus h f past) = refused_not_more _ _
by_row year s _ (fine cell) = accepted_not_more _ _ _

pub never_more : (year : Year) (s : List ℕ) → taken year s ≡ more → ⊥
never_more year s = by_row year s (taken year s) (row year s)
