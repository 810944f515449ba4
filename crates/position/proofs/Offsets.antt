-- Q1, Q3: how far a position lies from the cell's corner: on its degree, off it, and on the meridian that ends the axis.
use Rattle.std.specs.Prelude.{Some, None}
use Prim.Native.Nat.{ℕ, suc, ◌+◌, ◌-◌, ◌*◌, ◌%◌, ◌≤◌, ◌<◌}
use native.Mathlib.Nat.{add-mod_left, mod-eq_of_lt}
use native.Mathlib.Omega.{arith}
use mathlib.Core.Path.{◌≡◌, refl, sym, ap, ◌∙◌}
use lib.IntN.{sub_ℕ}
use borrow.Author.Tests.{le-leb, lt-leb, lt-ltb, le-ltb}
use Rattle.octets.proofs.ChoiceLaws.{by_order}
use Rattle.layout.specs.Levels.{degree}
use Rattle.position.specs.Position.{circle, along_axis, from_corner, in_cell}
use Rattle.position.proofs.Positions.{below_on, above_on}

-- a place on an axis is found again from its distance to 0
pub along_back : (half a : ℕ) → a ≤ half + half → along_axis half (sub_ℕ a half) ≡ Some a
along_back half a high =
    by_order half a
    (λ h. rw (le-ltb a half h) (sym (above_on half _ (a - half) refl (omega arith)) ∙ ap Some (omega arith)))
    (λ h. rw (lt-ltb a half h) (sym (below_on half _ (half - suc a) refl (omega arith)) ∙ ap Some (omega arith)))

module _ (degrees t : ℕ) (some : degrees < 360) where
  -- the corner lies before the place
  pub past_corner : degrees * degree ≤ t → t - degrees * degree < circle → from_corner degrees t ≡ t - degrees * degree
  past_corner low high =
      let round : t + (circle - degrees * degree) ≡ circle + (t - degrees * degree) = omega arith in
      ap (λ (m : ℕ). m % circle) round ∙ add-mod_left circle (t - degrees * degree) ∙ mod-eq_of_lt high

  before_corner : t < degrees * degree → from_corner degrees t ≡ t + (circle - degrees * degree)
  before_corner low = mod-eq_of_lt (omega arith)

  -- Q1: within the cell's degree, edges included
  pub within_degree : degrees * degree ≤ t → t ≤ degrees * degree + degree → in_cell degrees (Some t) ≡ Some (t - degrees * degree)
  within_degree low high =
      let e = past_corner low (omega arith) in
      rw (e, le-leb (t - degrees * degree) degree (omega arith))

  -- Q1, Q3: and nowhere else, but for the one meridian
  pub south_or_west : t < degrees * degree → (degrees ≡ 359 → t ≡ 0 → ⊥) → in_cell degrees (Some t) ≡ None
  south_or_west low other =
      let far : degree < t + (circle - degrees * degree) =
      by_order 1 t (λ h. omega arith) (λ h. by_order 359 degrees (λ u. absurd (other (omega arith) (omega arith))) (λ u. omega arith))
      in
      rw (before_corner low, lt-leb (t + (circle - degrees * degree)) degree far)

  pub north_or_east : t ≤ circle → degrees * degree + degree < t → (degrees ≡ 0 → t ≡ circle → ⊥) → in_cell degrees (Some t) ≡ None
  north_or_east high low other =
      let round : t - degrees * degree < circle =
      by_order circle (t - degrees * degree) (λ u. absurd (other (omega arith) (omega arith))) (λ u. u)
      in
      rw (past_corner (omega arith) round, lt-leb (t - degrees * degree) degree (omega arith))

-- Q3: 180 W is the eastern edge of the cell at 179 E, and 180 E the western edge of the cell at 180 W
pub east_edge : in_cell 359 (Some 0) ≡ Some degree
east_edge = refl

pub west_edge : in_cell 0 (Some circle) ≡ Some 0
west_edge = refl
