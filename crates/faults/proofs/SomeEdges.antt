-- Degrees and a letter name an edge of some cell exactly where the edge of some origin may be named so.
use Prim.Native.Nat.{ℕ, ◌+◌, ◌-◌, ◌<◌, ◌≤◌}
use native.Mathlib.Omega.{arith}
use mathlib.Core.Path.{◌≡◌, refl, sym, ap, ◌∙◌}
use mathlib.Core.Bool.{Bool, true, false}
use lib.Dec.{eqb, leb, ltb}
use borrow.Author.Tests.{lt-ltb, le-leb, lt-leb, leb-true, ltb-true, eq-eqb, eqb-true}
use Rattle.octets.specs.Choice.{both, either}
use Rattle.octets.proofs.ChoiceLaws.{both_true, both_is, either_first, either_second, either_case, by_test, by_equal, clash}
use Rattle.angles.specs.Angles.{angle_of, degrees_of, letter_of, either_letter, is_side, is_corner}
use Rattle.angles.specs.declared.Axis.{Axis}
use Rattle.angles.proofs.AngleTexts.{degrees_small, angle_back}
use Rattle.faults.specs.Ever.{is_some_edge}

-- an origin whose edge, `first` degrees further, may be named so
pub record EdgeOf (a : Axis) (first degrees letter : ℕ) : Type 0 where
  pub origin : ℕ
  pub below : origin < a.most + a.most
  pub corner : is_corner a (origin + first) degrees letter ≡ true

module _ (a : Axis) (apart : a.minus ≡ a.plus → ⊥) (some : 1 ≤ a.most) (first degrees letter : ℕ) (one : first ≤ 1) where
  -- the angle that is named
  abbrev said : ℕ
  said = angle_of a degrees letter

  abbrev inside : Bool
  inside = both (leb first said) (ltb said (first + a.most + a.most))

  -- the letter of an angle is one of the axis's
  side_of : (angle : ℕ) → is_side a (letter_of a angle) ≡ true
  side_of angle =
      by_test (leb a.most angle)
      (λ e. rw e (either_first (eqb a.plus a.plus) (eqb a.plus a.minus) (eq-eqb a.plus a.plus refl)))
      (λ e. rw e (either_second (eqb a.minus a.plus) (eqb a.minus a.minus) (eq-eqb a.minus a.minus refl)))

  -- an edge of an origin is one of some cell
  pub edge_some : (origin : ℕ) → origin < a.most + a.most → is_corner a (origin + first) degrees letter ≡ true → is_some_edge a first degrees letter ≡ true
  edge_some origin h e =
      let angle = origin + first in
      let p = both_true (eqb degrees (degrees_of a angle)) (either (eqb letter (letter_of a angle)) (both (either_letter a degrees) (is_side a letter))) e in
      let same = eqb-true degrees (degrees_of a angle) p.0 in
      let few = le-leb degrees a.most (omega (arith, same, degrees_small a angle (omega arith))) in
      either_case (eqb letter (letter_of a angle)) (both (either_letter a degrees) (is_side a letter)) p.1
      (λ q.
      let own = eqb-true letter (letter_of a angle) q in
      let back : said ≡ angle = rw (same, own) (angle_back a angle apart) in
      both_is (both (leb degrees a.most) (is_side a letter)) (either (either_letter a degrees) inside)
      (both_is (leb degrees a.most) (is_side a letter) few (ap (is_side a) own ∙ side_of angle))
      (either_second (either_letter a degrees) inside
      (both_is (leb first said) (ltb said (first + a.most + a.most)) (le-leb first said (omega arith)) (lt-ltb said (first + a.most + a.most) (omega arith)))))
      (λ q.
      let free = both_true (either_letter a degrees) (is_side a letter) q in
      both_is (both (leb degrees a.most) (is_side a letter)) (either (either_letter a degrees) inside)
      (both_is (leb degrees a.most) (is_side a letter) few free.1)
      (either_first (either_letter a degrees) inside free.0))

  -- the corner at an angle of these degrees, with its own letter or, where either may stand, any of the two
  own_corner : (angle : ℕ) → degrees_of a angle ≡ degrees → letter_of a angle ≡ letter → is_corner a angle degrees letter ≡ true
  own_corner angle d l =
      both_is (eqb degrees (degrees_of a angle)) (either (eqb letter (letter_of a angle)) (both (either_letter a degrees) (is_side a letter)))
      (eq-eqb degrees (degrees_of a angle) (sym d))
      (either_first (eqb letter (letter_of a angle)) (both (either_letter a degrees) (is_side a letter)) (eq-eqb letter (letter_of a angle) (sym l)))

  free_corner : (angle : ℕ) → degrees_of a angle ≡ degrees → either_letter a degrees ≡ true → is_side a letter ≡ true → is_corner a angle degrees letter ≡ true
  free_corner angle d f s =
      both_is (eqb degrees (degrees_of a angle)) (either (eqb letter (letter_of a angle)) (both (either_letter a degrees) (is_side a letter)))
      (eq-eqb degrees (degrees_of a angle) (sym d))
      (either_second (eqb letter (letter_of a angle)) (both (either_letter a degrees) (is_side a letter)) (both_is (either_letter a degrees) (is_side a letter) f s))

  -- an edge at an angle
  edge_at : (angle : ℕ) → first ≤ angle → angle < first + a.most + a.most → is_corner a angle degrees letter ≡ true → EdgeOf a first degrees letter
  edge_at angle low high e =
      let back : angle - first + first ≡ angle = omega arith in
      record { origin = angle - first; below = omega arith; corner = ap (λ (x : ℕ). is_corner a x degrees letter) back ∙ e }

  above : (angle : ℕ) → a.most ≤ angle → degrees_of a angle ≡ angle - a.most
  above angle h = rw (le-leb a.most angle h)

  under : (angle : ℕ) → angle < a.most → degrees_of a angle ≡ a.most - angle
  under angle h = rw (lt-leb a.most angle h)

  -- where either letter may stand: at 0, and at the ends of the axis
  free_edge : either_letter a degrees ≡ true → is_side a letter ≡ true → EdgeOf a first degrees letter
  free_edge f s =
      either_case (eqb degrees 0) (both (eqb a.most 180) (eqb degrees 180)) f
      (λ e.
      let zero = eqb-true degrees 0 e in
      edge_at a.most (omega arith) (omega arith) (free_corner a.most (omega (arith, above a.most (omega arith))) f s))
      (λ e.
      let p = both_true (eqb a.most 180) (eqb degrees 180) e in
      let end : degrees ≡ a.most = omega (arith, eqb-true a.most 180 p.0, eqb-true degrees 180 p.1) in
      by_equal first 0
      (λ q. edge_at 0 (omega arith) (omega arith) (free_corner 0 (omega (arith, under 0 (omega arith))) f s))
      (λ q.
      let far = a.most + a.most in
      edge_at far (omega arith) (omega arith) (free_corner far (omega (arith, above far (omega arith))) f s)))

  -- and else the angle that is named is the edge's
  named_edge : either_letter a degrees ≡ false → degrees ≤ a.most → is_side a letter ≡ true → inside ≡ true → EdgeOf a first degrees letter
  named_edge f few s i =
      let p = both_true (leb first said) (ltb said (first + a.most + a.most)) i in
      let low = leb-true first said p.0 in
      let high = ltb-true said (first + a.most + a.most) p.1 in
      by_test (eqb letter a.plus)
      (λ e.
      let at : said ≡ a.most + degrees = rw e in
      let over : a.most ≤ said = omega arith in
      let side : letter_of a said ≡ letter = rw (le-leb a.most said over) (sym (eqb-true letter a.plus e)) in
      edge_at said low high (own_corner said (omega (arith, above said over)) side))
      (λ e.
      let at : said ≡ a.most - degrees = rw e in
      let minus : letter ≡ a.minus = eqb-true letter a.minus (rw e at s) in
      by_equal degrees 0
      (λ q. clash (either_first (eqb degrees 0) (both (eqb a.most 180) (eqb degrees 180)) (eq-eqb degrees 0 q)) f)
      (λ q.
      let below : said < a.most = omega arith in
      let side : letter_of a said ≡ letter = rw (lt-leb a.most said below) (sym minus) in
      edge_at said low high (own_corner said (omega (arith, under said below)) side)))

  pub some_edge : is_some_edge a first degrees letter ≡ true → EdgeOf a first degrees letter
  some_edge e =
      let p = both_true (both (leb degrees a.most) (is_side a letter)) (either (either_letter a degrees) inside) e in
      let q = both_true (leb degrees a.most) (is_side a letter) p.0 in
      by_test (either_letter a degrees)
      (λ f. free_edge f q.1)
      (λ f. named_edge f (leb-true degrees a.most q.0) q.1 (rw f at p.1))
