-- What is read of an angle's text: its degrees, its letter, and so the angle; and that its rules hold.
use Prim.Native.Nat.{ℕ, suc, ◌+◌, ◌-◌, ◌^◌, ◌<◌, ◌≤◌}
use native.Mathlib.Omega.{arith}
use mathlib.Core.Path.{◌≡◌, refl, sym, ap, ◌∙◌}
use mathlib.Core.Bool.{Bool, true, false}
use mathlib.Core.List.{List, [], ◌∷◌, ◌++◌, append_assoc}
use lib.Dec.{eqb, leb, ltb}
use lib.ListN.{length, get_or, take, drop, length-append}
use lib.Seq.{take_at, drop_at, take-append_seam, get_or_at}
use borrow.Author.Tests.{lt-ltb, le-leb, lt-leb, leb-true, leb-false, ltb-true, eq-eqb, ne_eqb, eqb-true}
use Rattle.octets.specs.Choice.{pick, both, either}
use Rattle.octets.specs.Texts.{differ, has}
use Rattle.octets.specs.Digits.{digits_at, decimal_at, digits_of}
use Rattle.octets.proofs.ChoiceLaws.{both_true, by_test, clash}
use Rattle.octets.proofs.DigitLaws.{length_digits, decimal_back, digits_are}
use Rattle.octets.specs.Numbers.{Bytes}
use Rattle.octets.proofs.ByteLaws.{one_byte, digits_bytes}
use Rattle.octets.proofs.FrontLaws.{bytes_join}
use Rattle.octets.proofs.TextLaws.{part_has, has_append, ends_either}
use Rattle.octets.proofs.DigitTexts.{has_digits}
use Rattle.angles.specs.Angles.{Form, degrees_in, letter_in, is_angle, is_origin, angle_of, degrees_of, letter_of, is_same, is_corner, may_carry, angle_text}
use Rattle.angles.specs.declared.Axis.{Axis}
use Rattle.octets.proofs.PartLaws.{decimal_part, digits_part}

-- degrees, the zeros after them, and a letter
abbrev pub named : Form → ℕ → ℕ → List ℕ
named f degrees letter = digits_of f.digits degrees ++ f.zeros ++ (letter ∷ [])

module _ (f : Form) (degrees letter : ℕ) where
  pub length_named : length (named f degrees letter) ≡ suc (f.digits + length f.zeros)
  length_named = simp length-append (omega (arith, length_digits f.digits degrees))

  -- the digits in front, the zeros after them, and the letter at the end
  digits_front : take f.digits (drop 0 (named f degrees letter)) ≡ digits_of f.digits degrees
  digits_front = rw append_assoc (take_at (digits_of f.digits degrees) (f.zeros ++ (letter ∷ [])) f.digits (length_digits f.digits degrees))

  zeros_behind : take (length f.zeros) (drop f.digits (named f degrees letter)) ≡ f.zeros
  zeros_behind =
      rw (append_assoc, drop_at (digits_of f.digits degrees) (f.zeros ++ (letter ∷ [])) f.digits (length_digits f.digits degrees))
      (take-append_seam f.zeros (letter ∷ []))

  pub letter_named : letter_in f (named f degrees letter) ≡ letter
  letter_named =
      let ds = digits_of f.digits degrees in
      let n : length (ds ++ f.zeros) ≡ f.digits + length f.zeros = simp (length-append, length_digits f.digits degrees) in
      get_or_at (ds ++ f.zeros) letter [] 0 (f.digits + length f.zeros) n

  pub degrees_named : degrees < 10 ^ f.digits → degrees_in f (named f degrees letter) ≡ degrees
  degrees_named h =
      decimal_part (named f degrees letter) 0 f.digits
      ∙ ap (λ (t : List ℕ). decimal_at t 0 f.digits) digits_front
      ∙ decimal_back f.digits degrees h

  pub named_is : is_angle f (named f degrees letter) ≡ true
  named_is =
      let l = length_named in
      let e : digits_at (named f degrees letter) 0 f.digits ≡ true =
      digits_part (named f degrees letter) 0 f.digits
      ∙ ap (λ (t : List ℕ). digits_at t 0 f.digits) digits_front
      ∙ digits_are f.digits degrees
      in
      rw e (part_has (named f degrees letter) f.digits f.zeros (omega arith) zeros_behind)

-- and so of an angle's text
module _ (f : Form) (a : Axis) (angle : ℕ) where
  pub length_angle : length (angle_text f a angle) ≡ suc (f.digits + length f.zeros)
  unfolding angle_text
  length_angle = length_named f (degrees_of a angle) (letter_of a angle)

  pub letter_back : letter_in f (angle_text f a angle) ≡ letter_of a angle
  unfolding angle_text
  letter_back = letter_named f (degrees_of a angle) (letter_of a angle)

  pub degrees_back : degrees_of a angle < 10 ^ f.digits → degrees_in f (angle_text f a angle) ≡ degrees_of a angle
  unfolding angle_text
  degrees_back = degrees_named f (degrees_of a angle) (letter_of a angle)

  pub angle_is : is_angle f (angle_text f a angle) ≡ true
  unfolding angle_text
  angle_is = named_is f (degrees_of a angle) (letter_of a angle)

  pub angle_bytes : Bytes f.zeros → a.plus < 256 → a.minus < 256 → Bytes (angle_text f a angle)
  unfolding angle_text
  angle_bytes z p m =
      let ds = digits_of f.digits (degrees_of a angle) in
      bytes_join (ds ++ f.zeros) (letter_of a angle ∷ []) (bytes_join ds f.zeros (digits_bytes f.digits (degrees_of a angle)) z)
      (one_byte (letter_of a angle)
      (by_test (leb a.most angle)
      (λ e. rw e p)
      (λ e. rw e m)))

module _ (a : Axis) (angle : ℕ) where
  pub degrees_small : angle ≤ a.most + a.most → degrees_of a angle ≤ a.most
  degrees_small h =
      by_test (leb a.most angle)
      (λ e. rw e (omega arith))
      (λ e. rw e (omega arith))

  -- the degrees and the letter of an angle give it back
  pub angle_back : (a.minus ≡ a.plus → ⊥) → angle_of a (degrees_of a angle) (letter_of a angle) ≡ angle
  angle_back ne =
      by_test (leb a.most angle)
      (λ e. rw (e, eq-eqb a.plus a.plus refl) (omega (arith, leb-true a.most angle e)))
      (λ e. rw (e, ne_eqb a.minus a.plus ne) (omega (arith, leb-false a.most angle e)))

  -- they are an origin's where the angle lies before the end of the axis, and this angle's own
  pub is_origin_lem : (a.minus ≡ a.plus → ⊥) → angle < a.most + a.most → is_origin a (degrees_of a angle) (letter_of a angle) ≡ true
  is_origin_lem ne h =
      by_test (leb a.most angle)
      (λ e. let l = leb-true a.most angle e in rw (e, eq-eqb a.plus a.plus refl, lt-ltb (angle - a.most) a.most (omega arith)))
      (λ e.
      let l = leb-false a.most angle e in
      rw (
        e,
        ne_eqb a.minus a.plus ne,
        eq-eqb a.minus a.minus refl,
        le-leb 1 (a.most - angle) (omega arith),
        le-leb (a.most - angle) a.most (omega arith),
      ))

-- the degrees of an origin, by whether its letter is the one side's or the other's
side : (n most : ℕ) (plus minus : Bool) → (plus ≡ true → minus ≡ false)
    → either (both plus (ltb n most)) (both minus (both (leb 1 n) (leb n most))) ≡ true → pick plus (most + n) (most - n) < most + most
side n most true minus apart t =
    by_test (ltb n most)
    (λ w. omega (arith, ltb-true n most w))
    (λ w. clash (both_true minus (both (leb 1 n) (leb n most)) (rw w at t)).0 (apart refl))
side n most false minus apart t =
    let within = both_true (leb 1 n) (leb n most) (both_true minus (both (leb 1 n) (leb n most)) t).1 in
    omega (arith, leb-true 1 n within.0, leb-true n most within.1)

-- an origin lies within its axis
pub origin_below : (a : Axis) (degrees letter : ℕ) → (a.plus ≡ a.minus → ⊥) → is_origin a degrees letter ≡ true
    → angle_of a degrees letter < a.most + a.most
origin_below a degrees letter apart =
    side degrees a.most (eqb letter a.plus) (eqb letter a.minus)
    (λ t. ne_eqb letter a.minus (λ q. apart (sym (eqb-true letter a.plus t) ∙ q)))

-- and its degrees and letter are those of the angle that they say
pub origin_same : (a : Axis) (degrees letter : ℕ) → is_origin a degrees letter ≡ true → is_same a (angle_of a degrees letter) degrees letter ≡ true
origin_same a degrees letter e =
    by_test (eqb letter a.plus)
    (λ p.
    let over = le-leb a.most (a.most + degrees) (omega arith) in
    let back : a.most + degrees - a.most ≡ degrees = omega arith in
    rw (p, over, back, eq-eqb degrees degrees refl) p)
    (λ p.
    let m = both_true (eqb letter a.minus) (both (leb 1 degrees) (leb degrees a.most)) (rw p at e) in
    let within = both_true (leb 1 degrees) (leb degrees a.most) m.1 in
    let low = leb-true 1 degrees within.0 in
    let high = leb-true degrees a.most within.1 in
    let under = lt-leb a.most (a.most - degrees) (omega arith) in
    let back : a.most - (a.most - degrees) ≡ degrees = omega arith in
    rw (p, under, back, eq-eqb degrees degrees refl) m.0)

-- an angle's rule in the words of its text: the text stands, or all of it but the letter, and another letter may
either_false : (b : Bool) → either b false ≡ b
either_false true = refl
either_false false = refl

sorted : (d e z x : Bool) → both (both (both d e) z) x ≡ both (both d z) (both e x)
sorted true true z x = refl
sorted true false true x = refl
sorted true false false x = refl
sorted false e z x = refl

corner_by : (a : Axis) (angle degrees letter : ℕ)
    → is_corner a angle degrees letter ≡ both (eqb degrees (degrees_of a angle)) (either (eqb letter (letter_of a angle)) (may_carry a angle letter))
corner_by a angle degrees letter =
    by_test (eqb degrees (degrees_of a angle))
    (λ e. rw (eqb-true degrees (degrees_of a angle) e))
    (λ e. rw e)

module _ (f : Form) (a : Axis) (angle : ℕ) (t : List ℕ) (long : length t ≡ suc (f.digits + length f.zeros)) (small : degrees_of a angle < 10 ^ f.digits) where
  abbrev front : List ℕ
  front = digits_of f.digits (degrees_of a angle) ++ f.zeros

  length_front : length front ≡ f.digits + length f.zeros
  length_front = simp (length-append, length_digits f.digits (degrees_of a angle))

  front_stands : has t 0 front ≡ both (both (digits_at t 0 f.digits) (eqb (degrees_in f t) (degrees_of a angle))) (has t f.digits f.zeros)
  front_stands =
      let n : 0 + length (digits_of f.digits (degrees_of a angle)) ≡ f.digits = omega (arith, length_digits f.digits (degrees_of a angle)) in
      has_append t 0 (digits_of f.digits (degrees_of a angle)) f.zeros
      ∙ (λ k. both (has_digits t 0 f.digits (degrees_of a angle) small (omega arith) k) (has t (n k) f.zeros))

  -- with `other` for whether another letter may stand
  angle_ends : (other : Bool)
      → either (has t 0 (angle_text f a angle)) (both (eqb (suc (differ t 0 (angle_text f a angle))) (length t)) other)
      ≡ both (is_angle f t) (both (eqb (degrees_in f t) (degrees_of a angle)) (either (eqb (letter_in f t) (letter_of a angle)) other))
  unfolding angle_text
  angle_ends other =
      let c = letter_of a angle in
      let at : 0 + length front ≡ f.digits + length f.zeros = omega (arith, length_front) in
      let whole : length t ≡ length (front ++ (c ∷ [])) = long ∙ sym (length-append front (c ∷ []) ∙ omega (arith, length_front)) in
      ap (λ (n : ℕ). either (has t 0 (front ++ (c ∷ []))) (both (eqb (suc (differ t 0 (front ++ (c ∷ [])))) n) other)) whole
      ∙ ends_either t 0 front c other
      ∙ (λ k. both (front_stands k) (either (eqb (get_or t (at k) 0) c) other))
      ∙ sorted (digits_at t 0 f.digits) (eqb (degrees_in f t) (degrees_of a angle)) (has t f.digits f.zeros) (either (eqb (letter_in f t) c) other)

  pub same_stands : both (is_angle f t) (is_same a angle (degrees_in f t) (letter_in f t))
      ≡ either (has t 0 (angle_text f a angle)) (both (eqb (suc (differ t 0 (angle_text f a angle))) (length t)) false)
  same_stands =
      sym (angle_ends false
      ∙ ap (λ (b : Bool). both (is_angle f t) (both (eqb (degrees_in f t) (degrees_of a angle)) b)) (either_false (eqb (letter_in f t) (letter_of a angle))))

  pub corner_stands : both (is_angle f t) (is_corner a angle (degrees_in f t) (letter_in f t))
      ≡ either (has t 0 (angle_text f a angle)) (both (eqb (suc (differ t 0 (angle_text f a angle))) (length t)) (may_carry a angle (letter_in f t)))
  corner_stands =
      ap (both (is_angle f t)) (corner_by a angle (degrees_in f t) (letter_in f t))
      ∙ sym (angle_ends (may_carry a angle (letter_in f t)))
