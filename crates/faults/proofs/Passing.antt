-- Which strings keep a field's rule, given what is due: several or one, as the place of a broken field has it.
use Prim.Native.Nat.{ℕ, suc, ◌+◌, ◌-◌, ◌^◌, ◌<◌}
use native.Mathlib.Omega.{arith}
use mathlib.Core.Path.{◌≡◌, refl, sym, ap, ◌∙◌}
use mathlib.Core.Bool.{Bool, true, false, true≢false}
use mathlib.Core.List.{List, [], ◌∷◌}
use lib.Dec.{eqb}
use lib.ListN.{length, get_or, take}
use borrow.Author.Tests.{eq-eqb, eqb-true, eqb-false}
use Rattle.octets.specs.Choice.{both, either}
use Rattle.octets.specs.Digits.{digits_at}
use Rattle.octets.specs.Places.{value, places}
use Rattle.octets.specs.Texts.{ascii, differ}
use Rattle.octets.proofs.ChoiceLaws.{both_is, either_second, by_test, clash}
use Rattle.octets.proofs.TextLaws.{differ_bound, text_whole, differ_front, differ_there}
use Rattle.angles.specs.Angles.{Form, form, northward, eastward, is_angle, degrees_in, letter_in, degrees_of, letter_of, either_letter, is_side, is_corner}
use Rattle.angles.specs.declared.Axis.{Axis}
use Rattle.angles.proofs.AngleTexts.{named, length_named, letter_named, degrees_named, named_is, degrees_small}
use Rattle.fields.specs.declared.Angle.{Angle}
use Rattle.fields.specs.declared.Angle.TheVariants as angle
use Rattle.fields.specs.declared.Item.{Item}
use Rattle.fields.specs.declared.Item.TheVariants as item
use Rattle.fields.specs.declared.Due.{Due}
use Rattle.fields.specs.declared.Due.TheVariants as due
use Rattle.fields.specs.declared.Kind.{Kind}
use Rattle.fields.specs.declared.Kind.TheVariants as kind
use Rattle.due.specs.Due.{due_angle, due_text, may_end, due_width}
use Rattle.due.specs.Asked.{OriginInRange}
use Rattle.due.specs.declared.Basis.{Basis}
use Rattle.due.proofs.DueWidths.{length_due, as_long}
use Rattle.rules.specs.Rules.{is_accuracy, item_holds, angle_holds, due_holds, holds, width_of}
use Rattle.rules.specs.Asked.{BasisInRange}
use Rattle.rules.proofs.DueHolds.{due_holds_lem, due_kept}
use Rattle.faults.specs.Place.{corner_free, letter_free, several, wrong_at}

-- a string of the field's width that keeps its rule
abbrev pub Passes : Kind → Basis → List ℕ → Type 0
Passes k b u = (length u ≡ width_of k) × (holds k b u ≡ true)

-- two that are not the same
pub record TwoPass (k : Kind) (b : Basis) : Type 0 where
  pub one : List ℕ
  pub two : List ℕ
  pub one_passes : Passes k b one
  pub two_passes : Passes k b two
  pub apart : one ≡ two → ⊥

-- an item's field has several
both_pass : (k : Kind) (b : Basis) (u v : List ℕ) (i : ℕ) → eqb (get_or u i 0) (get_or v i 0) ≡ false → Passes k b u → Passes k b v → TwoPass k b
both_pass k b u v i ne p q = record {
  one = u;
  two = v;
  one_passes = p;
  two_passes = q;
  apart = λ same. eqb-false (get_or u i 0) (get_or v i 0) ne (ap (λ (t : List ℕ). get_or t i 0) same);
}

item_two : (i : Item) (b : Basis) → TwoPass (kind.Item i) b
unfolding item_holds is_accuracy digits_at differ places value
item_two item.Level b = both_pass (kind.Item item.Level) b (ascii "0300") (ascii "0030") 1 refl (refl, refl) (refl, refl)
item_two item.Latitude b = both_pass (kind.Item item.Latitude) b (ascii "0010000N") (ascii "0020000N") 2 refl (refl, refl) (refl, refl)
item_two item.Longitude b = both_pass (kind.Item item.Longitude) b (ascii "0010000E") (ascii "0020000E") 2 refl (refl, refl) (refl, refl)
item_two item.Security b = both_pass (kind.Item item.Security) b (ascii "S  ") (ascii "C  ") 0 refl (refl, refl) (refl, refl)
item_two item.Edition b = both_pass (kind.Item item.Edition) b (ascii "01") (ascii "02") 1 refl (refl, refl) (refl, refl)
item_two item.Version b = both_pass (kind.Item item.Version) b (ascii "A") (ascii "B") 0 refl (refl, refl) (refl, refl)
item_two item.Datum b = both_pass (kind.Item item.Datum) b (ascii "MSL") (ascii "E96") 0 refl (refl, refl) (refl, refl)
item_two (item.Accuracy whose) b = both_pass (kind.Item (item.Accuracy whose)) b (ascii "0000") (ascii "0001") 3 refl (refl, refl) (refl, refl)
item_two item.Partial b = both_pass (kind.Item item.Partial) b (ascii "00") (ascii "01") 1 refl (refl, refl) (refl, refl)

-- and a corner part two, where its letter is free
module _ (k : Kind) (b : Basis) (f : Form) (a : Axis) (at : ℕ) (apart : a.minus ≡ a.plus → ⊥) (small : degrees_of a at < 10 ^ f.digits)
    (wide : suc (f.digits + length f.zeros) ≡ width_of k)
    (rule : (t : List ℕ) → both (is_angle f t) (is_corner a at (degrees_in f t) (letter_in f t)) ≡ holds k b t) (free : either_letter a (degrees_of a at) ≡ true) where
  abbrev with : ℕ → List ℕ
  with letter = named f (degrees_of a at) letter

  with_passes : (letter : ℕ) → is_side a letter ≡ true → Passes k b (with letter)
  with_passes letter side =
      let d = degrees_of a at in
      let corner : is_corner a at d letter ≡ true =
      both_is (eqb d d) (either (eqb letter (letter_of a at)) (both (either_letter a d) (is_side a letter))) (eq-eqb d d refl)
      (either_second (eqb letter (letter_of a at)) (both (either_letter a d) (is_side a letter)) (both_is (either_letter a d) (is_side a letter) free side))
      in (
        length_named f d letter ∙ wide,
        sym (rule (with letter))
            ∙ both_is (is_angle f (with letter)) (is_corner a at (degrees_in f (with letter)) (letter_in f (with letter))) (named_is f d letter)
            ((λ i. is_corner a at (degrees_named f d letter small i) (letter_named f d letter i)) ∙ corner),
      )

  corner_two : TwoPass k b
  corner_two = record {
    one = with a.plus;
    two = with a.minus;
    one_passes = with_passes a.plus (rw (eq-eqb a.plus a.plus refl));
    two_passes = with_passes a.minus (either_second (eqb a.minus a.plus) (eqb a.minus a.minus) (eq-eqb a.minus a.minus refl));
    apart = λ same. apart (sym (letter_named f (degrees_of a at) a.minus) ∙ ap (letter_in f) (sym same) ∙ letter_named f (degrees_of a at) a.plus);
  }

angle_two : (a : Angle) (b : Basis) → OriginInRange b.latitude b.longitude → corner_free a b ≡ true → TwoPass (kind.Due (due.Angle a)) b
unfolding due_holds angle_holds
angle_two angle.OriginLatitude b r e = clash e refl
angle_two angle.OriginLongitude b r e = clash e refl
angle_two angle.South b r e =
    corner_two (kind.Due (due.Angle angle.South)) b (form 2 (ascii "0000")) northward b.latitude (eqb-false 0x53 0x4E refl)
    (omega (arith, degrees_small northward b.latitude (omega (arith, r.latitude)))) refl (λ t. refl) e
angle_two angle.North b r e =
    corner_two (kind.Due (due.Angle angle.North)) b (form 2 (ascii "0000")) northward (b.latitude + 1) (eqb-false 0x53 0x4E refl)
    (omega (arith, degrees_small northward (b.latitude + 1) (omega (arith, r.latitude)))) refl (λ t. refl) e
angle_two angle.West b r e =
    corner_two (kind.Due (due.Angle angle.West)) b (form 3 (ascii "0000")) eastward b.longitude (eqb-false 0x57 0x45 refl)
    (omega (arith, degrees_small eastward b.longitude (omega (arith, r.longitude)))) refl (λ t. refl) e
angle_two angle.East b r e =
    corner_two (kind.Due (due.Angle angle.East)) b (form 3 (ascii "0000")) eastward (b.longitude + 1) (eqb-false 0x57 0x45 refl)
    (omega (arith, degrees_small eastward (b.longitude + 1) (omega (arith, r.longitude)))) refl (λ t. refl) e

due_two : (d : Due) (b : Basis) → OriginInRange b.latitude b.longitude → letter_free d b ≡ true → TwoPass (kind.Due d) b
due_two (due.Text x) b r e = clash e refl
due_two (due.Number n) b r e = clash e refl
due_two (due.Angle a) b r e = angle_two a b r e
due_two due.Letter b r e = clash e refl
due_two due.Series b r e = clash e refl

-- any other field has one: what is due
neither : (x y z : Bool) → both x y ≡ false → both x (both y z) ≡ false
neither true true z e = absurd (true≢false e)
neither true false z e = refl
neither false y z e = refl

no_end : (d : Due) (b : Basis) (last : ℕ) → letter_free d b ≡ false → may_end d b last ≡ false
no_end (due.Text x) b last e = refl
no_end (due.Number n) b last e = refl
no_end (due.Angle a) b last e =
    let found = due_angle a b in
    neither found.corner (either_letter found.axis (degrees_of found.axis found.angle)) (is_side found.axis last) e
no_end due.Letter b last e = refl
no_end due.Series b last e = refl

module _ (d : Due) (b : Basis) (r : BasisInRange b) (free : letter_free d b ≡ false) (t : List ℕ) (wide : length t ≡ due_width d) where
  abbrev at : ℕ
  at = differ t 0 (due_text d b)

  -- the rule holds exactly where no byte differs
  holds_by : due_holds d b t ≡ eqb at (length t)
  holds_by =
      let last = get_or t (length t - 1) 0 in
      due_holds_lem b r t d wide
      ∙ ap (λ (x : Bool). either (eqb at (length t)) (both (eqb (suc at) (length t)) x)) (no_end d b last free)
      ∙ no_other (eqb at (length t)) (eqb (suc at) (length t))
    where
      no_other : (x y : Bool) → either x (both y false) ≡ x
      no_other true y = refl
      no_other false true = refl
      no_other false false = refl

  pub one_passes : due_holds d b t ≡ true → t ≡ due_text d b
  one_passes e = text_whole t (due_text d b) (as_long d b t wide) (eqb-true at (length t) (sym holds_by ∙ e))

  pub differs_inside : due_holds d b t ≡ false → at < length t
  differs_inside e =
      let short : at ≡ length t → ⊥ = eqb-false at (length t) (sym holds_by ∙ e) in
      omega (arith, differ_bound t 0 (due_text d b), as_long d b t wide)

-- two strings of one length that are not the same have a byte
some_byte : (u v : List ℕ) → length u ≡ length v → (u ≡ v → ⊥) → 0 < length u
some_byte [] [] e ne = absurd (ne refl)
some_byte [] (y ∷ v) e ne = absurd (omega arith)
some_byte (x ∷ u) v e ne = omega arith

-- H44 in the scope's words: the byte that is named lies in the field; where one string alone passes, the bytes before it are that string's,
-- and it is not; where two pass, it is the field's first
pub record Placed (k : Kind) (b : Basis) (t : List ℕ) (at : ℕ) : Type 0 where
  pub inside : at < length t
  pub one : (u : List ℕ) → Passes k b u → ((v : List ℕ) → Passes k b v → v ≡ u) → (take at t ≡ take at u) × (get_or t at 0 ≡ get_or u at 0 → ⊥)
  pub two : (u v : List ℕ) → Passes k b u → Passes k b v → (u ≡ v → ⊥) → at ≡ 0

-- where there are two strings, none passes alone
first_named : (k : Kind) (b : Basis) (t : List ℕ) → length t ≡ width_of k → TwoPass k b → Placed k b t 0
first_named k b t wide w = record {
  inside = omega (arith, w.one_passes.0, some_byte w.one w.two (w.one_passes.0 ∙ sym w.two_passes.0) w.apart);
  one = λ u p only. absurd (w.apart (only w.one w.one_passes ∙ sym (only w.two w.two_passes)));
  two = λ u v p q ne. refl;
}

-- where there is one, there are no two
wrong_named : (d : Due) (b : Basis) (t : List ℕ) → BasisInRange b → length t ≡ due_width d → letter_free d b ≡ false → due_holds d b t ≡ false
    → Placed (kind.Due d) b t (differ t 0 (due_text d b))
wrong_named d b t r wide free broken =
    let long = as_long d b t wide in
    let inside = differs_inside d b r free t wide broken in
    let own = due_kept d b r in
    record {
      inside = inside;
      one = λ u p only.
          let is : due_text d b ≡ u = only (due_text d b) (length_due d b, own) in
          let here : 0 + differ t 0 (due_text d b) ≡ differ t 0 (due_text d b) = omega arith in
          rw (← is) (differ_front t 0 (due_text d b) (omega arith), λ q. differ_there t 0 (due_text d b) (omega arith) (ap (λ (i : ℕ). get_or t i 0) here ∙ q));
      two = λ u v p q ne. absurd (ne (one_passes d b r free u p.0 p.1 ∙ sym (one_passes d b r free v q.0 q.1)));
    }

pub placed : (k : Kind) (b : Basis) (t : List ℕ) → BasisInRange b → length t ≡ width_of k → holds k b t ≡ false → Placed k b t (wrong_at k b t)
placed (kind.Item i) b t r wide broken = first_named (kind.Item i) b t wide (item_two i b)
placed (kind.Due d) b t r wide broken =
    by_test (letter_free d b)
    (λ free. rw free (first_named (kind.Due d) b t wide (due_two d b r.origin free)))
    (λ free. rw free (wrong_named d b t r wide free broken))

-- several strings pass where the definition says so, and else no two
pub several_pass : (k : Kind) (b : Basis) → BasisInRange b → several k b ≡ true → TwoPass k b
several_pass (kind.Item i) b r e = item_two i b
several_pass (kind.Due d) b r e = due_two d b r.origin e

pub one_alone : (k : Kind) (b : Basis) → BasisInRange b → several k b ≡ false → (u v : List ℕ) → Passes k b u → Passes k b v → u ≡ v
one_alone (kind.Item i) b r e u v p q = clash refl e
one_alone (kind.Due d) b r e u v p q = one_passes d b r e u p.0 p.1 ∙ sym (one_passes d b r e v q.0 q.1)

-- what is said of a place hangs on which strings pass, and on nothing else of the basis
pub placed_alike : (k : Kind) (b c : Basis) (t : List ℕ) (at : ℕ) → ((u : List ℕ) → holds k b u ≡ holds k c u) → Placed k b t at → Placed k c t at
placed_alike k b c t i same p = record {
  inside = p.inside;
  one = λ u q only. p.one u (q.0, same u ∙ q.1) (λ v h. only v (h.0, sym (same v) ∙ h.1));
  two = λ u v q r ne. p.two u v (q.0, same u ∙ q.1) (r.0, same v ∙ r.1) ne;
}
