-- The bytes that are due in a field are those that its rule asks for: the rule holds exactly where they stand, or where all but the last
-- stand and the last may be another (H42). So a slip in what is due cannot hide in a rule.
use Prim.Native.Nat.{ℕ, suc, ◌+◌, ◌-◌, ◌%◌, ◌<◌}
use native.Mathlib.Omega.{arith}
use mathlib.Core.Path.{◌≡◌, refl, sym, ap, ◌∙◌}
use mathlib.Core.Bool.{Bool, true, false}
use mathlib.Core.List.{List, ◌++◌}
use lib.Dec.{eqb}
use lib.ListN.{length, get_or}
use borrow.Author.Tests.{eq-eqb, ne_eqb}
use Rattle.octets.specs.Choice.{both, either}
use Rattle.octets.specs.Digits.{digits_of}
use Rattle.octets.specs.Places.{places}
use Rattle.octets.specs.Texts.{ascii, differ, has}
use Rattle.octets.proofs.DigitTexts.{has_digits}
use Rattle.octets.proofs.TextLaws.{has_byte, has_append, text_self}
use Rattle.angles.specs.Angles.{form, northward, eastward}
use Rattle.angles.proofs.AngleTexts.{degrees_small, same_stands, corner_stands}
use Rattle.layout.specs.declared.Grid.{Grid}
use Rattle.fields.specs.declared.Text.{Text}
use Rattle.fields.specs.declared.Text.TheVariants as text
use Rattle.fields.specs.declared.Number.{Number}
use Rattle.fields.specs.declared.Number.TheVariants as number
use Rattle.fields.specs.declared.Angle.{Angle}
use Rattle.fields.specs.declared.Angle.TheVariants as angle
use Rattle.fields.specs.declared.Due.{Due}
use Rattle.fields.specs.declared.Due.TheVariants as due
use Rattle.due.specs.Due.{text_of, number_of, due_angle, due_angle_text, angle_width, due_text, due_width, may_end}
use Rattle.due.specs.Asked.{OriginInRange}
use Rattle.due.specs.declared.Basis.{Basis}
use Rattle.due.proofs.DueWidths.{length_due, as_long}
use Rattle.rules.specs.Rules.{is_text, is_number, is_of_grid, is_series, angle_holds, due_holds}
use Rattle.rules.specs.Asked.{BasisInRange}

-- a text stands, or all of it but the last byte, and another may be the last
abbrev ends_in : List ℕ → List ℕ → Bool → Bool
ends_in t want other = either (has t 0 want) (both (eqb (suc (differ t 0 want)) (length t)) other)

-- with no other one the text stands
plain : (x y : Bool) → x ≡ either x (both y false)
plain true y = λ k. true
plain false true = λ k. false
plain false false = λ k. false

-- the last byte of a field
last_at : (t : List ℕ) (n : ℕ) → length t ≡ suc n → get_or t n 0 ≡ get_or t (length t - 1) 0
last_at t n h = let e : n ≡ length t - 1 = omega arith in ap (λ (i : ℕ). get_or t i 0) e

module _ (b : Basis) (r : OriginInRange b.latitude b.longitude) (t : List ℕ) where
  angle_stands : (a : Angle) → length t ≡ angle_width a
      → angle_holds a b t ≡ ends_in t (due_angle_text (due_angle a b)) (may_end (due.Angle a) b (get_or t (length t - 1) 0))
  unfolding angle_holds
  angle_stands angle.OriginLatitude w =
      same_stands (form 2 (ascii "0000.0")) northward b.latitude t w (omega (arith, degrees_small northward b.latitude (omega (arith, r.latitude))))
  angle_stands angle.OriginLongitude w =
      same_stands (form 3 (ascii "0000.0")) eastward b.longitude t w (omega (arith, degrees_small eastward b.longitude (omega (arith, r.longitude))))
  angle_stands angle.South w =
      corner_stands (form 2 (ascii "0000")) northward b.latitude t w (omega (arith, degrees_small northward b.latitude (omega (arith, r.latitude))))
      ∙ ap (λ (x : ℕ). ends_in t (due_angle_text (due_angle angle.South b)) (may_end (due.Angle angle.South) b x)) (last_at t 6 w)
  angle_stands angle.North w =
      corner_stands (form 2 (ascii "0000")) northward (b.latitude + 1) t w (omega (arith, degrees_small northward (b.latitude + 1) (omega (arith, r.latitude))))
      ∙ ap (λ (x : ℕ). ends_in t (due_angle_text (due_angle angle.North b)) (may_end (due.Angle angle.North) b x)) (last_at t 6 w)
  angle_stands angle.West w =
      corner_stands (form 3 (ascii "0000")) eastward b.longitude t w (omega (arith, degrees_small eastward b.longitude (omega (arith, r.longitude))))
      ∙ ap (λ (x : ℕ). ends_in t (due_angle_text (due_angle angle.West b)) (may_end (due.Angle angle.West) b x)) (last_at t 7 w)
  angle_stands angle.East w =
      corner_stands (form 3 (ascii "0000")) eastward (b.longitude + 1) t w (omega (arith, degrees_small eastward (b.longitude + 1) (omega (arith, r.longitude))))
      ∙ ap (λ (x : ℕ). ends_in t (due_angle_text (due_angle angle.East b)) (may_end (due.Angle angle.East) b x)) (last_at t 7 w)

text_stands : (x : Text) (t : List ℕ) → is_text x t ≡ has t 0 (text_of x)
text_stands text.Uhl1 t = refl
text_stands text.Zero t = refl
text_stands text.Dsi t = refl
text_stands text.Prf89020b t = refl
text_stands text.Wgs84 t = refl
text_stands text.Orientation t = refl
text_stands text.Acc t = refl
text_stands text.ZeroZero t = refl

pub of_grid : (n : Number) (g : Grid) (t : List ℕ) → is_of_grid n g t ≡ is_number (number_of n g) t
of_grid number.LatitudeInterval g t = refl
of_grid number.LongitudeInterval g t = refl
of_grid number.Columns g t = refl
of_grid number.Posts g t = refl

series_stands : (level : ℕ) (t : List ℕ) → level < 3 → is_series level t ≡ has t 0 (ascii "DTED" ++ digits_of 1 level)
unfolding places
series_stands level t h =
    let digit : level % 10 ≡ level = omega arith in
    sym (has_append t 0 (ascii "DTED") (digits_of 1 level) ∙ ap (both (has t 0 (ascii "DTED"))) (has_byte t 4 (0x30 + level % 10) ∙ ap (λ (x : ℕ). eqb (get_or t 4 0) (0x30 + x)) digit))

module _ (b : Basis) (r : BasisInRange b) (t : List ℕ) where
  stands : (k : Due) → length t ≡ due_width k → due_holds k b t ≡ ends_in t (due_text k b) (may_end k b (get_or t (length t - 1) 0))
  unfolding due_holds due_text
  stands (due.Text x) w = text_stands x t ∙ plain (has t 0 (text_of x)) (eqb (suc (differ t 0 (text_of x))) (length t))
  stands (due.Number n) w =
      let v = number_of n b.grid in
      of_grid n b.grid t ∙ sym (has_digits t 0 4 v (r.numbers n) (omega arith)) ∙ plain (has t 0 (digits_of 4 v)) (eqb (suc (differ t 0 (digits_of 4 v))) (length t))
  stands (due.Angle a) w = angle_stands b r.origin t a w
  stands due.Letter w =
      let c = b.letter in
      sym (has_byte t 0 c) ∙ plain (has t 0 (due_text due.Letter b)) (eqb (suc (differ t 0 (due_text due.Letter b))) (length t))
  stands due.Series w =
      series_stands b.grid.level t r.level ∙ plain (has t 0 (due_text due.Series b)) (eqb (suc (differ t 0 (due_text due.Series b))) (length t))

  -- as the judge finds it: by the first byte that differs
  pub due_holds_lem : (k : Due) → length t ≡ due_width k
      → due_holds k b t
      ≡ either (eqb (differ t 0 (due_text k b)) (length t)) (both (eqb (suc (differ t 0 (due_text k b))) (length t)) (may_end k b (get_or t (length t - 1) 0)))
  due_holds_lem k w =
      let n = as_long k b t w in
      stands k w
      ∙ ap (λ (m : ℕ). either (eqb (differ t 0 (due_text k b)) m) (both (eqb (suc (differ t 0 (due_text k b))) (length t)) (may_end k b (get_or t (length t - 1) 0)))) n

  -- what is answered of a field, by where it first differs
  module _ (k : Due) (w : length t ≡ due_width k) (at : ℕ) (e : at ≡ differ t 0 (due_text k b)) where
    pub all_stand : at ≡ length t → true ≡ due_holds k b t
    all_stand h = sym (due_holds_lem k w ∙ rw (eq-eqb (differ t 0 (due_text k b)) (length t) (sym e ∙ h)))

    pub last_differs : (at ≡ length t → ⊥) → at + 1 ≡ length t → may_end k b (get_or t at 0) ≡ due_holds k b t
    last_differs ne h =
        let i : length t - 1 ≡ at = omega arith in
        sym (due_holds_lem k w
        ∙ rw (ne_eqb (differ t 0 (due_text k b)) (length t) (λ q. ne (e ∙ q)), eq-eqb (suc (differ t 0 (due_text k b))) (length t) (omega (arith, e)), i))

    pub early_differs : (at ≡ length t → ⊥) → (at + 1 ≡ length t → ⊥) → false ≡ due_holds k b t
    early_differs ne far =
        sym (due_holds_lem k w
        ∙ rw (ne_eqb (differ t 0 (due_text k b)) (length t) (λ q. ne (e ∙ q)), ne_eqb (suc (differ t 0 (due_text k b))) (length t) (λ q. far (omega (arith, e)))))

-- what is due keeps its rule
pub due_kept : (k : Due) (b : Basis) → BasisInRange b → due_holds k b (due_text k b) ≡ true
due_kept k b r =
    let t = due_text k b in
    stands b r t k (length_due k b)
    ∙ ap (λ (x : Bool). either x (both (eqb (suc (differ t 0 t)) (length t)) (may_end k b (get_or t (length t - 1) 0)))) (text_self t)
