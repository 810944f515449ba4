-- What is due in a field has the field's width.
use Prim.Native.Nat.{ℕ, suc, ◌+◌, ◌≤◌}
use mathlib.Core.Path.{◌≡◌, refl, sym, ap, ◌∙◌}
use mathlib.Core.List.{List}
use lib.Dec.{lit≤}
use lib.ListN.{length}
use Rattle.octets.proofs.DigitLaws.{length_digits}
use Rattle.angles.proofs.AngleTexts.{length_angle}
use Rattle.fields.specs.declared.Text.{Text}
use Rattle.fields.specs.declared.Text.TheVariants as text
use Rattle.fields.specs.declared.Angle.{Angle}
use Rattle.fields.specs.declared.Angle.TheVariants as angle
use Rattle.fields.specs.declared.Due.{Due}
use Rattle.fields.specs.declared.Due.TheVariants as due
use Rattle.due.specs.Due.{text_of, number_of, due_angle, form_of, due_angle_text, angle_width, due_text, due_width}
use Rattle.due.specs.declared.Basis.{Basis}
use Rattle.due.specs.declared.due_angles.DueAngle.{DueAngle}

length_due_angle : (b : DueAngle) → length (due_angle_text b) ≡ suc ((form_of b).digits + length (form_of b).zeros)
length_due_angle b = length_angle (form_of b) b.axis b.angle

length_edge : (a : Angle) (b : Basis) → length (due_angle_text (due_angle a b)) ≡ angle_width a
length_edge angle.OriginLatitude b = length_due_angle (due_angle angle.OriginLatitude b)
length_edge angle.OriginLongitude b = length_due_angle (due_angle angle.OriginLongitude b)
length_edge angle.South b = length_due_angle (due_angle angle.South b)
length_edge angle.North b = length_due_angle (due_angle angle.North b)
length_edge angle.West b = length_due_angle (due_angle angle.West b)
length_edge angle.East b = length_due_angle (due_angle angle.East b)

pub length_due : (k : Due) (b : Basis) → length (due_text k b) ≡ due_width k
unfolding due_text
length_due (due.Text x) b = refl
length_due (due.Number n) b = length_digits 4 (number_of n b.grid)
length_due (due.Angle a) b = length_edge a b
length_due due.Letter b = refl
length_due due.Series b = ap (λ (n : ℕ). suc (suc (suc (suc n)))) (length_digits 1 b.grid.level)

-- so it is as long as a field of that width
pub as_long : (k : Due) (b : Basis) (t : List ℕ) → length t ≡ due_width k → length (due_text k b) ≡ length t
as_long k b t wide = length_due k b ∙ sym wide

-- what an angle's text asks of its field
pub due_angle_wide : (a : Angle) (b : Basis) → angle_width a ≡ suc ((form_of (due_angle a b)).digits + length (form_of (due_angle a b)).zeros)
due_angle_wide angle.OriginLatitude b = refl
due_angle_wide angle.OriginLongitude b = refl
due_angle_wide angle.South b = refl
due_angle_wide angle.North b = refl
due_angle_wide angle.West b = refl
due_angle_wide angle.East b = refl

-- ten bytes hold what is due in any field
text_small : (x : Text) → length (text_of x) ≤ 10
text_small text.Uhl1 = lit≤ tt
text_small text.Zero = lit≤ tt
text_small text.Dsi = lit≤ tt
text_small text.Prf89020b = lit≤ tt
text_small text.Wgs84 = lit≤ tt
text_small text.Orientation = lit≤ tt
text_small text.Acc = lit≤ tt
text_small text.ZeroZero = lit≤ tt

angle_small : (a : Angle) → angle_width a ≤ 10
angle_small angle.OriginLatitude = lit≤ tt
angle_small angle.OriginLongitude = lit≤ tt
angle_small angle.South = lit≤ tt
angle_small angle.North = lit≤ tt
angle_small angle.West = lit≤ tt
angle_small angle.East = lit≤ tt

pub width_small : (k : Due) → due_width k ≤ 10
width_small (due.Text x) = text_small x
width_small (due.Number n) = lit≤ tt
width_small (due.Angle a) = angle_small a
width_small due.Letter = lit≤ tt
width_small due.Series = lit≤ tt
