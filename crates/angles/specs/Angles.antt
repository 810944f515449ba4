-- Whole-degree angles: degrees, zero minutes and seconds, and a letter. An angle is counted from 90 S or from 180 W,
-- `most` degrees before 0: `most` is 90 for a latitude and 180 for a longitude.
use Rattle.std.specs.Prelude.{ℕ, ◌+◌, ◌-◌, Bool, List, [], ◌∷◌, ◌++◌, length, get_or, eqb, leb, ltb}
use Rattle.octets.specs.Choice.{pick, both, either}
use Rattle.octets.specs.Digits.{digits_at, decimal_at, digits_of}
use Rattle.octets.specs.Texts.{has}
use Rattle.angles.specs.declared.Axis.{Axis}

-- how an angle is written: the digits of its degrees, and the zeros after them, MMSS or MMSS.S
pub record Form : Type 0 where
  pub digits : ℕ
  pub zeros : List ℕ

abbrev pub form : ℕ → List ℕ → Form
form digits zeros = record { digits = digits; zeros = zeros }

-- the two axes, with their letters
abbrev pub northward : Axis
northward = record { most = 90; plus = 0x4E; minus = 0x53 }

abbrev pub eastward : Axis
eastward = record { most = 180; plus = 0x45; minus = 0x57 }

-- the degrees and the letter that stand in t, and that nothing but zeros stands between them
abbrev pub degrees_in : Form → List ℕ → ℕ
degrees_in f t = decimal_at t 0 f.digits

abbrev pub letter_in : Form → List ℕ → ℕ
letter_in f t = get_or t (f.digits + length f.zeros) 0

abbrev pub is_angle : Form → List ℕ → Bool
is_angle f t = both (digits_at t 0 f.digits) (has t f.digits f.zeros)

-- H2, H3, H43: an origin: E 000 to 179 or W 001 to 180, N 000 to 089 or S 001 to 090
abbrev pub is_origin : Axis → ℕ → ℕ → Bool
is_origin a degrees letter =
    either (both (eqb letter a.plus) (ltb degrees a.most))
    (both (eqb letter a.minus) (both (leb 1 degrees) (leb degrees a.most)))

-- the angle of an origin, counted from -most
abbrev pub angle_of : Axis → ℕ → ℕ → ℕ
angle_of a degrees letter = pick (eqb letter a.plus) (a.most + degrees) (a.most - degrees)

-- the degrees and the letter of an angle
abbrev pub degrees_of : Axis → ℕ → ℕ
degrees_of a angle = pick (leb a.most angle) (angle - a.most) (a.most - angle)

abbrev pub letter_of : Axis → ℕ → ℕ
letter_of a angle = pick (leb a.most angle) a.plus a.minus

-- the degrees and the letter are this angle's
abbrev pub is_same : Axis → ℕ → ℕ → ℕ → Bool
is_same a angle degrees letter = both (eqb degrees (degrees_of a angle)) (eqb letter (letter_of a angle))

-- H42: at 0 degrees, and at longitude 180, a corner may carry either letter
abbrev pub either_letter : Axis → ℕ → Bool
either_letter a degrees = either (eqb degrees 0) (both (eqb a.most 180) (eqb degrees 180))

-- one of the axis's two letters
abbrev pub is_side : Axis → ℕ → Bool
is_side a letter = either (eqb letter a.plus) (eqb letter a.minus)

abbrev pub is_corner : Axis → ℕ → ℕ → ℕ → Bool
is_corner a angle degrees letter =
    both (eqb degrees (degrees_of a angle))
    (either (eqb letter (letter_of a angle))
    (both (either_letter a degrees) (is_side a letter)))

-- W3: an angle in its form: its degrees, the zeros after them, and its letter
unfoldable pub angle_text : Form → Axis → ℕ → List ℕ
angle_text f a angle = digits_of f.digits (degrees_of a angle) ++ f.zeros ++ (letter_of a angle ∷ [])

-- H42: a letter that may stand at the end of a corner at this angle, whatever its own is
abbrev pub may_carry : Axis → ℕ → ℕ → Bool
may_carry a angle letter = both (either_letter a (degrees_of a angle)) (is_side a letter)
