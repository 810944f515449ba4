-- Which byte of a broken field is named (rule H44).
use Rattle.std.specs.Prelude.{ℕ, Bool, true, false, List}
use Rattle.octets.specs.Choice.{pick, both}
use Rattle.octets.specs.Texts.{differ}
use Rattle.angles.specs.Angles.{degrees_of, either_letter}
use Rattle.fields.specs.declared.Angle.{Angle}
use Rattle.fields.specs.declared.Due.{Due}
use Rattle.fields.specs.declared.Due.TheVariants as due
use Rattle.fields.specs.declared.Kind.{Kind}
use Rattle.fields.specs.declared.Kind.TheVariants as kind
use Rattle.due.specs.Due.{due_angle, due_text}
use Rattle.due.specs.declared.Basis.{Basis}

-- several strings keep the rule of a field: of a corner part two where H42 leaves its letter free, else the one that is due
abbrev pub corner_free : Angle → Basis → Bool
corner_free a b = both (due_angle a b).corner (either_letter (due_angle a b).axis (degrees_of (due_angle a b).axis (due_angle a b).angle))

abbrev pub letter_free : Due → Basis → Bool
letter_free (due.Text x) b = false
letter_free (due.Number n) b = false
letter_free (due.Angle a) b = corner_free a b
letter_free due.Letter b = false
letter_free due.Series b = false

-- and of an item's field always
abbrev pub several : Kind → Basis → Bool
several (kind.Item i) b = true
several (kind.Due d) b = letter_free d b

-- H44: the first byte that differs from what is due, or the field's first byte where several strings would have passed
abbrev pub due_wrong_at : Due → Basis → List ℕ → ℕ
due_wrong_at d b t = pick (letter_free d b) 0 (differ t 0 (due_text d b))

abbrev pub wrong_at : Kind → Basis → List ℕ → ℕ
wrong_at (kind.Item i) b t = 0
wrong_at (kind.Due d) b t = due_wrong_at d b t
