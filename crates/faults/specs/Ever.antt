-- What may stand in a field of one accepted header or another (rules H45 and N21): tests of its bytes alone. That they say just that
-- is proved over the headers that are accepted.
use Rattle.std.specs.Prelude.{ℕ, ◌+◌, Bool, List, get_or, eqb, leb, ltb}
use Rattle.octets.specs.Choice.{pick, both, either}
use Rattle.octets.specs.Tests.{some_below}
use Rattle.octets.specs.Digits.{digits_at, decimal_at}
use Rattle.octets.specs.Texts.{ascii, has}
use Rattle.layout.specs.Grid.{grid_of}
use Rattle.layout.specs.Zones.{last_edge}
use Rattle.angles.specs.Angles.{is_angle, degrees_in, letter_in, is_origin, angle_of, either_letter, is_side}
use Rattle.angles.specs.declared.Axis.{Axis}
use Rattle.fields.specs.declared.Number.{Number}
use Rattle.fields.specs.declared.Angle.{Angle}
use Rattle.due.specs.Due.{nothing, number_of, due_angle, form_of}
use Rattle.due.specs.declared.due_angles.DueAngle.{DueAngle}
use Rattle.rules.specs.Rules.{is_letter}

-- H5, H8, H9, H30 to H33: a number of the level and zone table, in one of the five zones, at one of the three levels
unfoldable pub in_zones : Number → ℕ → ℕ → Bool
in_zones n level v = some_below (λ (zone : ℕ). eqb (number_of n (grid_of level (last_edge zone))) v) 5

unfoldable pub in_table : Number → ℕ → Bool
in_table n v = either (in_zones n 0 v) (either (in_zones n 1 v) (in_zones n 2 v))

abbrev pub is_some_number : Number → List ℕ → Bool
is_some_number n t = both (digits_at t 0 4) (in_table n (decimal_at t 0 4))

-- H21 to H28: an edge of some cell, by its degrees and letter: one to each origin, from the `first` one on; with either letter where
-- H42 allows it
abbrev pub is_some_edge : Axis → ℕ → ℕ → ℕ → Bool
is_some_edge a first degrees letter =
    both (both (leb degrees a.most) (is_side a letter))
    (either (either_letter a degrees)
    (both (leb first (angle_of a degrees letter)) (ltb (angle_of a degrees letter) (first + a.most + a.most))))

-- H19 to H28: an origin of some cell, or an edge, by the one that is due at the first origin
abbrev pub is_some_name : DueAngle → ℕ → ℕ → Bool
is_some_name d degrees letter = pick d.corner (is_some_edge d.axis d.angle degrees letter) (is_origin d.axis degrees letter)

unfoldable pub is_some_angle : Angle → List ℕ → Bool
is_some_angle a t =
    both (is_angle (form_of (due_angle a nothing)) t)
    (is_some_name (due_angle a nothing) (degrees_in (form_of (due_angle a nothing)) t) (letter_in (form_of (due_angle a nothing)) t))

-- H12: a letter of H7
abbrev pub is_some_letter : List ℕ → Bool
is_some_letter t = is_letter (get_or t 0 0)

-- H13: "DTED" and the digit of a level
abbrev pub is_some_series : List ℕ → Bool
is_some_series t = both (has t 0 (ascii "DTED")) (both (leb 0x30 (get_or t 4 0)) (leb (get_or t 4 0) 0x32))
