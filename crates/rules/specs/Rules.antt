-- What each field must hold (rules H1 to H40): an item's field by itself, any other by what level, origin and letter make due.
use Rattle.std.specs.Prelude.{ℕ, ◌+◌, Bool, List, get_or, eqb, leb}
use Rattle.octets.specs.Choice.{both, either}
use Rattle.octets.specs.Digits.{digits_at, decimal_at}
use Rattle.octets.specs.Texts.{ascii, has}
use Rattle.angles.specs.Angles.{Form, form, northward, eastward, is_angle, degrees_in, letter_in, is_origin, is_same, is_corner}
use Rattle.angles.specs.declared.Axis.{Axis}
use Rattle.layout.specs.declared.Grid.{Grid}
use Rattle.fields.specs.declared.Text.{Text}
use Rattle.fields.specs.declared.Text.TheVariants as text
use Rattle.fields.specs.declared.Number.{Number}
use Rattle.fields.specs.declared.Number.TheVariants as number
use Rattle.fields.specs.declared.Angle.{Angle}
use Rattle.fields.specs.declared.Angle.TheVariants as angle
use Rattle.fields.specs.declared.Item.{Item}
use Rattle.fields.specs.declared.Item.TheVariants as item
use Rattle.fields.specs.declared.Due.{Due}
use Rattle.fields.specs.declared.Due.TheVariants as due
use Rattle.fields.specs.declared.Kind.{Kind}
use Rattle.fields.specs.declared.Kind.TheVariants as kind
use Rattle.due.specs.Due.{not_available, due_width}
use Rattle.due.specs.declared.Basis.{Basis}

-- H4: the latitude interval of one of the three levels
abbrev pub is_level : List ℕ → Bool
is_level t = either (has t 0 (ascii "0300")) (either (has t 0 (ascii "0030")) (has t 0 (ascii "0010")))

-- H2, H3: DDDMMSSH with MMSS zero, and degrees and letter that an origin may have
abbrev pub origin_form : Form
origin_form = form 3 (ascii "0000")

abbrev pub is_origin_field : Axis → List ℕ → Bool
is_origin_field a t = both (is_angle origin_form t) (is_origin a (degrees_in origin_form t) (letter_in origin_form t))

-- H6, H36 to H39: metres in four digits, or not available
unfoldable pub is_accuracy : List ℕ → Bool
is_accuracy t = either (digits_at t 0 4) (has t 0 not_available)

-- H7: S, C, U or R
abbrev pub is_letter : ℕ → Bool
is_letter b = either (eqb b 0x53) (either (eqb b 0x43) (either (eqb b 0x55) (eqb b 0x52)))

-- H7: such a letter, and two blanks
abbrev pub is_security : List ℕ → Bool
is_security t = both (is_letter (get_or t 0 0)) (has t 1 (ascii "  "))

-- H14: two digits, 01 to 99
abbrev pub is_edition : List ℕ → Bool
is_edition t = both (digits_at t 0 2) (leb 1 (decimal_at t 0 2))

-- H15: A to Z
abbrev pub is_version : ℕ → Bool
is_version b = both (leb 0x41 b) (leb b 0x5A)

-- H17: one of the two vertical datums
abbrev pub is_datum : List ℕ → Bool
is_datum t = either (has t 0 (ascii "MSL")) (has t 0 (ascii "E96"))

-- the field of an item
unfoldable pub item_holds : Item → List ℕ → Bool
item_holds item.Level t = is_level t
item_holds item.Latitude t = is_origin_field northward t
item_holds item.Longitude t = is_origin_field eastward t
item_holds item.Security t = is_security t
item_holds item.Edition t = is_edition t
item_holds item.Version t = is_version (get_or t 0 0)
item_holds item.Datum t = is_datum t
item_holds (item.Accuracy whose) t = is_accuracy t
item_holds item.Partial t = digits_at t 0 2

-- H1, H10, H11, H16, H18, H29, H35, H40: the fixed texts
abbrev pub is_text : Text → List ℕ → Bool
is_text text.Uhl1 t = has t 0 (ascii "UHL1")
is_text text.Zero t = has t 0 (ascii "0")
is_text text.Dsi t = has t 0 (ascii "DSI")
is_text text.Prf89020b t = has t 0 (ascii "PRF89020B")
is_text text.Wgs84 t = has t 0 (ascii "WGS84")
is_text text.Orientation t = has t 0 (ascii "0000000.0")
is_text text.Acc t = has t 0 (ascii "ACC")
is_text text.ZeroZero t = has t 0 (ascii "00")

-- H5, H8, H9, H30 to H33: four digits that write a number, that of the level and zone table
abbrev pub is_number : ℕ → List ℕ → Bool
is_number n t = both (digits_at t 0 4) (eqb (decimal_at t 0 4) n)

abbrev pub is_of_grid : Number → Grid → List ℕ → Bool
is_of_grid number.LatitudeInterval g t = is_number g.interval.latitude t
is_of_grid number.LongitudeInterval g t = is_number g.interval.longitude t
is_of_grid number.Columns g t = is_number g.columns t
is_of_grid number.Posts g t = is_number g.posts t

-- H13: "DTED" and the level's digit
abbrev pub is_series : ℕ → List ℕ → Bool
is_series level t = both (has t 0 (ascii "DTED")) (eqb (get_or t 4 0) (0x30 + level))

-- H19, H20: the origin's degrees and letter once more, the rest zero
abbrev pub is_again : Form → Axis → ℕ → List ℕ → Bool
is_again f a angle t = both (is_angle f t) (is_same a angle (degrees_in f t) (letter_in f t))

-- H21 to H28: an edge of the one-degree cell, with either letter where H42 allows it
abbrev pub is_edge : Form → Axis → ℕ → List ℕ → Bool
is_edge f a angle t = both (is_angle f t) (is_corner a angle (degrees_in f t) (letter_in f t))

-- DDMMSS.SH and DDDMMSS.SH for the origin, DDMMSSH and DDDMMSSH for a corner
unfoldable pub angle_holds : Angle → Basis → List ℕ → Bool
angle_holds angle.OriginLatitude b t = is_again (form 2 (ascii "0000.0")) northward b.latitude t
angle_holds angle.OriginLongitude b t = is_again (form 3 (ascii "0000.0")) eastward b.longitude t
angle_holds angle.South b t = is_edge (form 2 (ascii "0000")) northward b.latitude t
angle_holds angle.North b t = is_edge (form 2 (ascii "0000")) northward (b.latitude + 1) t
angle_holds angle.West b t = is_edge (form 3 (ascii "0000")) eastward b.longitude t
angle_holds angle.East b t = is_edge (form 3 (ascii "0000")) eastward (b.longitude + 1) t

-- a field in which something is due
unfoldable pub due_holds : Due → Basis → List ℕ → Bool
due_holds (due.Text x) b t = is_text x t
due_holds (due.Number n) b t = is_of_grid n b.grid t
due_holds (due.Angle a) b t = angle_holds a b t
due_holds due.Letter b t = eqb (get_or t 0 0) b.letter
due_holds due.Series b t = is_series b.grid.level t

-- a field of each kind
abbrev pub holds : Kind → Basis → List ℕ → Bool
holds (kind.Item i) b t = item_holds i t
holds (kind.Due d) b t = due_holds d b t

-- how many bytes a field of each kind has
abbrev pub item_width : Item → ℕ
item_width item.Level = 4
item_width item.Latitude = 8
item_width item.Longitude = 8
item_width item.Security = 3
item_width item.Edition = 2
item_width item.Version = 1
item_width item.Datum = 3
item_width (item.Accuracy whose) = 4
item_width item.Partial = 2

abbrev pub width_of : Kind → ℕ
width_of (kind.Item i) = item_width i
width_of (kind.Due d) = due_width d
