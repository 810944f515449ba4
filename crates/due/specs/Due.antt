-- What is due in a field, as bytes, once level, origin and security letter are known (rules H1 to H40, W3).
use Rattle.std.specs.Prelude.{ℕ, ◌+◌, Bool, true, false, List, [], ◌∷◌, ◌++◌, length}
use Rattle.octets.specs.Choice.{pick, both}
use Rattle.octets.specs.Digits.{digits_of}
use Rattle.octets.specs.Texts.{ascii}
use Rattle.layout.specs.declared.Grid.{Grid}
use Rattle.angles.specs.Angles.{Form, form, northward, eastward, angle_text, may_carry}
use Rattle.angles.specs.declared.Axis.{Axis}
use Rattle.fields.specs.declared.Text.{Text}
use Rattle.fields.specs.declared.Text.TheVariants as text
use Rattle.fields.specs.declared.Number.{Number}
use Rattle.fields.specs.declared.Number.TheVariants as number
use Rattle.fields.specs.declared.Angle.{Angle}
use Rattle.fields.specs.declared.Angle.TheVariants as angle
use Rattle.fields.specs.declared.Due.{Due}
use Rattle.fields.specs.declared.Due.TheVariants as due
use Rattle.due.specs.declared.Basis.{Basis}
use Rattle.due.specs.declared.due_angles.DueAngle.{DueAngle}

-- where nothing is known: no grid, and the first origin of all, 90 S 180 W
abbrev pub nothing : Basis
nothing = record {
  grid = record {
    level = 0;
    factor = 0;
    interval = record { latitude = 0; longitude = 0 };
    columns = 0;
    posts = 0;
    bytes = record { column = 0; cell = 0 };
  };
  latitude = 0;
  longitude = 0;
  letter = 0;
}

-- the fixed texts
abbrev pub text_of : Text → List ℕ
text_of text.Uhl1 = ascii "UHL1"
text_of text.Zero = ascii "0"
text_of text.Dsi = ascii "DSI"
text_of text.Prf89020b = ascii "PRF89020B"
text_of text.Wgs84 = ascii "WGS84"
text_of text.Orientation = ascii "0000000.0"
text_of text.Acc = ascii "ACC"
text_of text.ZeroZero = ascii "00"

-- an accuracy that is not available: "NA" and two blanks
abbrev pub not_available : List ℕ
not_available = ascii "NA  "

-- the numbers of the level and zone table
abbrev pub number_of : Number → Grid → ℕ
number_of number.LatitudeInterval g = g.interval.latitude
number_of number.LongitudeInterval g = g.interval.longitude
number_of number.Columns g = g.columns
number_of number.Posts g = g.posts

-- the origin once more, as DDMMSS.SH and DDDMMSS.SH, and an edge at a corner, as DDMMSSH and DDDMMSSH
abbrev pub again : Axis → ℕ → ℕ → DueAngle
again axis digits angle = record { axis = axis; angle = angle; digits = digits; corner = false }

abbrev pub corner : Axis → ℕ → ℕ → DueAngle
corner axis digits angle = record { axis = axis; angle = angle; digits = digits; corner = true }

-- which angle is due; an eastern edge at 180 is 180 E, a western one 180 W, and 0 is N and E
abbrev pub due_angle : Angle → Basis → DueAngle
due_angle angle.OriginLatitude b = again northward 2 b.latitude
due_angle angle.OriginLongitude b = again eastward 3 b.longitude
due_angle angle.South b = corner northward 2 b.latitude
due_angle angle.North b = corner northward 2 (b.latitude + 1)
due_angle angle.West b = corner eastward 3 b.longitude
due_angle angle.East b = corner eastward 3 (b.longitude + 1)

-- and its bytes
abbrev pub form_of : DueAngle → Form
form_of b = form b.digits (pick b.corner (ascii "0000") (ascii "0000.0"))

abbrev pub due_angle_text : DueAngle → List ℕ
due_angle_text b = angle_text (form_of b) b.axis b.angle

-- the bytes that are due in a field
unfoldable pub due_text : Due → Basis → List ℕ
due_text (due.Text x) b = text_of x
due_text (due.Number n) b = digits_of 4 (number_of n b.grid)
due_text (due.Angle a) b = due_angle_text (due_angle a b)
due_text due.Letter b = b.letter ∷ []
due_text due.Series b = ascii "DTED" ++ digits_of 1 b.grid.level

-- H42: a byte that may be the last of a field where another is due: a corner's letter may
abbrev pub may_end : Due → Basis → ℕ → Bool
may_end (due.Text x) b last = false
may_end (due.Number n) b last = false
may_end (due.Angle a) b last = both (due_angle a b).corner (may_carry (due_angle a b).axis (due_angle a b).angle last)
may_end due.Letter b last = false
may_end due.Series b last = false

-- how many bytes are due
abbrev pub angle_width : Angle → ℕ
angle_width angle.OriginLatitude = 9
angle_width angle.OriginLongitude = 10
angle_width angle.South = 7
angle_width angle.North = 7
angle_width angle.West = 8
angle_width angle.East = 8

abbrev pub due_width : Due → ℕ
due_width (due.Text x) = length (text_of x)
due_width (due.Number n) = 4
due_width (due.Angle a) = angle_width a
due_width due.Letter = 1
due_width due.Series = 5
