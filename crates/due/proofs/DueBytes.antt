-- What is due in a field is bytes.
use Prim.Native.Nat.{ℕ, ◌+◌, ◌<◌}
use mathlib.Core.Path.{refl}
use mathlib.Core.List.{List}
use lib.Dec.{lit<}
use Rattle.octets.specs.Digits.{digits_of}
use Rattle.octets.specs.Numbers.{Bytes}
use Rattle.octets.specs.Texts.{ascii}
use Rattle.octets.proofs.ByteLaws.{listed_bytes, one_byte, digits_bytes}
use Rattle.octets.proofs.FrontLaws.{bytes_join}
use Rattle.angles.specs.Angles.{form, northward, eastward, angle_text}
use Rattle.angles.proofs.AngleTexts.{angle_bytes}
use Rattle.fields.specs.declared.Text.{Text}
use Rattle.fields.specs.declared.Text.TheVariants as text
use Rattle.fields.specs.declared.Angle.{Angle}
use Rattle.fields.specs.declared.Angle.TheVariants as angle
use Rattle.fields.specs.declared.Due.{Due}
use Rattle.fields.specs.declared.Due.TheVariants as due
use Rattle.due.specs.Due.{text_of, number_of, due_angle, due_angle_text, due_text}
use Rattle.due.specs.declared.Basis.{Basis}

text_bytes : (x : Text) → Bytes (text_of x)
text_bytes text.Uhl1 = listed_bytes (ascii "UHL1") refl
text_bytes text.Zero = listed_bytes (ascii "0") refl
text_bytes text.Dsi = listed_bytes (ascii "DSI") refl
text_bytes text.Prf89020b = listed_bytes (ascii "PRF89020B") refl
text_bytes text.Wgs84 = listed_bytes (ascii "WGS84") refl
text_bytes text.Orientation = listed_bytes (ascii "0000000.0") refl
text_bytes text.Acc = listed_bytes (ascii "ACC") refl
text_bytes text.ZeroZero = listed_bytes (ascii "00") refl

-- degrees and the zeros after them, to the north and to the east
pub north_bytes : (digits : ℕ) (zeros : List ℕ) → Bytes zeros → (at : ℕ) → Bytes (angle_text (form digits zeros) northward at)
north_bytes digits zeros z at = angle_bytes (form digits zeros) northward at z (lit< tt) (lit< tt)

pub east_bytes : (digits : ℕ) (zeros : List ℕ) → Bytes zeros → (at : ℕ) → Bytes (angle_text (form digits zeros) eastward at)
east_bytes digits zeros z at = angle_bytes (form digits zeros) eastward at z (lit< tt) (lit< tt)

abbrev tenths : List ℕ
tenths = ascii "0000.0"

abbrev whole : List ℕ
whole = ascii "0000"

edge_bytes : (a : Angle) (b : Basis) → Bytes (due_angle_text (due_angle a b))
edge_bytes angle.OriginLatitude b = north_bytes 2 tenths (listed_bytes tenths refl) b.latitude
edge_bytes angle.OriginLongitude b = east_bytes 3 tenths (listed_bytes tenths refl) b.longitude
edge_bytes angle.South b = north_bytes 2 whole (listed_bytes whole refl) b.latitude
edge_bytes angle.North b = north_bytes 2 whole (listed_bytes whole refl) (b.latitude + 1)
edge_bytes angle.West b = east_bytes 3 whole (listed_bytes whole refl) b.longitude
edge_bytes angle.East b = east_bytes 3 whole (listed_bytes whole refl) (b.longitude + 1)

pub due_bytes : (k : Due) (b : Basis) → b.letter < 256 → Bytes (due_text k b)
unfolding due_text
due_bytes (due.Text x) b h = text_bytes x
due_bytes (due.Number n) b h = digits_bytes 4 (number_of n b.grid)
due_bytes (due.Angle a) b h = edge_bytes a b
due_bytes due.Letter b h = one_byte b.letter h
due_bytes due.Series b h = bytes_join (ascii "DTED") (digits_of 1 b.grid.level) (listed_bytes (ascii "DTED") refl) (digits_bytes 1 b.grid.level)
