-- The headers that a description is written as (rule W3).
use Rattle.std.specs.Prelude.{ℕ, List, [], ◌∷◌, replicate}
use Rattle.octets.specs.Digits.{digits_of}
use Rattle.octets.specs.Texts.{ascii}
use Rattle.octets.specs.Pastes.{pasted}
use Rattle.layout.specs.Grid.{header_bytes}
use Rattle.angles.specs.Angles.{northward, eastward, angle_text}
use Rattle.fields.specs.Table.{fields}
use Rattle.fields.specs.Free.{areas, date_at}
use Rattle.fields.specs.declared.free.Area.{Area}
use Rattle.fields.specs.declared.Field.{Field}
use Rattle.fields.specs.declared.Item.{Item}
use Rattle.fields.specs.declared.Item.TheVariants as item
use Rattle.fields.specs.declared.Kind.{Kind}
use Rattle.fields.specs.declared.Kind.TheVariants as kind
use Rattle.due.specs.Due.{not_available, due_text}
use Rattle.rules.specs.Rules.{origin_form}
use Rattle.description.specs.Items.{accuracy_for}
use Rattle.description.specs.Facts.{basis_of}
use Rattle.description.specs.declared.Accuracy.{Accuracy}
use Rattle.description.specs.declared.Accuracy.TheVariants.{Metres, Unknown}
use Rattle.description.specs.declared.Datum.{Datum}
use Rattle.description.specs.declared.Datum.TheVariants.{Msl, E96}
use Rattle.description.specs.declared.Description.{Description}

abbrev pub accuracy_text : Accuracy → List ℕ
accuracy_text (Metres m) = digits_of 4 m
accuracy_text Unknown = not_available

abbrev pub datum_text : Datum → List ℕ
datum_text Msl = ascii "MSL"
datum_text E96 = ascii "E96"

-- what is put in the field of an item
unfoldable pub item_text : Item → Description → List ℕ
item_text item.Level d = digits_of 4 (basis_of d).grid.interval.latitude
item_text item.Latitude d = angle_text origin_form northward d.latitude
item_text item.Longitude d = angle_text origin_form eastward d.longitude
item_text item.Security d = d.security ∷ ascii "  "
item_text item.Edition d = digits_of 2 d.edition
item_text item.Version d = d.version ∷ []
item_text item.Datum d = datum_text d.datum
item_text (item.Accuracy whose) d = accuracy_text (accuracy_for whose d)
item_text item.Partial d = digits_of 2 d.partial

-- and in a field of each kind
abbrev pub text_for : Kind → Description → List ℕ
text_for (kind.Item i) d = item_text i d
text_for (kind.Due k) d = due_text k (basis_of d)

-- the fields, put over what stands there
unfoldable pub with_fields : List ℕ → Description → List Field → List ℕ
with_fields s d [] = s
with_fields s d (f ∷ fs) = with_fields (pasted s f.0 (text_for f.2 d)) d fs

-- zeros in areas of the free bytes
unfoldable pub with_areas : List ℕ → List Area → List ℕ
with_areas s [] = s
with_areas s (a ∷ rest) = with_areas (pasted s a.0 (replicate a.1 0x30)) rest

-- W3: what stands in the free bytes: blanks, the areas of zeros, and "0005" for the date of the specification
unfoldable pub free_bytes : List ℕ
free_bytes = pasted (with_areas (replicate header_bytes 0x20) areas) date_at (ascii "0005")

unfoldable pub headers_for : Description → List ℕ
headers_for d = with_fields free_bytes d fields
