-- Headers that are written from a description in range are bytes.
use Prim.Native.Nat.{ℕ, ◌<◌}
use native.Mathlib.Omega.{arith}
use mathlib.Core.Path.{◌≡◌, refl}
use mathlib.Core.Bool.{true}
use mathlib.Core.List.{List, [], ◌∷◌}
use lib.Dec.{eqb, leb, lit<}
use lib.ListN.{replicate}
use borrow.Author.Tests.{leb-true, eqb-true}
use Rattle.octets.specs.Choice.{either}
use Rattle.octets.specs.Numbers.{Bytes}
use Rattle.octets.specs.Pastes.{pasted}
use Rattle.octets.specs.Texts.{ascii}
use Rattle.octets.proofs.ByteLaws.{listed_bytes, one_byte, repeated_bytes, digits_bytes}
use Rattle.octets.proofs.ChoiceLaws.{both_true, either_case}
use Rattle.octets.proofs.FrontLaws.{bytes_join}
use Rattle.octets.proofs.PasteLaws.{paste_bytes}
use Rattle.layout.specs.Grid.{header_bytes}
use Rattle.fields.specs.Table.{fields}
use Rattle.fields.specs.Free.{areas, date_at}
use Rattle.fields.specs.declared.Field.{Field}
use Rattle.fields.specs.declared.free.Area.{Area}
use Rattle.fields.specs.declared.Item.{Item}
use Rattle.fields.specs.declared.Item.TheVariants as item
use Rattle.fields.specs.declared.Kind.{Kind}
use Rattle.fields.specs.declared.Kind.TheVariants as kind
use Rattle.due.specs.Due.{not_available}
use Rattle.due.proofs.DueBytes.{north_bytes, east_bytes, due_bytes}
use Rattle.rules.specs.Rules.{is_letter, is_version}
use Rattle.description.specs.Items.{accuracy_for, in_range}
use Rattle.description.specs.Facts.{basis_of}
use Rattle.description.specs.declared.Accuracy.{Accuracy}
use Rattle.description.specs.declared.Accuracy.TheVariants.{Metres, Unknown}
use Rattle.description.specs.declared.Datum.{Datum}
use Rattle.description.specs.declared.Datum.TheVariants.{Msl, E96}
use Rattle.description.specs.declared.Description.{Description}
use Rattle.description.proofs.RangedItems.{RangedItems, ranged_items}
use Rattle.header_writer.specs.Written.{accuracy_text, datum_text, item_text, text_for, with_fields, with_areas, free_bytes, headers_for}

-- security letters and versions
pub letter_byte : (c : ℕ) → is_letter c ≡ true → c < 256
letter_byte c e =
    either_case (eqb c 0x53) (either (eqb c 0x43) (either (eqb c 0x55) (eqb c 0x52))) e
    (λ q. omega (arith, eqb-true c 0x53 q))
    (λ r.
    either_case (eqb c 0x43) (either (eqb c 0x55) (eqb c 0x52)) r
    (λ q. omega (arith, eqb-true c 0x43 q))
    (λ u.
    either_case (eqb c 0x55) (eqb c 0x52) u
    (λ q. omega (arith, eqb-true c 0x55 q))
    (λ q. omega (arith, eqb-true c 0x52 q))))

version_byte : (c : ℕ) → is_version c ≡ true → c < 256
version_byte c e = omega (arith, leb-true c 0x5A (both_true (leb 0x41 c) (leb c 0x5A) e).1)

accuracy_bytes : (a : Accuracy) → Bytes (accuracy_text a)
accuracy_bytes (Metres m) = digits_bytes 4 m
accuracy_bytes Unknown = listed_bytes not_available refl

datum_bytes : (v : Datum) → Bytes (datum_text v)
datum_bytes Msl = listed_bytes (ascii "MSL") refl
datum_bytes E96 = listed_bytes (ascii "E96") refl

module _ (d : Description) (r : RangedItems d) where
  item_bytes : (i : Item) → Bytes (item_text i d)
  unfolding item_text
  item_bytes item.Level = digits_bytes 4 (basis_of d).grid.interval.latitude
  item_bytes item.Latitude = north_bytes 3 (ascii "0000") (listed_bytes (ascii "0000") refl) d.latitude
  item_bytes item.Longitude = east_bytes 3 (ascii "0000") (listed_bytes (ascii "0000") refl) d.longitude
  item_bytes item.Security =
      bytes_join (d.security ∷ []) (ascii "  ") (one_byte d.security (letter_byte d.security r.security)) (listed_bytes (ascii "  ") refl)
  item_bytes item.Edition = digits_bytes 2 d.edition
  item_bytes item.Version = one_byte d.version (version_byte d.version r.version)
  item_bytes item.Datum = datum_bytes d.datum
  item_bytes (item.Accuracy whose) = accuracy_bytes (accuracy_for whose d)
  item_bytes item.Partial = digits_bytes 2 d.partial

  text_bytes : (k : Kind) → Bytes (text_for k d)
  unfolding basis_of
  text_bytes (kind.Item i) = item_bytes i
  text_bytes (kind.Due k) = due_bytes k (basis_of d) (letter_byte d.security r.security)

  fields_bytes : (s : List ℕ) (fs : List Field) → Bytes s → Bytes (with_fields s d fs)
  unfolding with_fields
  fields_bytes s [] h = h
  fields_bytes s (f ∷ fs) h = fields_bytes (pasted s f.0 (text_for f.2 d)) fs (paste_bytes s f.0 (text_for f.2 d) h (text_bytes f.2))

areas_bytes : (s : List ℕ) (xs : List Area) → Bytes s → Bytes (with_areas s xs)
unfolding with_areas
areas_bytes s [] h = h
areas_bytes s (a ∷ rest) h =
    let zeros : List ℕ = replicate a.1 0x30 in
    areas_bytes (pasted s a.0 zeros) rest (paste_bytes s a.0 zeros h (repeated_bytes a.1 0x30 (lit< tt)))

free_are_bytes : Bytes free_bytes
unfolding free_bytes
free_are_bytes =
    let blanks : List ℕ = replicate header_bytes 0x20 in
    paste_bytes (with_areas blanks areas) date_at (ascii "0005") (areas_bytes blanks areas (repeated_bytes header_bytes 0x20 (lit< tt))) (listed_bytes (ascii "0005") refl)

pub headers_bytes : (d : Description) → in_range d ≡ true → Bytes (headers_for d)
unfolding headers_for
headers_bytes d e = fields_bytes d (ranged_items d e) free_bytes fields free_are_bytes
