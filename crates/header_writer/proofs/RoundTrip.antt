-- Written headers follow every rule, and are read back as the description that they were written for.
use Prim.Native.Nat.{ℕ, ◌^◌, ◌<◌, ◌≤◌}
use native.Mathlib.Omega.{arith}
use mathlib.Core.Path.{◌≡◌, refl, sym, ap, ◌∙◌}
use mathlib.Core.Bool.{Bool, true, false}
use mathlib.Core.List.{List}
use lib.Dec.{lit<}
use lib.ListN.{get_or, take, drop}
use borrow.Author.Tests.{leb-true}
use Rattle.octets.specs.Choice.{pick}
use Rattle.octets.specs.Digits.{digits_at, decimal_at, digits_of}
use Rattle.octets.specs.Texts.{ascii, differ, has}
use Rattle.octets.proofs.DigitLaws.{decimal_back, digits_are}
use Rattle.fields.specs.Table.{bytes_in, field_at, item_row, place_of}
use Rattle.fields.specs.declared.Item.TheVariants as item
use Rattle.due.specs.Due.{not_available}
use Rattle.headers.specs.Judged.{Follows}
use Rattle.description.specs.Described.{accuracy_at, datum_at, items_in}
use Rattle.description.specs.Items.{accuracy_ranged, in_range}
use Rattle.rules.specs.Rules.{holds}
use Rattle.description.specs.Facts.{basis_of}
use Rattle.header_writer.specs.Written.{accuracy_text, datum_text, item_text, headers_for}
use Rattle.description.specs.declared.Accuracy.{Accuracy}
use Rattle.description.specs.declared.Accuracy.TheVariants.{Metres, Unknown}
use Rattle.description.specs.declared.Datum.{Datum}
use Rattle.description.specs.declared.Datum.TheVariants.{Msl, E96}
use Rattle.fields.specs.declared.Whose.TheVariants as whose
use Rattle.description.specs.declared.Description.{Description}
use Rattle.due.specs.declared.Basis.{Basis}
use Rattle.octets.proofs.PartLaws.{byte_part, decimal_part, digits_part, text_part}
use Rattle.header_writer.proofs.WrittenLength.{length_headers, field_written}
use Rattle.description.proofs.RangedItems.{RangedItems, ranged_items}
use Rattle.header_writer.proofs.BasisBack.{level_back, latitude_back, longitude_back, security_back, basis_back}
use Rattle.header_writer.proofs.WrittenHolds.{text_holds}

-- the headers of a description in range follow every rule
pub written_follows : (d : Description) → in_range d ≡ true → Follows (headers_for d)
written_follows d e =
    let l = length_headers d in (
      omega arith,
      λ i h.
          ap (λ (b : Basis). holds (field_at i).2 b (bytes_in (headers_for d) (field_at i))) (basis_back d e)
          ∙ ap (holds (field_at i).2 (basis_of d)) (field_written d i h)
          ∙ text_holds d e (field_at i).2,
    )

-- a number, an accuracy and a datum, read back from the part that holds its text
number_read : (s : List ℕ) (at n v : ℕ) → v < 10 ^ n → take n (drop at s) ≡ digits_of n v → decimal_at s at n ≡ v
number_read s at n v h e = decimal_part s at n ∙ ap (λ (t : List ℕ). decimal_at t 0 n) e ∙ decimal_back n v h

no_digits : digits_at not_available 0 4 ≡ false
unfolding digits_at
no_digits = refl

is_msl : has (ascii "MSL") 0 (ascii "MSL") ≡ true
unfolding differ
is_msl = refl

no_msl : has (ascii "E96") 0 (ascii "MSL") ≡ false
unfolding differ
no_msl = refl

accuracy_read : (s : List ℕ) (at : ℕ) (a : Accuracy) → accuracy_ranged a ≡ true → take 4 (drop at s) ≡ accuracy_text a → accuracy_at s at ≡ a
unfolding accuracy_at
accuracy_read s at (Metres m) r e =
    let small = leb-true m 9999 r in
    let n = number_read s at 4 m (omega arith) e in
    let t : digits_at s at 4 ≡ true = digits_part s at 4 ∙ ap (λ (x : List ℕ). digits_at x 0 4) e ∙ digits_are 4 m in
    ap (λ (b : Bool). pick b (Metres (decimal_at s at 4)) Unknown) t ∙ ap Metres n
accuracy_read s at Unknown r e =
    let t : digits_at s at 4 ≡ false = digits_part s at 4 ∙ ap (λ (x : List ℕ). digits_at x 0 4) e ∙ no_digits in
    ap (λ (b : Bool). pick b (Metres (decimal_at s at 4)) Unknown) t

datum_read : (s : List ℕ) (at : ℕ) (v : Datum) → take 3 (drop at s) ≡ datum_text v → datum_at s at ≡ v
unfolding datum_at
datum_read s at Msl e = ap (λ (b : Bool). pick b Msl E96) (text_part s at (ascii "MSL") ∙ ap (λ (t : List ℕ). has t 0 (ascii "MSL")) e ∙ is_msl)
datum_read s at E96 e = ap (λ (b : Bool). pick b Msl E96) (text_part s at (ascii "MSL") ∙ ap (λ (t : List ℕ). has t 0 (ascii "MSL")) e ∙ no_msl)

-- the five accuracies are read back
record AccuraciesBack (d : Description) : Type 0 where
  uhl : accuracy_at (headers_for d) (place_of (item.Accuracy whose.Uhl)) ≡ d.uhl
  absolute_horizontal : accuracy_at (headers_for d) (place_of (item.Accuracy whose.AbsoluteHorizontal)) ≡ d.absolute.horizontal
  absolute_vertical : accuracy_at (headers_for d) (place_of (item.Accuracy whose.AbsoluteVertical)) ≡ d.absolute.vertical
  relative_horizontal : accuracy_at (headers_for d) (place_of (item.Accuracy whose.RelativeHorizontal)) ≡ d.relative.horizontal
  relative_vertical : accuracy_at (headers_for d) (place_of (item.Accuracy whose.RelativeVertical)) ≡ d.relative.vertical

module _ (d : Description) where
  edition_back : d.edition ≤ 99 → decimal_at (headers_for d) (place_of item.Edition) 2 ≡ d.edition
  unfolding item_text
  edition_back h = number_read (headers_for d) (place_of item.Edition) 2 d.edition (omega arith) (field_written d (item_row item.Edition) (lit< tt))

  version_back : get_or (headers_for d) (place_of item.Version) 0 ≡ d.version
  unfolding item_text
  version_back = sym (byte_part (headers_for d) (place_of item.Version) 1 0 (lit< tt)) ∙ ap (λ (t : List ℕ). get_or t 0 0) (field_written d (item_row item.Version) (lit< tt))

  datum_back : datum_at (headers_for d) (place_of item.Datum) ≡ d.datum
  unfolding item_text
  datum_back = datum_read (headers_for d) (place_of item.Datum) d.datum (field_written d (item_row item.Datum) (lit< tt))

  partial_back : d.partial ≤ 99 → decimal_at (headers_for d) (place_of item.Partial) 2 ≡ d.partial
  unfolding item_text
  partial_back h = number_read (headers_for d) (place_of item.Partial) 2 d.partial (omega arith) (field_written d (item_row item.Partial) (lit< tt))

  accuracies_back : RangedItems d → AccuraciesBack d
  unfolding item_text
  accuracies_back r = record {
    uhl = accuracy_read (headers_for d) (place_of (item.Accuracy whose.Uhl)) d.uhl (r.accuracy whose.Uhl) (field_written d (item_row (item.Accuracy whose.Uhl)) (lit< tt));
    absolute_horizontal = accuracy_read (headers_for d) (place_of (item.Accuracy whose.AbsoluteHorizontal)) d.absolute.horizontal (r.accuracy whose.AbsoluteHorizontal) (field_written d (item_row (item.Accuracy whose.AbsoluteHorizontal)) (lit< tt));
    absolute_vertical = accuracy_read (headers_for d) (place_of (item.Accuracy whose.AbsoluteVertical)) d.absolute.vertical (r.accuracy whose.AbsoluteVertical) (field_written d (item_row (item.Accuracy whose.AbsoluteVertical)) (lit< tt));
    relative_horizontal = accuracy_read (headers_for d) (place_of (item.Accuracy whose.RelativeHorizontal)) d.relative.horizontal (r.accuracy whose.RelativeHorizontal) (field_written d (item_row (item.Accuracy whose.RelativeHorizontal)) (lit< tt));
    relative_vertical = accuracy_read (headers_for d) (place_of (item.Accuracy whose.RelativeVertical)) d.relative.vertical (r.accuracy whose.RelativeVertical) (field_written d (item_row (item.Accuracy whose.RelativeVertical)) (lit< tt));
  }

-- reading them gives the description back
pub written_read : (d : Description) → in_range d ≡ true → items_in (headers_for d) ≡ d
unfolding items_in
written_read d e =
    let r = ranged_items d e in
    let a = accuracies_back d r in
    λ k. record {
      level = level_back d r.level k;
      latitude = latitude_back d r.latitude k;
      longitude = longitude_back d r.longitude k;
      security = security_back d k;
      edition = edition_back d r.edition_high k;
      version = version_back d k;
      datum = datum_back d k;
      uhl = a.uhl k;
      absolute = record { horizontal = a.absolute_horizontal k; vertical = a.absolute_vertical k };
      relative = record { horizontal = a.relative_horizontal k; vertical = a.relative_vertical k };
      partial = partial_back d r.partial k;
    }

-- so no two descriptions in range are written alike
pub written_alike : (d e : Description) → in_range d ≡ true → in_range e ≡ true → headers_for d ≡ headers_for e → d ≡ e
written_alike d e p q same = sym (written_read d p) ∙ ap items_in same ∙ written_read e q
