-- The items of a description as numbers, as a C host gives and gets them (rules W2 and B3): item n of the items' table at index n - 1.
use Rattle.std.specs.Prelude.{ℕ, ◌-◌, Bool, List, map, ℤ, pos, negsuc, neg_ℤ, ◌+ℤ◌, ◌-ℤ◌, get_or, Option}
use Rattle.octets.specs.Choice.{pick}
use Rattle.octets.specs.Ranges.{between}
use Rattle.rules.specs.Rules.{is_letter, is_version}
use Rattle.fields.specs.declared.Whose.TheVariants.{Uhl, AbsoluteHorizontal, AbsoluteVertical, RelativeHorizontal, RelativeVertical}
use Rattle.fields.specs.declared.Item.{Item}
use Rattle.fields.specs.declared.Item.TheVariants as items
use Rattle.description.specs.ItemTable.{item_number, in_order}
use Rattle.description.specs.Items.{first_failed}
use Rattle.description.specs.Items as description
use Rattle.description.specs.declared.Accuracy.{Accuracy}
use Rattle.description.specs.declared.Accuracy.TheVariants.{Metres, Unknown}
use Rattle.description.specs.declared.Datum.{Datum}
use Rattle.description.specs.declared.Datum.TheVariants.{Msl, E96}
use Rattle.description.specs.declared.Description.{Description}

-- W2: the number at an index, and the one given for an item; one that is not there counts as 0
abbrev pub item : List ℤ → ℕ → ℤ
item zs k = get_or zs k (pos 0)

abbrev pub item_in : List ℤ → Item → ℤ
item_in zs i = item zs (item_number i - 1)

-- W2: this number alone
abbrev pub is : ℤ → ℤ → Bool
is a z = between a a z

-- W2: metres, or -1 for not available
abbrev pub is_accuracy : ℤ → Bool
is_accuracy z = between (neg_ℤ (pos 1)) (pos 9999) z

-- W2: an item that counts; what is below 0 counts as 0, and is no letter
abbrev pub counted : ℤ → ℕ
counted (pos n) = n
counted (negsuc n) = 0

-- W2: whether a number given for an item is in the item's range
abbrev pub number_test : Item → ℤ → Bool
number_test items.Level z = between (pos 0) (pos 2) z
number_test items.Latitude z = between (neg_ℤ (pos 90)) (pos 89) z
number_test items.Longitude z = between (neg_ℤ (pos 180)) (pos 179) z
number_test items.Security z = is_letter (counted z)
number_test items.Edition z = between (pos 1) (pos 99) z
number_test items.Version z = is_version (counted z)
number_test items.Datum z = between (pos 0) (pos 1) z
number_test (items.Accuracy of) z = is_accuracy z
number_test items.Partial z = between (pos 0) (pos 99) z

unfoldable pub number_tests : List ℤ → List Bool
number_tests zs = map (λ (i : Item). number_test i (item_in zs i)) in_order

-- W2, N9: the lowest item out of range, or none
abbrev pub bad_number : List ℤ → Option ℕ
bad_number zs = first_failed 1 (number_tests zs)

-- W2: a datum, and an accuracy; what is below 0 is one that is not available
abbrev pub datum_for : ℤ → Datum
datum_for z = pick (is (pos 0) z) Msl E96

abbrev pub accuracy_for : ℤ → Accuracy
accuracy_for (pos n) = Metres n
accuracy_for (negsuc n) = Unknown

-- W2: the description that thirteen numbers say; latitudes are counted from 90 S, longitudes from 180 W
unfoldable pub description_of : List ℤ → Description
description_of zs = record {
  level = counted (item_in zs items.Level);
  latitude = counted (item_in zs items.Latitude +ℤ pos 90);
  longitude = counted (item_in zs items.Longitude +ℤ pos 180);
  security = counted (item_in zs items.Security);
  edition = counted (item_in zs items.Edition);
  version = counted (item_in zs items.Version);
  datum = datum_for (item_in zs items.Datum);
  uhl = accuracy_for (item_in zs (items.Accuracy Uhl));
  absolute = record {
    horizontal = accuracy_for (item_in zs (items.Accuracy AbsoluteHorizontal));
    vertical = accuracy_for (item_in zs (items.Accuracy AbsoluteVertical));
  };
  relative = record {
    horizontal = accuracy_for (item_in zs (items.Accuracy RelativeHorizontal));
    vertical = accuracy_for (item_in zs (items.Accuracy RelativeVertical));
  };
  partial = counted (item_in zs items.Partial);
}

-- W2: and the other way: -1 where an accuracy is not available, 0 for MSL and 1 for E96
abbrev pub datum_number : Datum → ℤ
datum_number Msl = pos 0
datum_number E96 = pos 1

abbrev pub accuracy_number : Accuracy → ℤ
accuracy_number (Metres m) = pos m
accuracy_number Unknown = neg_ℤ (pos 1)

abbrev pub number_for : Description → Item → ℤ
number_for d items.Level = pos d.level
number_for d items.Latitude = pos d.latitude -ℤ pos 90
number_for d items.Longitude = pos d.longitude -ℤ pos 180
number_for d items.Security = pos d.security
number_for d items.Edition = pos d.edition
number_for d items.Version = pos d.version
number_for d items.Datum = datum_number d.datum
number_for d (items.Accuracy of) = accuracy_number (description.accuracy_for of d)
number_for d items.Partial = pos d.partial

unfoldable pub numbers_of : Description → List ℤ
numbers_of d = map (number_for d) in_order
