-- The ranges of a description's items (rule W2): the header table's.
use Rattle.std.specs.Prelude.{ℕ, ◌+◌, Bool, true, List, [], ◌∷◌, map, leb, ltb, Option, Some, None}
use Rattle.octets.specs.Choice.{pick, both}
use Rattle.octets.specs.Tests.{every}
use Rattle.rules.specs.Rules.{is_letter, is_version}
use Rattle.description.specs.declared.Accuracy.{Accuracy}
use Rattle.description.specs.declared.Accuracy.TheVariants.{Metres, Unknown}
use Rattle.description.specs.declared.Description.{Description}
use Rattle.fields.specs.declared.Item.{Item}
use Rattle.fields.specs.declared.Item.TheVariants as item
use Rattle.description.specs.ItemTable.{in_order}
use Rattle.fields.specs.declared.Whose.{Whose}
use Rattle.fields.specs.declared.Whose.TheVariants as whose

abbrev pub accuracy_ranged : Accuracy → Bool
accuracy_ranged (Metres m) = leb m 9999
accuracy_ranged Unknown = true

-- the accuracy that a field holds
abbrev pub accuracy_for : Whose → Description → Accuracy
accuracy_for whose.Uhl d = d.uhl
accuracy_for whose.AbsoluteHorizontal d = d.absolute.horizontal
accuracy_for whose.AbsoluteVertical d = d.absolute.vertical
accuracy_for whose.RelativeHorizontal d = d.relative.horizontal
accuracy_for whose.RelativeVertical d = d.relative.vertical

-- W2: whether an item is in its range; angles are counted from 90 S and 180 W, and either datum is in range
abbrev pub item_test : Description → Item → Bool
item_test d item.Level = ltb d.level 3
item_test d item.Latitude = ltb d.latitude 180
item_test d item.Longitude = ltb d.longitude 360
item_test d item.Security = is_letter d.security
item_test d item.Edition = both (leb 1 d.edition) (leb d.edition 99)
item_test d item.Version = is_version d.version
item_test d item.Datum = true
item_test d (item.Accuracy of) = accuracy_ranged (accuracy_for of d)
item_test d item.Partial = leb d.partial 99

unfoldable pub item_tests : Description → List Bool
item_tests d = map (item_test d) in_order

-- the number of the first test that fails, counted from n, or none
unfoldable pub first_failed : ℕ → List Bool → Option ℕ
first_failed n [] = None
first_failed n (test ∷ tests) = pick test (first_failed (n + 1) tests) (Some n)

-- W2: the lowest item out of range, or none
abbrev pub bad_item : Description → Option ℕ
bad_item d = first_failed 1 (item_tests d)

abbrev pub in_range : Description → Bool
in_range d = every (item_tests d)
