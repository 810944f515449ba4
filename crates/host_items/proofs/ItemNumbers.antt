-- Items as numbers and as a description: in range both ways, and each gives the other back.
use Rattle.std.specs.Prelude.{Some, None}
use Prim.Native.Nat.{ℕ, zero, suc, ◌-◌, ◌<◌}
use native.Mathlib.Omega.{arith}
use mathlib.Core.Path.{◌≡◌, refl, sym, ap, ◌∙◌}
use mathlib.Core.Bool.{true, false≢true}
use mathlib.Core.List.{List}
use lib.Dec.{leb}
use lib.IntN.{ℤ, pos, negsuc, neg_ℤ, ◌+ℤ◌, ◌-ℤ◌}
use borrow.Author.Tests.{leb-true}
use Rattle.octets.specs.Tests.{every}
use Rattle.octets.proofs.ChoiceLaws.{both_true}
use Rattle.rules.specs.Rules.{is_letter, is_version}
use Rattle.fields.specs.declared.Whose.TheVariants as whose
use Rattle.fields.specs.declared.Item.{Item}
use Rattle.fields.specs.declared.Item.TheVariants as item
use Rattle.description.specs.ItemTable.{item_number}
use Rattle.description.specs.Items.{item_test, item_tests, in_range}
use Rattle.description.specs.declared.Accuracy.{Accuracy}
use Rattle.description.specs.declared.Accuracy.TheVariants.{Metres, Unknown}
use Rattle.description.specs.declared.Datum.{Datum}
use Rattle.description.specs.declared.Datum.TheVariants.{Msl, E96}
use Rattle.description.specs.declared.Description.{Description}
use Rattle.description.proofs.ItemOrder.{at_number, all_items}
use Rattle.description.proofs.NamedItem.{LowestBad, named_exactly}
use Rattle.description.proofs.RangedItems.{Lowest, first_exactly}
use Rattle.host_items.specs.Items as items
use Rattle.octets.specs.Ranges.{between}
use Rattle.host_items.specs.Items.{item_in, is_accuracy, number_test, number_tests, bad_number, counted, datum_for, description_of, datum_number, accuracy_number, number_for, numbers_of}
use Rattle.host_items.proofs.NumberRanges.{ranged, angled, letters, versions, passes_counted, difference_back}
use Rattle.host_items.proofs.RangedNumbers.{ranged_numbers}
use Rattle.host_items.proofs.TestsAlike.{test_alike}

-- W2, N9: none is named exactly where every item is in its range, and else the lowest that is not
pub number_exactly : (zs : List ℤ)
    → ((bad_number zs ≡ None → every (number_tests zs) ≡ true) × (every (number_tests zs) ≡ true → bad_number zs ≡ None))
    × ((n : ℕ) → bad_number zs ≡ Some (suc n) → Lowest (number_tests zs) n)
number_exactly zs = first_exactly (number_tests zs)

-- and that is the item of the table: its number is answered exactly where it is out of range and none with a lower number is
pub number_named : (zs : List ℤ) (i : Item)
    → (bad_number zs ≡ Some (item_number i) → LowestBad (λ j. number_test j (item_in zs j)) i)
    × (LowestBad (λ j. number_test j (item_in zs j)) i → bad_number zs ≡ Some (item_number i))
unfolding number_tests
number_named zs = named_exactly (λ i. number_test i (item_in zs i))

-- a description comes back from its numbers
accuracy_again : (a : Accuracy) → items.accuracy_for (accuracy_number a) ≡ a
accuracy_again (Metres m) = refl
accuracy_again Unknown = refl

datum_again : (d : Datum) → datum_for (datum_number d) ≡ d
datum_again Msl = refl
datum_again E96 = refl

pub numbers_back : (d : Description) → description_of (numbers_of d) ≡ d
unfolding description_of numbers_of
numbers_back d =
    rw (
      difference_back d.latitude 90,
      difference_back d.longitude 180,
      datum_again d.datum,
      accuracy_again d.uhl,
      accuracy_again d.absolute.horizontal,
      accuracy_again d.absolute.vertical,
      accuracy_again d.relative.horizontal,
      accuracy_again d.relative.vertical,
    )

-- numbers in range come back from their description
counted_back : (low high : ℕ) (z : ℤ) → between (pos low) (pos high) z ≡ true → pos (counted z) ≡ z
counted_back low high z e = let r = ranged low high z e in rw r.is

angle_back : (side : ℕ) (z : ℤ) → 0 < side → between (neg_ℤ (pos side)) (pos (side - 1)) z ≡ true → pos (counted (z +ℤ pos side)) -ℤ pos side ≡ z
angle_back side z h e = let a = angled side z h e in rw a.up a.back

datum_back : (z : ℤ) → between (pos 0) (pos 1) z ≡ true → datum_number (datum_for z) ≡ z
datum_back (negsuc n) e = absurd (false≢true e)
datum_back (pos zero) e = refl
datum_back (pos (suc zero)) e = refl
datum_back (pos (suc (suc n))) e = absurd (omega (arith, leb-true (suc (suc n)) 1 (both_true (leb 0 (suc (suc n))) (leb (suc (suc n)) 1) e).1))

accuracy_back : (z : ℤ) → is_accuracy z ≡ true → accuracy_number (items.accuracy_for z) ≡ z
accuracy_back (pos n) e = refl
accuracy_back (negsuc n) e = ap negsuc (omega (arith, leb-true n 0 (both_true (leb n 0) true e).0))

number_back : (zs : List ℤ) → bad_number zs ≡ None → (i : Item) → number_for (description_of zs) i ≡ item_in zs i
unfolding description_of
number_back zs e item.Level = counted_back 0 2 (item_in zs item.Level) (ranged_numbers zs e item.Level)
number_back zs e item.Latitude = angle_back 90 (item_in zs item.Latitude) (omega arith) (ranged_numbers zs e item.Latitude)
number_back zs e item.Longitude = angle_back 180 (item_in zs item.Longitude) (omega arith) (ranged_numbers zs e item.Longitude)
number_back zs e item.Security = passes_counted is_letter letters (item_in zs item.Security) (ranged_numbers zs e item.Security)
number_back zs e item.Edition = counted_back 1 99 (item_in zs item.Edition) (ranged_numbers zs e item.Edition)
number_back zs e item.Version = passes_counted is_version versions (item_in zs item.Version) (ranged_numbers zs e item.Version)
number_back zs e item.Datum = datum_back (item_in zs item.Datum) (ranged_numbers zs e item.Datum)
number_back zs e (item.Accuracy whose.Uhl) = accuracy_back _ (ranged_numbers zs e (item.Accuracy whose.Uhl))
number_back zs e (item.Accuracy whose.AbsoluteHorizontal) = accuracy_back _ (ranged_numbers zs e (item.Accuracy whose.AbsoluteHorizontal))
number_back zs e (item.Accuracy whose.AbsoluteVertical) = accuracy_back _ (ranged_numbers zs e (item.Accuracy whose.AbsoluteVertical))
number_back zs e (item.Accuracy whose.RelativeHorizontal) = accuracy_back _ (ranged_numbers zs e (item.Accuracy whose.RelativeHorizontal))
number_back zs e (item.Accuracy whose.RelativeVertical) = accuracy_back _ (ranged_numbers zs e (item.Accuracy whose.RelativeVertical))
number_back zs e item.Partial = counted_back 0 99 (item_in zs item.Partial) (ranged_numbers zs e item.Partial)

pub description_back : (zs : List ℤ) → bad_number zs ≡ None → (i : Item) → item_in (numbers_of (description_of zs)) i ≡ item_in zs i
unfolding numbers_of
description_back zs e i = at_number (number_for (description_of zs)) (pos 0) i ∙ number_back zs e i

-- and say a description in range
pub in_range_lem : (zs : List ℤ) → bad_number zs ≡ None → in_range (description_of zs) ≡ true
unfolding item_tests
in_range_lem zs e =
    all_items (item_test (description_of zs))
    (λ i. sym (test_alike (description_of zs) i) ∙ ap (number_test i) (number_back zs e i) ∙ ranged_numbers zs e i)
