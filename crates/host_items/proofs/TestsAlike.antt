-- W2, N9: the tests over a description and over its numbers are the same list, so both name the same item.
use Prim.Native.Nat.{ℕ, zero, suc, ◌-◌, ◌*◌, ◌<◌}
use native.Mathlib.Omega.{arith}
use mathlib.Core.Path.{◌≡◌, refl, ap, ◌∙◌}
use mathlib.Core.Bool.{true}
use mathlib.Core.List.{map}
use lib.Dec.{leb, ltb}
use lib.IntN.{pos, neg_ℤ, ◌-ℤ◌}
use borrow.Author.Tests.{lt-ltb, le-ltb, le-leb, lt-leb}
use Rattle.octets.specs.Ranges.{between}
use Rattle.octets.proofs.ChoiceLaws.{by_order}
use Rattle.fields.specs.declared.Item.{Item}
use Rattle.fields.specs.declared.Item.TheVariants as items
use Rattle.description.specs.ItemTable.{in_order}
use Rattle.description.specs.Items.{accuracy_ranged, accuracy_for, item_test, item_tests, first_failed, bad_item}
use Rattle.description.specs.declared.Accuracy.{Accuracy}
use Rattle.description.specs.declared.Accuracy.TheVariants.{Metres, Unknown}
use Rattle.description.specs.declared.Datum.{Datum}
use Rattle.description.specs.declared.Datum.TheVariants.{Msl, E96}
use Rattle.description.specs.declared.Description.{Description}
use Rattle.description.proofs.ItemOrder.{at_number}
use Rattle.host_items.specs.Items.{is_accuracy, number_test, number_tests, bad_number, datum_number, accuracy_number, number_for, numbers_of}

level_alike : (n : ℕ) → between (pos 0) (pos 2) (pos n) ≡ ltb n 3
level_alike n =
    by_order 3 n
    (λ h. rw (le-leb 0 n (omega arith), lt-leb n 2 (omega arith), le-ltb n 3 h))
    (λ h. rw (le-leb 0 n (omega arith), le-leb n 2 (omega arith), lt-ltb n 3 h))

angle_alike : (side a : ℕ) → 0 < side → between (neg_ℤ (pos side)) (pos (side - 1)) (pos a -ℤ pos side) ≡ ltb a (2 * side)
angle_alike zero a h = absurd (omega arith)
angle_alike (suc s) a h =
    by_order (suc s) a
    (λ m.
    by_order (2 * suc s) a
    (λ k. rw (le-ltb a (suc s) m, lt-leb (a - suc s) (suc s - 1) (omega arith), le-ltb a (2 * suc s) k))
    (λ k. rw (le-ltb a (suc s) m, le-leb (a - suc s) (suc s - 1) (omega arith), lt-ltb a (2 * suc s) k)))
    (λ m. rw (lt-ltb a (suc s) m, le-leb (suc s - suc a) s (omega arith), lt-ltb a (2 * suc s) (omega arith)))

datum_alike : (d : Datum) → between (pos 0) (pos 1) (datum_number d) ≡ true
datum_alike Msl = refl
datum_alike E96 = refl

accuracy_alike : (a : Accuracy) → is_accuracy (accuracy_number a) ≡ accuracy_ranged a
accuracy_alike (Metres m) = refl
accuracy_alike Unknown = refl

partial_alike : (n : ℕ) → between (pos 0) (pos 99) (pos n) ≡ leb n 99
partial_alike n = rw (le-leb 0 n (omega arith))

pub test_alike : (d : Description) (i : Item) → number_test i (number_for d i) ≡ item_test d i
test_alike d items.Level = level_alike d.level
test_alike d items.Latitude = angle_alike 90 d.latitude (omega arith)
test_alike d items.Longitude = angle_alike 180 d.longitude (omega arith)
test_alike d items.Security = refl
test_alike d items.Edition = refl
test_alike d items.Version = refl
test_alike d items.Datum = datum_alike d.datum
test_alike d (items.Accuracy of) = accuracy_alike (accuracy_for of d)
test_alike d items.Partial = partial_alike d.partial

pub tests_alike : (d : Description) → number_tests (numbers_of d) ≡ item_tests d
unfolding number_tests numbers_of item_tests
tests_alike d =
    let alike : (i : Item) → _ ≡ item_test d i = λ i. ap (number_test i) (at_number (number_for d) (pos 0) i) ∙ test_alike d i in
    λ k. map (λ (i : Item). alike i k) in_order

pub items_alike : (d : Description) → bad_number (numbers_of d) ≡ bad_item d
items_alike d = ap (first_failed 1) (tests_alike d)
