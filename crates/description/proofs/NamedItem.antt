-- W2, N9: the item that is named is the lowest that is out of range, by the numbers of the items' table.
use Rattle.std.specs.Prelude.{Some}
use Prim.Native.Nat.{ℕ, zero, suc, ◌-◌, ◌<◌, ◌≤◌}
use native.Mathlib.Omega.{arith}
use mathlib.Core.Path.{◌≡◌, refl, sym, ap, ◌∙◌}
use mathlib.Core.Bool.{Bool, true, false}
use mathlib.Core.List.{map}
use lib.Dec.{leb, ltb, eqb}
use lib.ListN.{get_or}
use borrow.Author.Tests.{leb-true, ltb-true, eqb-true}
use Rattle.octets.proofs.TestLaws.{below, passes}
use Rattle.fields.specs.declared.Item.{Item}
use Rattle.fields.specs.declared.Item.TheVariants.{Level}
use Rattle.description.specs.ItemTable.{item_number, in_order}
use Rattle.description.specs.Items.{item_test, item_tests, first_failed, bad_item}
use Rattle.description.specs.declared.Description.{Description}
use Rattle.description.proofs.ItemOrder.{at_number, each_item}
use Rattle.description.proofs.RangedItems.{Lowest, failed_from, first_lowest, failed_below, first_exactly}

from_1 : (i : Item) → 0 < item_number i
from_1 i = ltb-true 0 (item_number i) (each_item (λ j. ltb 0 (item_number j)) refl i)

to_13 : (i : Item) → item_number i ≤ 13
to_13 i = leb-true (item_number i) 13 (each_item (λ j. leb (item_number j) 13) refl i)

-- the item at an index of their order
abbrev item_at : ℕ → Item
item_at n = get_or in_order n Level

number_at : (n : ℕ) → n < 13 → item_number (item_at n) ≡ suc n
number_at n h =
    let test : ℕ → Bool = λ k. eqb (item_number (item_at k)) (suc k) in
    eqb-true (item_number (item_at n)) (suc n) (passes (test n) (below test 13 tt n h))

-- this item is out of range, and none with a lower number is
abbrev pub LowestBad : (Item → Bool) → Item → Type 0
LowestBad test i = (test i ≡ false) × ((j : Item) → item_number j < item_number i → test j ≡ true)

module _ (test : Item → Bool) where
  bad_is_lowest : (i : Item) → LowestBad test i → Lowest (map test in_order) (item_number i - 1)
  bad_is_lowest i bad = (
    at_number test true i ∙ bad.0,
    λ k h.
        let e : item_number (item_at k) ≡ suc k = number_at k (omega (arith, to_13 i)) in
        let here : k ≡ item_number (item_at k) - 1 = omega arith in
        ap (λ (m : ℕ). get_or (map test in_order) m true) here ∙ at_number test true (item_at k) ∙ bad.1 (item_at k) (omega arith),
  )

  -- an item's number is answered exactly where that item is the lowest bad one
  pub named_exactly : (i : Item)
      → (first_failed 1 (map test in_order) ≡ Some (item_number i) → LowestBad test i) × (LowestBad test i → first_failed 1 (map test in_order) ≡ Some (item_number i))
  named_exactly i = (
    λ e.
        let low = (first_exactly (map test in_order)).1 (item_number i - 1) (e ∙ ap Some (omega (arith, from_1 i))) in (
          sym (at_number test true i) ∙ low.0,
          λ j h. sym (at_number test true j) ∙ low.1 (item_number j - 1) (omega (arith, from_1 j)),
        ),
    λ bad. first_lowest 1 (map test in_order) (item_number i - 1) (bad_is_lowest i bad) ∙ ap Some (omega (arith, from_1 i)),
  )

  -- and what is answered is some item's number
  pub some_item : (n : ℕ) → first_failed 1 (map test in_order) ≡ Some n → (i : Item) × (item_number i ≡ n)
  some_item zero e = absurd (omega (arith, failed_from 1 0 (map test in_order) e))
  some_item (suc n) e = (item_at n, number_at n (failed_below (map test in_order) n ((first_exactly (map test in_order)).1 n e).0))

-- W2: so `bad_item` names the item
pub item_named : (d : Description) (i : Item)
    → (bad_item d ≡ Some (item_number i) → LowestBad (item_test d) i) × (LowestBad (item_test d) i → bad_item d ≡ Some (item_number i))
unfolding item_tests
item_named d = named_exactly (item_test d)
