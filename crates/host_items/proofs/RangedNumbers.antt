-- Numbers in range, item by item.
use Rattle.std.specs.Prelude.{None}
use mathlib.Core.Path.{◌≡◌}
use mathlib.Core.Bool.{true}
use mathlib.Core.List.{List}
use lib.IntN.{ℤ}
use Rattle.fields.specs.declared.Item.{Item}
use Rattle.description.proofs.ItemOrder.{each_item}
use Rattle.description.proofs.RangedItems.{first_exactly}
use Rattle.host_items.specs.Items.{item_in, number_test, number_tests, bad_number}

pub ranged_numbers : (zs : List ℤ) → bad_number zs ≡ None → (i : Item) → number_test i (item_in zs i) ≡ true
unfolding number_tests
ranged_numbers zs e = each_item (λ i. number_test i (item_in zs i)) ((first_exactly (number_tests zs)).0.0 e)
