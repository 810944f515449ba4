-- The items in the order of their numbers: they run from 1 to 13, and a list made along them has at each number what is that item's.
use Prim.Native.Nat.{◌-◌}
use mathlib.Core.Path.{◌≡◌, refl, sym, ◌∙◌}
use mathlib.Core.Bool.{Bool, true}
use mathlib.Core.List.{[], ◌∷◌, map}
use lib.ListN.{get_or}
use Rattle.octets.specs.Tests.{every}
use Rattle.octets.proofs.TestLaws.{each_true}
use Rattle.fields.specs.declared.Whose.TheVariants.{Uhl, AbsoluteHorizontal, AbsoluteVertical, RelativeHorizontal, RelativeVertical}
use Rattle.fields.specs.declared.Item.{Item}
use Rattle.fields.specs.declared.Item.TheVariants.{Level, Latitude, Longitude, Security, Edition, Version, Datum, Accuracy, Partial}
use Rattle.description.specs.ItemTable.{item_number, in_order}

pub numbers_run : map item_number in_order ≡ 1 ∷ 2 ∷ 3 ∷ 4 ∷ 5 ∷ 6 ∷ 7 ∷ 8 ∷ 9 ∷ 10 ∷ 11 ∷ 12 ∷ 13 ∷ []
numbers_run = refl

pub at_number : {A : Type 0} (f : Item → A) (x : A) (i : Item) → get_or (map f in_order) (item_number i - 1) x ≡ f i
at_number f x Level = refl
at_number f x Latitude = refl
at_number f x Longitude = refl
at_number f x Security = refl
at_number f x Edition = refl
at_number f x Version = refl
at_number f x Datum = refl
at_number f x (Accuracy Uhl) = refl
at_number f x (Accuracy AbsoluteHorizontal) = refl
at_number f x (Accuracy AbsoluteVertical) = refl
at_number f x (Accuracy RelativeHorizontal) = refl
at_number f x (Accuracy RelativeVertical) = refl
at_number f x Partial = refl

-- a test holds all along the items where it holds of each
pub all_items : (test : Item → Bool) → ((i : Item) → test i ≡ true) → every (map test in_order) ≡ true
all_items test held = λ k. every (map (λ (i : Item). held i k) in_order)

pub each_item : (test : Item → Bool) → every (map test in_order) ≡ true → (i : Item) → test i ≡ true
each_item test e i = sym (at_number test true i) ∙ each_true (map test in_order) e (item_number i - 1)
