-- The row of each item in the table holds that item.
use Prim.Native.Nat.{◌<◌}
use mathlib.Core.Path.{◌≡◌, refl}
use lib.Dec.{lit<}
use Rattle.fields.specs.Table.{field_at, item_row}
use Rattle.fields.specs.declared.Item.{Item}
use Rattle.fields.specs.declared.Item.TheVariants as item
use Rattle.fields.specs.declared.Kind.TheVariants as kind
use Rattle.fields.specs.declared.Whose.TheVariants as whose

pub item_there : (i : Item) → (field_at (item_row i)).2 ≡ kind.Item i
item_there item.Level = refl
item_there item.Latitude = refl
item_there item.Longitude = refl
item_there item.Security = refl
item_there item.Edition = refl
item_there item.Version = refl
item_there item.Datum = refl
item_there (item.Accuracy whose.Uhl) = refl
item_there (item.Accuracy whose.AbsoluteHorizontal) = refl
item_there (item.Accuracy whose.AbsoluteVertical) = refl
item_there (item.Accuracy whose.RelativeHorizontal) = refl
item_there (item.Accuracy whose.RelativeVertical) = refl
item_there item.Partial = refl

pub item_below : (i : Item) → item_row i < 40
item_below item.Level = lit< tt
item_below item.Latitude = lit< tt
item_below item.Longitude = lit< tt
item_below item.Security = lit< tt
item_below item.Edition = lit< tt
item_below item.Version = lit< tt
item_below item.Datum = lit< tt
item_below (item.Accuracy whose.Uhl) = lit< tt
item_below (item.Accuracy whose.AbsoluteHorizontal) = lit< tt
item_below (item.Accuracy whose.AbsoluteVertical) = lit< tt
item_below (item.Accuracy whose.RelativeHorizontal) = lit< tt
item_below (item.Accuracy whose.RelativeVertical) = lit< tt
item_below item.Partial = lit< tt
