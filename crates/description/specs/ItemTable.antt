-- The thirteen items of a description, by number (rule W2): tests, numbers and refusals of items all go by this table.
use Rattle.std.specs.Prelude.{ℕ, List, [], ◌∷◌}
use Rattle.fields.specs.declared.Item.{Item}
use Rattle.fields.specs.declared.Item.TheVariants.{Level, Latitude, Longitude, Security, Edition, Version, Datum, Accuracy, Partial}
use Rattle.fields.specs.declared.Whose.TheVariants.{Uhl, AbsoluteHorizontal, AbsoluteVertical, RelativeHorizontal, RelativeVertical}

-- W2: the number of each item
abbrev pub item_number : Item → ℕ
item_number Level = 1
item_number Latitude = 2
item_number Longitude = 3
item_number Security = 4
item_number Edition = 5
item_number Version = 6
item_number Datum = 7
item_number (Accuracy Uhl) = 8
item_number (Accuracy AbsoluteHorizontal) = 9
item_number (Accuracy AbsoluteVertical) = 10
item_number (Accuracy RelativeHorizontal) = 11
item_number (Accuracy RelativeVertical) = 12
item_number Partial = 13

-- W2: the items in the order of those numbers, which run from 1 to 13
abbrev pub in_order : List Item
in_order =
    Level
    ∷ Latitude
    ∷ Longitude
    ∷ Security
    ∷ Edition
    ∷ Version
    ∷ Datum
    ∷ Accuracy Uhl
    ∷ Accuracy AbsoluteHorizontal
    ∷ Accuracy AbsoluteVertical
    ∷ Accuracy RelativeHorizontal
    ∷ Accuracy RelativeVertical
    ∷ Partial
    ∷ []
