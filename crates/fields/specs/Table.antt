-- The fields of the headers in the order of judging (rules H1 to H40): positions count from 1 inside their record.
use Rattle.std.specs.Prelude.{ℕ, ◌+◌, ◌-◌, List, [], ◌∷◌, get_or, take, drop}
use Rattle.fields.specs.declared.Field.{Field}
use Rattle.fields.specs.declared.Kind.{Kind}
use Rattle.fields.specs.declared.Kind.TheVariants.{Item, Due}
use Rattle.fields.specs.declared.Item as items
use Rattle.fields.specs.declared.Item.TheVariants.{Level, Latitude, Longitude, Security, Edition, Version, Datum, Accuracy, Partial}
use Rattle.fields.specs.declared.Due.TheVariants.{Text, Number, Angle, Letter, Series}
use Rattle.fields.specs.declared.Text.TheVariants as text
use Rattle.fields.specs.declared.Number.TheVariants as number
use Rattle.fields.specs.declared.Angle.TheVariants as angle
use Rattle.fields.specs.declared.Whose.TheVariants as whose

-- offsets in the file of positions in the DSI, which follows the 80 bytes of the UHL, and in the ACC, 648 bytes further
abbrev pub dsi_at : ℕ → ℕ
dsi_at position = 80 + position - 1

abbrev pub acc_at : ℕ → ℕ
acc_at position = 80 + 648 + position - 1

-- a field of the UHL, the DSI or the ACC: its first and last position, and what it holds
abbrev pub uhl : ℕ → ℕ → Kind → Field
uhl first last kind = record { 0 = first - 1; 1 = last + 1 - first; 2 = kind }

abbrev pub dsi : ℕ → ℕ → Kind → Field
dsi first last kind = record { 0 = dsi_at first; 1 = last + 1 - first; 2 = kind }

abbrev pub acc : ℕ → ℕ → Kind → Field
acc first last kind = record { 0 = acc_at first; 1 = last + 1 - first; 2 = kind }

-- the bytes of a field
abbrev pub bytes_in : List ℕ → Field → List ℕ
bytes_in s f = take f.1 (drop f.0 s)

abbrev pub fields : List Field
fields =
    uhl 1 4 (Due (Text text.Uhl1))  -- H1
    ∷ uhl 5 12 (Item Longitude)  -- H2
    ∷ uhl 13 20 (Item Latitude)  -- H3
    ∷ uhl 25 28 (Item Level)  -- H4
    ∷ uhl 21 24 (Due (Number number.LongitudeInterval))  -- H5
    ∷ uhl 29 32 (Item (Accuracy whose.Uhl))  -- H6
    ∷ uhl 33 35 (Item Security)  -- H7
    ∷ uhl 48 51 (Due (Number number.Columns))  -- H8
    ∷ uhl 52 55 (Due (Number number.Posts))  -- H9
    ∷ uhl 56 56 (Due (Text text.Zero))  -- H10
    ∷ dsi 1 3 (Due (Text text.Dsi))  -- H11
    ∷ dsi 4 4 (Due Letter)  -- H12
    ∷ dsi 60 64 (Due Series)  -- H13
    ∷ dsi 88 89 (Item Edition)  -- H14
    ∷ dsi 90 90 (Item Version)  -- H15
    ∷ dsi 127 135 (Due (Text text.Prf89020b))  -- H16
    ∷ dsi 142 144 (Item Datum)  -- H17
    ∷ dsi 145 149 (Due (Text text.Wgs84))  -- H18
    ∷ dsi 186 194 (Due (Angle angle.OriginLatitude))  -- H19
    ∷ dsi 195 204 (Due (Angle angle.OriginLongitude))  -- H20
    ∷ dsi 205 211 (Due (Angle angle.South))  -- H21
    ∷ dsi 212 219 (Due (Angle angle.West))  -- H22
    ∷ dsi 220 226 (Due (Angle angle.North))  -- H23
    ∷ dsi 227 234 (Due (Angle angle.West))  -- H24
    ∷ dsi 235 241 (Due (Angle angle.North))  -- H25
    ∷ dsi 242 249 (Due (Angle angle.East))  -- H26
    ∷ dsi 250 256 (Due (Angle angle.South))  -- H27
    ∷ dsi 257 264 (Due (Angle angle.East))  -- H28
    ∷ dsi 265 273 (Due (Text text.Orientation))  -- H29
    ∷ dsi 274 277 (Due (Number number.LatitudeInterval))  -- H30
    ∷ dsi 278 281 (Due (Number number.LongitudeInterval))  -- H31
    ∷ dsi 282 285 (Due (Number number.Posts))  -- H32
    ∷ dsi 286 289 (Due (Number number.Columns))  -- H33
    ∷ dsi 290 291 (Item Partial)  -- H34
    ∷ acc 1 3 (Due (Text text.Acc))  -- H35
    ∷ acc 4 7 (Item (Accuracy whose.AbsoluteHorizontal))  -- H36
    ∷ acc 8 11 (Item (Accuracy whose.AbsoluteVertical))  -- H37
    ∷ acc 12 15 (Item (Accuracy whose.RelativeHorizontal))  -- H38
    ∷ acc 16 19 (Item (Accuracy whose.RelativeVertical))  -- H39
    ∷ acc 56 57 (Due (Text text.ZeroZero))  -- H40
    ∷ []

-- the field that is judged after i others
abbrev pub field_at : ℕ → Field
field_at i = get_or fields i (uhl 1 1 (Item Partial))

-- how many fields are judged before that of an item
abbrev pub item_row : items.Item → ℕ
item_row Longitude = 1
item_row Latitude = 2
item_row Level = 3
item_row (Accuracy whose.Uhl) = 5
item_row Security = 6
item_row Edition = 13
item_row Version = 14
item_row Datum = 16
item_row Partial = 33
item_row (Accuracy whose.AbsoluteHorizontal) = 35
item_row (Accuracy whose.AbsoluteVertical) = 36
item_row (Accuracy whose.RelativeHorizontal) = 37
item_row (Accuracy whose.RelativeVertical) = 38

-- where an item stands
abbrev pub place_of : items.Item → ℕ
place_of item = (field_at (item_row item)).0
