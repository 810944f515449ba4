-- What headers say: the thirteen items of a description (rule R1).
use Rattle.std.specs.Prelude.{ℕ, List, get_or, Result, Ok, Err}
use Rattle.answers.specs.declared.Refusal.{Refusal}
use Rattle.headers.specs.declared.Facts.{Facts}
use Rattle.octets.specs.Choice.{pick}
use Rattle.octets.specs.Digits.{digits_at, decimal_at}
use Rattle.octets.specs.Texts.{ascii, has}
use Rattle.fields.specs.Table.{place_of}
use Rattle.fields.specs.declared.Item.TheVariants as item
use Rattle.fields.specs.declared.Whose.TheVariants.{Uhl, AbsoluteHorizontal, AbsoluteVertical, RelativeHorizontal, RelativeVertical}
use Rattle.headers.specs.Basis.{latitude_in, longitude_in, level_at, security_in}
use Rattle.headers.specs.Judged.{judged}
use Rattle.description.specs.declared.Accuracy.{Accuracy}
use Rattle.description.specs.declared.Accuracy.TheVariants.{Metres, Unknown}
use Rattle.description.specs.declared.Datum.{Datum}
use Rattle.description.specs.declared.Datum.TheVariants.{Msl, E96}
use Rattle.description.specs.declared.Description.{Description}

-- metres where four digits stand, else not available
unfoldable pub accuracy_at : List ℕ → ℕ → Accuracy
accuracy_at s at = pick (digits_at s at 4) (Metres (decimal_at s at 4)) Unknown

unfoldable pub datum_at : List ℕ → ℕ → Datum
datum_at s at = pick (has s at (ascii "MSL")) Msl E96

-- R1: the items, each from its field
unfoldable pub items_in : List ℕ → Description
items_in s = record {
  level = level_at s;
  latitude = latitude_in s;
  longitude = longitude_in s;
  security = security_in s;
  edition = decimal_at s (place_of item.Edition) 2;
  version = get_or s (place_of item.Version) 0;
  datum = datum_at s (place_of item.Datum);
  uhl = accuracy_at s (place_of (item.Accuracy Uhl));
  absolute = record { horizontal = accuracy_at s (place_of (item.Accuracy AbsoluteHorizontal)); vertical = accuracy_at s (place_of (item.Accuracy AbsoluteVertical)) };
  relative = record { horizontal = accuracy_at s (place_of (item.Accuracy RelativeHorizontal)); vertical = accuracy_at s (place_of (item.Accuracy RelativeVertical)) };
  partial = decimal_at s (place_of item.Partial) 2;
}

-- R1: given by headers that are good, and refused as those that are not
abbrev pub described_by : List ℕ → Result Facts Refusal → Result Description Refusal
described_by s (Ok facts) = Ok (items_in s)
described_by s (Err r) = Err r

unfoldable pub described : List ℕ → Result Description Refusal
described s = described_by s (judged s)
