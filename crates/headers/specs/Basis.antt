-- What the first fields fix: level and origin of H2 to H4, through the level and zone table the grid, and the letter of H7.
use Rattle.std.specs.Prelude.{ℕ, List, get_or, take, drop}
use Rattle.octets.specs.Choice.{pick}
use Rattle.octets.specs.Texts.{ascii, has}
use Rattle.layout.specs.Grid.{grid_of}
use Rattle.angles.specs.Angles.{northward, eastward, degrees_in, letter_in, angle_of}
use Rattle.layout.specs.Zones.{edge_of}
use Rattle.angles.specs.declared.Axis.{Axis}
use Rattle.fields.specs.Table.{place_of}
use Rattle.fields.specs.declared.Item.TheVariants.{Level, Latitude, Longitude, Security}
use Rattle.due.specs.declared.Basis.{Basis}
use Rattle.rules.specs.Rules.{origin_form}

-- H2, H3: DDDMMSSH at an offset, as an angle counted from 90 S or 180 W
unfoldable pub origin_at : Axis → List ℕ → ℕ → ℕ
origin_at a s at = angle_of a (degrees_in origin_form (take 8 (drop at s))) (letter_in origin_form (take 8 (drop at s)))

abbrev pub latitude_in : List ℕ → ℕ
latitude_in s = origin_at northward s (place_of Latitude)

abbrev pub longitude_in : List ℕ → ℕ
longitude_in s = origin_at eastward s (place_of Longitude)

-- H4: 0300, 0030 or 0010 fixes the level
unfoldable pub level_at : List ℕ → ℕ
level_at s = pick (has s (place_of Level) (ascii "0300")) 0 (pick (has s (place_of Level) (ascii "0030")) 1 2)

-- H7
abbrev pub security_in : List ℕ → ℕ
security_in s = get_or s (place_of Security) 0

unfoldable pub basis_in : List ℕ → Basis
basis_in s = record {
  grid = grid_of (level_at s) (edge_of (latitude_in s));
  latitude = latitude_in s;
  longitude = longitude_in s;
  letter = security_in s;
}
