-- The grid of a level and a near edge (rules G4 to G6).
use Rattle.std.specs.Prelude.{ℕ, ◌+◌, ◌*◌, ◌/◌, ltb, Result, Ok, Err}
use Rattle.layout.specs.declared.NoGrid.TheVariants as none
use Rattle.layout.specs.declared.NoGrid.{NoGrid}
use Rattle.octets.specs.Choice.{pick}
use Rattle.layout.specs.Levels.{degree, latitude_interval, posts_of, column_bytes}
use Rattle.layout.specs.Zones.{factor_of}
use Rattle.layout.specs.declared.Grid.{Grid}

-- G4: the longitude interval is the latitude interval times the zone's factor
unfoldable pub longitude_interval : ℕ → ℕ → ℕ
longitude_interval level edge = latitude_interval level * factor_of edge

-- G5: columns, one at each interval of the degree and one at its end
unfoldable pub columns_of : ℕ → ℕ → ℕ
columns_of level edge = degree / longitude_interval level edge + 1

-- G6: a cell's bytes: the headers, then the columns
abbrev pub header_bytes : ℕ
header_bytes = 3428

unfoldable pub cell_bytes : ℕ → ℕ → ℕ
cell_bytes level edge = header_bytes + columns_of level edge * column_bytes (posts_of level)

unfoldable pub grid_of : ℕ → ℕ → Grid
grid_of level edge = record {
  level = level;
  factor = factor_of edge;
  interval = record { latitude = latitude_interval level; longitude = longitude_interval level edge };
  columns = columns_of level edge;
  posts = posts_of level;
  bytes = record { column = column_bytes (posts_of level); cell = cell_bytes level edge };
}

-- any level and any near edge: there are three levels, and no edge past 89
unfoldable pub laid : ℕ → ℕ → Result Grid NoGrid
laid level edge = pick (ltb level 3) (pick (ltb edge 90) (Ok (grid_of level edge)) (Err none.Zone)) (Err none.Level)
