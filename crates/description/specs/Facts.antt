-- What a description makes due, and what headers written from it will say (rules W1 and W3).
use Rattle.layout.specs.Grid.{grid_of}
use Rattle.layout.specs.Zones.{edge_of}
use Rattle.description.specs.declared.Description.{Description}
use Rattle.due.specs.declared.Basis.{Basis}
use Rattle.headers.specs.declared.Facts.{Facts}

-- by what level, origin and letter of a description its other fields are due
unfoldable pub basis_of : Description → Basis
basis_of d = record {
  grid = grid_of d.level (edge_of d.latitude);
  latitude = d.latitude;
  longitude = d.longitude;
  letter = d.security;
}

-- what headers written from a description will say
unfoldable pub facts_for : Description → Facts
facts_for d = record { grid = (basis_of d).grid; latitude = d.latitude; longitude = d.longitude; partial = d.partial }
