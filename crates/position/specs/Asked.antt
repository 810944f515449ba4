-- What functions of this crate ask of their callers.
use Rattle.std.specs.Prelude.{ℕ, ◌<◌, ◌≤◌}
use Rattle.layout.specs.Ranges.{Ranged}
use Rattle.headers.specs.declared.Facts.{Facts}

-- half an axis that is no longer than half the circle, and a corner so many degrees from its end
pub record Cornered (half degrees : ℕ) : Type 0 where
  pub axis : half ≤ 6480000
  pub corner : degrees < 360

-- a corner and a grid that good headers give
pub record Anchored (f : Facts) : Type 0 where
  pub grid : Ranged f.grid
  pub latitude : f.latitude < 180
  pub longitude : f.longitude < 360

-- the one before a position in a cell's degree, and how far the position lies past it
pub record Passed (before past : ℕ) : Type 0 where
  pub steps : before ≤ 36000
  pub rest : past ≤ 36000
