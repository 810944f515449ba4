-- `grid_of` meets its contract: the grid is the one derived, and each of its numbers is within range.
use Rattle.std.proofs.Common.{◌≡◌, arith}
use Rattle.layout.specs.Grid.{grid_of}
use Rattle.layout.specs.declared.Grid.{Grid}
use Rattle.layout.specs.Ranges.{Ranged}
use Rattle.layout.proofs.Ranges.{ranged, grid_by, grid_by_lem, columns_fit, cell_fits}
use Rattle.layout.proofs.grid_of.Goals as goal
use Rattle.layout.proofs.grid_of.Goals.{After-latitude_interval-latitude}

module _ (c : After-latitude_interval-latitude) where
  abbrev grid : Grid
  grid = grid_by c.args.level c.factor-factor.result c.latitude_interval-latitude.result

  due : grid ≡ grid_of c.args.level c.args.edge
  due = grid_by_lem c.args.level c.args.edge c.factor-factor.result c.latitude_interval-latitude.result c.factor-factor.ensures c.latitude_interval-latitude.ensures

  within : Ranged grid
  within = rw due (ranged c.args.level c.args.edge c.requires.level c.requires.edge)

pub overflow_mul-longitude : goal.overflow_mul-longitude
overflow_mul-longitude c = omega (arith, within (goal.at.overflow_mul-longitude c).After-latitude_interval-latitude)

pub nonzero_div-columns : goal.nonzero_div-columns
nonzero_div-columns c = omega (arith, within (goal.at.nonzero_div-columns c).After-latitude_interval-latitude)

pub nonzero_div-posts : goal.nonzero_div-posts
nonzero_div-posts c = omega (arith, within (goal.at.nonzero_div-posts c).After-latitude_interval-latitude)

pub overflow_mul-cell : goal.overflow_mul-cell
overflow_mul-cell c =
    let w = within (goal.at.overflow_mul-cell c).After-latitude_interval-latitude in
    columns_fit (omega (arith, w)) (omega (arith, w, c.column_bytes-column.ensures))

pub overflow_add-cell : goal.overflow_add-cell
overflow_add-cell c =
    let w = within (goal.at.overflow_add-cell c).After-latitude_interval-latitude in
    cell_fits (omega (arith, w)) (omega (arith, w, c.column_bytes-column.ensures))

pub returns : goal.returns
returns c = rw c.column_bytes-column.ensures (due (goal.at.returns c).After-latitude_interval-latitude)
