-- `dted_grid`: by what was laid out.
use Rattle.std.proofs.Common.{◌≡◌, sym, ap, ◌∙◌, rules}
use mir.Facts.{to_z-of_z}
use Rattle.dted.specs.Grid.{said_of_laid, grid_told}
use Rattle.layout.specs.Grid.{laid}
use Rattle.layout.specs.Zones.{edge_of}
use Rattle.dted.proofs.Latitudes.{laid_alike}
use Rattle.dted.proofs.grids.dted_grid.Goals as goal
use Rattle.dted.proofs.grids.dted_grid.Goals.{After-lay}

-- what was laid out is what the level and the latitude make due
found : (c : After-lay) → grid_told c.args.level c.args.latitude ≡ said_of_laid c.lay.result
unfolding grid_told
found c =
    let south = rw (to_z-of_z c.ranges.latitude) at c.from_south.ensures in
    let edge = c.near_edge.ensures ∙ ap edge_of south in
    ap said_of_laid (sym (laid_alike c.args.level c.args.latitude) ∙ sym (ap (laid c.args.level) edge) ∙ sym c.lay.ensures)

pub returns-in-Ok : goal.returns-in-Ok
returns-in-Ok c = rw (c.grid.ensures, found (goal.at.returns-in-Ok c).After-lay, c.in-Ok.is)

pub returns-in-Err-Level : goal.returns-in-Err-Level
returns-in-Err-Level c = rw (c.refusal.ensures, found (goal.at.returns-in-Err-Level c).After-lay) (search rules)

pub returns-in-Err-Zone : goal.returns-in-Err-Zone
returns-in-Err-Zone c = rw (c.refusal-in-Err-Zone.ensures, found (goal.at.returns-in-Err-Zone c).After-lay) (search rules)
