-- `locate_in`: off the cell, or the nearest post that is reached.
use Rattle.std.proofs.Common.{◌≡◌, sym, ◌∙◌}
use Rattle.position.proofs.Positions.{Small, corner_small}
use Rattle.position.specs.Position.{south_west}
use mir.Facts.{to_z-of_z}
use Rattle.position.proofs.locate_in.Goals as goal
use Rattle.position.proofs.locate_in.Goals.{In_ok-corner}

-- the position lies in the cell, at this corner
small : (c : In_ok-corner) → Small c.in_ok-corner.corner
small c =
    let a = c.args in
    let found : c.south_west.result ≡ south_west a.facts a.latitude a.longitude
    = rw (to_z-of_z c.ranges.latitude, to_z-of_z c.ranges.longitude) at c.south_west.ensures in
    corner_small a.facts a.latitude a.longitude _ (sym found ∙ c.in_ok-corner.ensures.ok_part)

pub nearest-column-requires : goal.nearest-column-requires
nearest-column-requires c = (small (goal.at.nearest-column-requires c).In_ok-corner).columns

pub nearest-post-requires : goal.nearest-post-requires
nearest-post-requires c = (small (goal.at.nearest-post-requires c).In_ok-corner).posts
