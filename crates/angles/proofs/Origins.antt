-- Which degrees and letters an origin and a corner may carry, at the ends of their ranges.
use mathlib.Core.Path.{◌≡◌, refl}
use mathlib.Core.Bool.{Bool, true, not}
use mathlib.Core.List.{List, [], ◌∷◌}
use Rattle.octets.specs.Tests.{every}
use Rattle.angles.specs.Angles.{northward, eastward, is_origin, is_corner}

abbrev tests : List Bool
tests =
    -- 000W, 000S and 180E are no origins, 180W, 179E, 90S and 89N are
    not (is_origin eastward 0 0x57) ∷ not (is_origin northward 0 0x53) ∷ not (is_origin eastward 180 0x45)
    ∷ is_origin eastward 180 0x57 ∷ is_origin eastward 179 0x45 ∷ is_origin northward 90 0x53 ∷ is_origin northward 89 0x4E
    -- a corner at 0 may carry either letter
    ∷ is_corner northward 90 0 0x4E ∷ is_corner northward 90 0 0x53 ∷ is_corner eastward 180 0 0x45 ∷ is_corner eastward 180 0 0x57
    -- and at longitude 180, at either end
    ∷ is_corner eastward 0 180 0x45 ∷ is_corner eastward 0 180 0x57 ∷ is_corner eastward 360 180 0x45 ∷ is_corner eastward 360 180 0x57
    -- but not at latitude 90
    ∷ is_corner northward 0 90 0x53 ∷ not (is_corner northward 0 90 0x4E)
    ∷ is_corner northward 180 90 0x4E ∷ not (is_corner northward 180 90 0x53)
    ∷ []

pub ends_of_ranges : every tests ≡ true
ends_of_ranges = refl
