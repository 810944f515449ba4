-- Zone I has the most columns of its level.
use mathlib.Core.Bool.{Bool}
use Prim.Native.Nat.{ℕ, ◌<◌, ◌≤◌}
use lib.Dec.{T, leb, leb→le}
use Rattle.octets.specs.Tests.{all_below}
use Rattle.octets.proofs.TestLaws.{below}
use Rattle.layout.specs.Levels.{latitude_interval}
use Rattle.layout.specs.Zones.{factor_among, factor_of}
use Rattle.layout.specs.Grid.{longitude_interval, columns_of}

-- at a level, no near edge has more columns than edge 0
abbrev most_at : ℕ → Bool
most_at level = all_below (λ (edge : ℕ). leb (columns_of level edge) (columns_of level 0)) 90

all_most : T (all_below most_at 3)
unfolding columns_of longitude_interval latitude_interval factor_of factor_among
all_most = tt

pub zone_one_most : (level edge : ℕ) → level < 3 → edge < 90 → columns_of level edge ≤ columns_of level 0
zone_one_most level edge hl he =
    leb→le (columns_of level edge) (columns_of level 0)
    (below (λ (e : ℕ). leb (columns_of level e) (columns_of level 0)) 90 (below most_at 3 all_most level hl) edge he)
