-- The published tables of levels and zones, as they stand in the scope document (rules Z2 to Z4 and G1 to G5).
use Rattle.std.specs.Prelude.{ℕ, ◌+◌, ◌-◌, ◌*◌, Bool, List, [], ◌∷◌, eqb, get_or}
use Rattle.octets.specs.Choice.{both}
use Rattle.octets.specs.Tests.{every, all_below}
use Rattle.layout.specs.Levels.{latitude_interval, posts_of, column_bytes}
use Rattle.layout.specs.Zones.{factor_of}
use Rattle.layout.specs.Grid.{longitude_interval, columns_of}

-- a zone: its near edges, its factor, and its columns at levels 0, 1 and 2
pub record Zone : Type 0 where
  pub first : ℕ
  pub last : ℕ
  pub factor : ℕ
  pub columns : List ℕ

abbrev pub zone : ℕ → ℕ → ℕ → List ℕ → Zone
zone first last factor columns = record { first = first; last = last; factor = factor; columns = columns }

abbrev pub zones : List Zone
zones =
    zone 0 49 1 (121 ∷ 1201 ∷ 3601 ∷ [])
    ∷ zone 50 69 2 (61 ∷ 601 ∷ 1801 ∷ [])
    ∷ zone 70 74 3 (41 ∷ 401 ∷ 1201 ∷ [])
    ∷ zone 75 79 4 (31 ∷ 301 ∷ 901 ∷ [])
    ∷ zone 80 89 6 (21 ∷ 201 ∷ 601 ∷ [])
    ∷ []

-- a level: its latitude interval, its posts to a column, its column bytes
pub record Level : Type 0 where
  pub interval : ℕ
  pub posts : ℕ
  pub bytes : ℕ

abbrev pub level : ℕ → ℕ → ℕ → Level
level interval posts bytes = record { interval = interval; posts = posts; bytes = bytes }

abbrev pub levels : List Level
levels = level 300 121 254 ∷ level 30 1201 2414 ∷ level 10 3601 7214 ∷ []

abbrev pub zone_at : ℕ → Zone
zone_at i = get_or zones i (zone 0 0 0 [])

abbrev pub level_at : ℕ → Level
level_at l = get_or levels l (level 0 0 0)

-- G1 to G3: what is derived for a level is what its row says
abbrev pub level_tests : ℕ → List Bool
level_tests l =
    eqb (latitude_interval l) (level_at l).interval
    ∷ eqb (posts_of l) (level_at l).posts
    ∷ eqb (column_bytes (posts_of l)) (level_at l).bytes
    ∷ []

-- Z3, Z4, G4, G5: what is derived for a level and a near edge is what the zone's row says
abbrev pub zone_tests : Zone → ℕ → ℕ → List Bool
zone_tests z edge l =
    eqb (factor_of edge) z.factor
    ∷ eqb (longitude_interval l edge) ((level_at l).interval * z.factor)
    ∷ eqb (columns_of l edge) (get_or z.columns l 0)
    ∷ []

-- Z2: so at every near edge of a zone, and every level
abbrev pub zone_agrees : Zone → Bool
zone_agrees z = all_below (λ (k : ℕ). all_below (λ (l : ℕ). every (zone_tests z (z.first + k) l)) 3) (z.last + 1 - z.first)

-- so for every level and every zone
unfoldable pub tables_agree : Bool
tables_agree = both (all_below (λ (l : ℕ). every (level_tests l)) 3) (all_below (λ (i : ℕ). zone_agrees (zone_at i)) 5)
