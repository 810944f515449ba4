-- What is derived agrees with the published tables (rules Z2 to Z4 and G1 to G5).
use mathlib.Core.Path.{◌≡◌, refl, sym, subst}
use mathlib.Core.Bool.{Bool, true}
use Prim.Native.Nat.{ℕ, ◌+◌, ◌-◌, ◌*◌, ◌<◌, ◌≤◌}
use native.Mathlib.Omega.{arith}
use lib.Dec.{T, eqb→eq}
use lib.ListN.{get_or}
use Rattle.octets.specs.Tests.{every, all_below}
use Rattle.layout.specs.Levels.{latitude_interval, posts_of, column_bytes}
use Rattle.layout.specs.Zones.{factor_among, factor_of}
use Rattle.layout.specs.Grid.{longitude_interval, columns_of}
use Rattle.layout.specs.Table.{Zone, zone_at, level_at, level_tests, zone_tests, zone_agrees, tables_agree}
use Rattle.octets.proofs.TestLaws.{both_left, both_right, each, below}

-- all 15 combinations of level and zone, at each of the 90 near edges
pub tables_agree_lem : tables_agree ≡ true
unfolding tables_agree columns_of longitude_interval posts_of latitude_interval factor_of factor_among
tables_agree_lem = refl

-- the row of a level
pub record LevelRow (l : ℕ) : Type 0 where
  pub interval : latitude_interval l ≡ (level_at l).interval
  pub posts : posts_of l ≡ (level_at l).posts
  pub bytes : column_bytes (posts_of l) ≡ (level_at l).bytes

-- the row of a zone, at a near edge and a level
pub record ZoneRow (z : Zone) (edge l : ℕ) : Type 0 where
  pub factor : factor_of edge ≡ z.factor
  pub longitude : longitude_interval l edge ≡ (level_at l).interval * z.factor
  pub columns : columns_of l edge ≡ get_or z.columns l 0

abbrev levels_agree : Bool
levels_agree = all_below (λ (l : ℕ). every (level_tests l)) 3

abbrev zones_agree : Bool
zones_agree = all_below (λ (i : ℕ). zone_agrees (zone_at i)) 5

both_agree : T levels_agree × T zones_agree
unfolding tables_agree
both_agree =
    let t = subst T (sym tables_agree_lem) tt in
    (both_left levels_agree zones_agree t, both_right levels_agree zones_agree t)

pub level_row : (l : ℕ) → l < 3 → LevelRow l
level_row l h =
    let holds = each (level_tests l) (below (λ (m : ℕ). every (level_tests m)) 3 both_agree.0 l h) in
    record {
      interval = eqb→eq (latitude_interval l) (level_at l).interval (holds 0);
      posts = eqb→eq (posts_of l) (level_at l).posts (holds 1);
      bytes = eqb→eq (column_bytes (posts_of l)) (level_at l).bytes (holds 2);
    }

row_by : (z : Zone) (edge l : ℕ) → T (every (zone_tests z edge l)) → ZoneRow z edge l
row_by z edge l t =
    let holds = each (zone_tests z edge l) t in
    record {
      factor = eqb→eq (factor_of edge) z.factor (holds 0);
      longitude = eqb→eq (longitude_interval l edge) ((level_at l).interval * z.factor) (holds 1);
      columns = eqb→eq (columns_of l edge) (get_or z.columns l 0) (holds 2);
    }

zone_by : (z : Zone) (edge l : ℕ) → T (zone_agrees z) → z.first ≤ edge → edge ≤ z.last → l < 3 → ZoneRow z edge l
zone_by z edge l t low high h =
    let k = edge - z.first in
    let at_Edge = below (λ (j : ℕ). all_below (λ (m : ℕ). every (zone_tests z (z.first + j) m)) 3) (z.last + 1 - z.first) t k (omega arith) in
    let at_level = below (λ (m : ℕ). every (zone_tests z (z.first + k) m)) 3 at_Edge l h in
    let same : z.first + k ≡ edge = omega arith in
    subst (λ (e : ℕ). ZoneRow z e l) same (row_by z (z.first + k) l at_level)

pub zone_row : (i edge l : ℕ) → i < 5 → (zone_at i).first ≤ edge → edge ≤ (zone_at i).last → l < 3 → ZoneRow (zone_at i) edge l
zone_row i edge l hi low high hl =
    zone_by (zone_at i) edge l (below (λ (j : ℕ). zone_agrees (zone_at j)) 5 both_agree.1 i hi) low high hl
