-- The numbers that the test of the table finds are those of the grids that there are, no others.
use Prim.Native.Nat.{ℕ, zero, suc, ◌<◌}
use native.Mathlib.Omega.{arith}
use mathlib.Core.Path.{◌≡◌, refl}
use mathlib.Core.Bool.{Bool, true}
use lib.Dec.{eqb}
use borrow.Author.Tests.{eq-eqb, eqb-true}
use Rattle.octets.specs.Choice.{either}
use Rattle.octets.specs.Tests.{some_below}
use Rattle.octets.proofs.ChoiceLaws.{either_first, either_second, either_case}
use Rattle.octets.proofs.TestLaws.{SomeAt, some_at, some_found, below, passes}
use Rattle.layout.specs.Grid.{longitude_interval, columns_of, grid_of}
use Rattle.layout.specs.Zones.{last_edge, factor_among, factor_of}
use Rattle.layout.proofs.NearEdges.{last_below}
use Rattle.fields.specs.declared.Number.{Number}
use Rattle.fields.specs.declared.Number.TheVariants as number
use Rattle.due.specs.Due.{number_of}
use Rattle.faults.specs.Ever.{in_zones, in_table}

-- every near edge has the factor of its zone's last one
zone_test : ℕ → Bool
zone_test edge = some_below (λ (zone : ℕ). eqb (factor_of (last_edge zone)) (factor_of edge)) 5

zone_found : (edge : ℕ) → edge < 90 → SomeAt (λ (zone : ℕ). eqb (factor_of (last_edge zone)) (factor_of edge)) 5
unfolding zone_test factor_of factor_among
zone_found edge h = some_at (λ (zone : ℕ). eqb (factor_of (last_edge zone)) (factor_of edge)) 5 (passes (zone_test edge) (below zone_test 90 tt edge h))

-- the numbers of a grid hang on its level and factor alone
number_alike : (n : Number) (level edge other : ℕ) → factor_of edge ≡ factor_of other → number_of n (grid_of level edge) ≡ number_of n (grid_of level other)
unfolding grid_of longitude_interval columns_of
number_alike number.LatitudeInterval level edge other e = refl
number_alike number.LongitudeInterval level edge other e = rw e
number_alike number.Columns level edge other e = rw e
number_alike number.Posts level edge other e = refl

module _ (n : Number) where
  in_zones_lem : (level edge : ℕ) → edge < 90 → in_zones n level (number_of n (grid_of level edge)) ≡ true
  unfolding in_zones
  in_zones_lem level edge h =
      let z = zone_found edge h in
      some_found (λ (zone : ℕ). eqb (number_of n (grid_of level (last_edge zone))) (number_of n (grid_of level edge))) 5 z.at z.below
      (eq-eqb (number_of n (grid_of level (last_edge z.at))) (number_of n (grid_of level edge))
      (number_alike n level (last_edge z.at) edge (eqb-true (factor_of (last_edge z.at)) (factor_of edge) z.holds)))

  -- the numbers of every grid are in the table
  pub in_table_lem : (level edge : ℕ) → level < 3 → edge < 90 → in_table n (number_of n (grid_of level edge)) ≡ true
  unfolding in_table
  in_table_lem zero edge l h = let v = number_of n (grid_of 0 edge) in either_first (in_zones n 0 v) (either (in_zones n 1 v) (in_zones n 2 v)) (in_zones_lem 0 edge h)
  in_table_lem (suc zero) edge l h =
      let v = number_of n (grid_of 1 edge) in
      either_second (in_zones n 0 v) (either (in_zones n 1 v) (in_zones n 2 v)) (either_first (in_zones n 1 v) (in_zones n 2 v) (in_zones_lem 1 edge h))
  in_table_lem (suc (suc zero)) edge l h =
      let v = number_of n (grid_of 2 edge) in
      either_second (in_zones n 0 v) (either (in_zones n 1 v) (in_zones n 2 v)) (either_second (in_zones n 1 v) (in_zones n 2 v) (in_zones_lem 2 edge h))
  in_table_lem (suc (suc (suc level))) edge l h = absurd (omega arith)

-- a grid that has a number
pub record GridWith (n : Number) (v : ℕ) : Type 0 where
  pub level : ℕ
  pub edge : ℕ
  pub level_below : level < 3
  pub edge_below : edge < 90
  pub is : number_of n (grid_of level edge) ≡ v

module _ (n : Number) (v : ℕ) where
  at_level : (level : ℕ) → level < 3 → in_zones n level v ≡ true → GridWith n v
  unfolding in_zones
  at_level level h e =
      let z = some_at (λ (zone : ℕ). eqb (number_of n (grid_of level (last_edge zone))) v) 5 e in
      record {
        level = level;
        edge = last_edge z.at;
        level_below = h;
        edge_below = last_below z.at z.below;
        is = eqb-true (number_of n (grid_of level (last_edge z.at))) v z.holds;
      }

  -- and every number in the table is some grid's
  pub of_table : in_table n v ≡ true → GridWith n v
  unfolding in_table
  of_table e =
      either_case (in_zones n 0 v) (either (in_zones n 1 v) (in_zones n 2 v)) e
      (λ z. at_level 0 (omega arith) z)
      (λ r.
      either_case (in_zones n 1 v) (in_zones n 2 v) r
      (λ z. at_level 1 (omega arith) z)
      (λ z. at_level 2 (omega arith) z))
