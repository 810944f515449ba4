-- H45 in plain figures: the numbers that the level and zone table has, each kind listed by hand.
use Prim.Native.Nat.{ℕ, ◌<◌}
use mathlib.Core.Path.{◌≡◌, sym, ap, ◌∙◌}
use mathlib.Core.Bool.{Bool, true}
use mathlib.Core.List.{List, [], ◌∷◌}
use lib.Dec.{T, eqb, lit<}
use lib.ListN.{length, get_or}
use borrow.Author.Tests.{eqb-true}
use Rattle.octets.specs.Choice.{either}
use Rattle.octets.specs.Tests.{all_below, some_below}
use Rattle.octets.proofs.ChoiceLaws.{same_test, either_case}
use Rattle.octets.proofs.TestLaws.{some_at, below, passes}
use Rattle.layout.specs.Levels.{latitude_interval, posts_of}
use Rattle.layout.specs.Grid.{longitude_interval, columns_of, grid_of}
use Rattle.layout.specs.Zones.{last_edge, factor_among, factor_of}
use Rattle.fields.specs.declared.Number.{Number}
use Rattle.fields.specs.declared.Number.TheVariants as number
use Rattle.due.specs.Due.{number_of}
use Rattle.faults.specs.Ever.{in_zones, in_table}

abbrev pub listed : Number → List ℕ
listed number.LatitudeInterval = 300 ∷ 30 ∷ 10 ∷ []
listed number.LongitudeInterval = 300 ∷ 600 ∷ 900 ∷ 1200 ∷ 1800 ∷ 30 ∷ 60 ∷ 90 ∷ 120 ∷ 180 ∷ 10 ∷ 20 ∷ 40 ∷ []
listed number.Columns = 121 ∷ 61 ∷ 41 ∷ 31 ∷ 21 ∷ 1201 ∷ 601 ∷ 401 ∷ 301 ∷ 201 ∷ 3601 ∷ 1801 ∷ 901 ∷ []
listed number.Posts = 121 ∷ 1201 ∷ 3601 ∷ []

abbrev pub is_in : ℕ → List ℕ → Bool
is_in v list = some_below (λ (i : ℕ). eqb (get_or list i 0) v) (length list)

-- each number of the list is in the table
there_test : Number → ℕ → Bool
there_test n i = in_table n (get_or (listed n) i 0)

there : (n : Number) → T (all_below (there_test n) (length (listed n)))
unfolding there_test in_table in_zones grid_of longitude_interval columns_of latitude_interval posts_of factor_of factor_among
there number.LatitudeInterval = tt
there number.LongitudeInterval = tt
there number.Columns = tt
there number.Posts = tt

-- each number of the table is in the list
zone_test : Number → ℕ → ℕ → Bool
zone_test n level zone = is_in (number_of n (grid_of level (last_edge zone))) (listed n)

zones : (n : Number) → T (all_below (λ (level : ℕ). all_below (zone_test n level) 5) 3)
unfolding zone_test grid_of longitude_interval columns_of latitude_interval posts_of factor_of factor_among
zones number.LatitudeInterval = tt
zones number.LongitudeInterval = tt
zones number.Columns = tt
zones number.Posts = tt

module _ (n : Number) (v : ℕ) where
  from_zones : (level : ℕ) → level < 3 → in_zones n level v ≡ true → is_in v (listed n) ≡ true
  unfolding zone_test in_zones
  from_zones level h e =
      let z = some_at (λ (zone : ℕ). eqb (number_of n (grid_of level (last_edge zone))) v) 5 e in
      let at = number_of n (grid_of level (last_edge z.at)) in
      let held = below (zone_test n level) 5 (below (λ (l : ℕ). all_below (zone_test n l) 5) 3 (zones n) level h) z.at z.below in
      ap (λ (x : ℕ). is_in x (listed n)) (sym (eqb-true at v z.holds)) ∙ passes (zone_test n level z.at) held

  from_table : in_table n v ≡ true → is_in v (listed n) ≡ true
  unfolding in_table
  from_table e =
      either_case (in_zones n 0 v) (either (in_zones n 1 v) (in_zones n 2 v)) e
      (λ z. from_zones 0 (lit< tt) z)
      (λ r.
      either_case (in_zones n 1 v) (in_zones n 2 v) r
      (λ z. from_zones 1 (lit< tt) z)
      (λ z. from_zones 2 (lit< tt) z))

  from_list : is_in v (listed n) ≡ true → in_table n v ≡ true
  unfolding there_test
  from_list e =
      let z = some_at (λ (i : ℕ). eqb (get_or (listed n) i 0) v) (length (listed n)) e in
      let held = below (there_test n) (length (listed n)) (there n) z.at z.below in
      ap (in_table n) (sym (eqb-true (get_or (listed n) z.at 0) v z.holds)) ∙ passes (there_test n z.at) held

  pub table_listed : in_table n v ≡ is_in v (listed n)
  table_listed = same_test (in_table n v) (is_in v (listed n)) from_table from_list
