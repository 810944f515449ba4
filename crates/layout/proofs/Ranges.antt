-- What a laid grid is within, at every level and near edge.
use Rattle.std.specs.Prelude.{Ok, Err}
use Rattle.layout.specs.declared.NoGrid.TheVariants as none
use mathlib.Core.Path.{◌≡◌, refl}
use mathlib.Core.Bool.{Bool, true, false}
use mathlib.Core.List.{List, [], ◌∷◌}
use Prim.Native.Nat.{ℕ, ◌+◌, ◌-◌, ◌*◌, ◌/◌, ◌<◌, ◌≤◌}
use native.Mathlib.Nat.{mul-le-mul}
use native.Mathlib.Omega.{arith}
use lib.Dec.{T, leb, eqb, ltb, leb→le, ltb→lt, eqb→eq}
use lib.ListN.{get_or}
use borrow.Author.Tests.{lt-ltb, ltb-true}
use mir.Syntax.{w64}
use mir.Val.{Fits}
use Rattle.octets.specs.Choice.{pick}
use Rattle.layout.specs.Levels.{latitude_interval, posts_of, column_bytes}
use Rattle.layout.specs.Zones.{factor_among, factor_of}
use Rattle.layout.specs.Grid.{longitude_interval, columns_of, header_bytes, cell_bytes, grid_of, laid}
use Rattle.octets.specs.Tests.{every, all_below}
use Rattle.layout.specs.Ranges.{Ranged}
use Rattle.layout.specs.declared.Grid.{Grid}
use Rattle.octets.proofs.TestLaws.{each, below}

-- what a grid is within, as tests, in the order of `Ranged`
abbrev tests : Grid → List Bool
tests g =
    ltb g.level 3
    ∷ leb 1 g.factor ∷ leb g.factor 6
    ∷ leb 10 g.interval.latitude ∷ leb g.interval.latitude 300
    ∷ leb 10 g.interval.longitude ∷ leb g.interval.longitude 1800
    ∷ leb 21 g.columns ∷ leb g.columns 3601
    ∷ leb 121 g.posts ∷ leb g.posts 3601
    ∷ eqb g.bytes.column (column_bytes g.posts)
    ∷ eqb g.bytes.cell (header_bytes + g.columns * g.bytes.column)
    ∷ leb g.bytes.cell 25981042
    ∷ eqb ((g.posts - 1) * g.interval.latitude) 36000
    ∷ eqb ((g.columns - 1) * g.interval.longitude) 36000
    ∷ []

by_tests : (g : Grid) → T (every (tests g)) → Ranged g
by_tests g t =
    let held : (k : ℕ) → T (get_or (tests g) k true) = each (tests g) t in
    record {
      level = ltb→lt g.level 3 (held 0);
      factor_low = leb→le 1 g.factor (held 1);
      factor_high = leb→le g.factor 6 (held 2);
      latitude_low = leb→le 10 g.interval.latitude (held 3);
      latitude_high = leb→le g.interval.latitude 300 (held 4);
      longitude_low = leb→le 10 g.interval.longitude (held 5);
      longitude_high = leb→le g.interval.longitude 1800 (held 6);
      columns_low = leb→le 21 g.columns (held 7);
      columns_high = leb→le g.columns 3601 (held 8);
      posts_low = leb→le 121 g.posts (held 9);
      posts_high = leb→le g.posts 3601 (held 10);
      column = eqb→eq g.bytes.column (column_bytes g.posts) (held 11);
      cell = eqb→eq g.bytes.cell (header_bytes + g.columns * g.bytes.column) (held 12);
      cell_high = leb→le g.bytes.cell 25981042 (held 13);
      latitude_spans = eqb→eq ((g.posts - 1) * g.interval.latitude) 36000 (held 14);
      longitude_spans = eqb→eq ((g.columns - 1) * g.interval.longitude) 36000 (held 15);
    }

abbrev all_ranged : Bool
all_ranged = all_below (λ (l : ℕ). all_below (λ (e : ℕ). every (tests (grid_of l e))) 90) 3

all_ranged_lem : T all_ranged
unfolding grid_of cell_bytes columns_of longitude_interval posts_of latitude_interval factor_of factor_among
all_ranged_lem = tt

pub ranged : (level edge : ℕ) → level < 3 → edge < 90 → Ranged (grid_of level edge)
ranged level edge hl he =
    by_tests (grid_of level edge)
    (below (λ (e : ℕ). every (tests (grid_of level e))) 90
    (below (λ (l : ℕ). all_below (λ (e : ℕ). every (tests (grid_of l e))) 90) 3 all_ranged_lem level hl) edge he)

-- the grid, written out from the zone's factor and the latitude interval
abbrev pub grid_by : ℕ → ℕ → ℕ → Grid
grid_by level factor latitude = record {
  level = level;
  factor = factor;
  interval = record { latitude = latitude; longitude = latitude * factor };
  columns = 36000 / (latitude * factor) + 1;
  posts = 36000 / latitude + 1;
  bytes = record {
    column = column_bytes (36000 / latitude + 1);
    cell = header_bytes + (36000 / (latitude * factor) + 1) * column_bytes (36000 / latitude + 1);
  };
}

pub grid_by_lem : (level edge factor latitude : ℕ) → factor ≡ factor_of edge → latitude ≡ latitude_interval level
    → grid_by level factor latitude ≡ grid_of level edge
unfolding grid_of cell_bytes columns_of longitude_interval posts_of
grid_by_lem level edge factor latitude f l = rw (f, l)

-- the greatest number of columns, of the greatest length
most_bytes : (columns column : ℕ) → columns ≤ 3601 → column ≤ 7214 → columns * column ≤ 3601 * 7214
most_bytes columns column h k = mul-le-mul h k

pub columns_fit : {columns column : ℕ} → columns ≤ 3601 → column ≤ 7214 → Fits w64 (columns * column)
columns_fit {columns} {column} h k = omega (arith, most_bytes columns column h k)

pub cell_fits : {columns column : ℕ} → columns ≤ 3601 → column ≤ 7214 → Fits w64 (header_bytes + columns * column)
cell_fits {columns} {column} h k = omega (arith, most_bytes columns column h k)

pub laid_in : (level edge : ℕ) → level < 3 → edge < 90 → laid level edge ≡ Ok (grid_of level edge)
unfolding laid
laid_in level edge hl he = rw (lt-ltb level 3 hl, lt-ltb edge 90 he)

out_by : (a b : Bool) (due g : Grid) → pick a (pick b (Ok due) (Err none.Zone)) (Err none.Level) ≡ Ok g → (a ≡ true) × ((b ≡ true) × (g ≡ due))
out_by true true due g out = (refl, (refl, cc))
out_by true false due g out = (refl, (cc, cc))
out_by false b due g out = (cc, (cc, cc))

-- what is laid out is the grid of a level and an edge that there are
pub laid_out : (level edge : ℕ) (g : Grid) → laid level edge ≡ Ok g → (level < 3) × ((edge < 90) × (g ≡ grid_of level edge))
unfolding laid
laid_out level edge g out =
    let facts = out_by (ltb level 3) (ltb edge 90) (grid_of level edge) g out in
    (ltb-true level 3 facts.0, (ltb-true edge 90 facts.1.0, facts.1.1))
