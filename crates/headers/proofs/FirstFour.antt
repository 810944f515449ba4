-- The first four rules need nothing due, and fix a level, an origin and a grid within their ranges.
use Rattle.std.specs.Prelude.{Ok}
use Prim.Native.Nat.{ℕ, zero, suc, ◌<◌}
use native.Mathlib.Omega.{arith}
use mathlib.Core.Path.{◌≡◌, refl}
use mathlib.Core.Bool.{Bool, true, false}
use mathlib.Core.List.{List}
use lib.Dec.{lit<}
use lib.ListN.{take, drop}
use borrow.Author.Tests.{eqb-false}
use Rattle.octets.specs.Choice.{pick}
use Rattle.octets.specs.Texts.{ascii, has}
use Rattle.octets.proofs.DigitLaws.{decimal_below}
use Rattle.octets.proofs.ChoiceLaws.{both_true}
use Rattle.layout.specs.Grid.{grid_of}
use Rattle.layout.specs.Ranges.{Ranged}
use Rattle.layout.proofs.Ranges.{ranged}
use Rattle.rules.proofs.GridNumbers.{number_small}
use Rattle.angles.specs.Angles.{northward, eastward, is_angle, degrees_in, letter_in, is_origin}
use Rattle.layout.specs.Zones.{edge_of}
use Rattle.headers.specs.Basis.{origin_at, latitude_in, longitude_in, level_at, basis_in}
use Rattle.due.specs.Due.{nothing, number_of, due_text}
use Rattle.fields.specs.declared.Number.{Number}
use Rattle.fields.specs.declared.Number.TheVariants as number
use Rattle.faults.specs.Place.{wrong_at}
use Rattle.rules.specs.Rules.{origin_form, item_holds, due_holds, holds}
use Rattle.rules.specs.Asked.{BasisInRange}
use Rattle.fields.specs.Table.{bytes_in, field_at, place_of}
use Rattle.fields.specs.declared.Item.TheVariants.{Level, Latitude, Longitude, Partial}
use Rattle.headers.specs.Judged.{keeps, facts_in, judged, Follows}
use Rattle.angles.specs.declared.Axis.{Axis}
use Rattle.angles.proofs.AngleTexts.{origin_below}
use Rattle.due.specs.declared.Basis.{Basis}
use Rattle.headers.specs.declared.Facts.{Facts}
use Rattle.layout.proofs.NearEdges.{edge_below}
use Rattle.headers.proofs.Exactly.{good_follows}

-- whatever is due, they are kept, and named where they break, alike
pub rule_alike : (d e : Basis) (i : ℕ) → i < 4 → (u : List ℕ) → holds (field_at i).2 d u ≡ holds (field_at i).2 e u
unfolding item_holds due_holds
rule_alike d e zero h u = refl
rule_alike d e (suc zero) h u = refl
rule_alike d e (suc (suc zero)) h u = refl
rule_alike d e (suc (suc (suc zero))) h u = refl
rule_alike d e (suc (suc (suc (suc i)))) h u = absurd (omega arith)

pub wrong_alike : (d e : Basis) (i : ℕ) → i < 4 → (u : List ℕ) → wrong_at (field_at i).2 d u ≡ wrong_at (field_at i).2 e u
unfolding due_text
wrong_alike d e zero h u = refl
wrong_alike d e (suc zero) h u = refl
wrong_alike d e (suc (suc zero)) h u = refl
wrong_alike d e (suc (suc (suc zero))) h u = refl
wrong_alike d e (suc (suc (suc (suc i)))) h u = absurd (omega arith)

pub nothing_due : (s : List ℕ) (d e : Basis) (i : ℕ) → i < 4 → keeps s d (field_at i) ≡ keeps s e (field_at i)
nothing_due s d e i h = rule_alike d e i h (bytes_in s (field_at i))

-- so the code passes this for what is due, which is in range
nothing_small : (n : Number) → number_of n nothing.grid < 10000
nothing_small number.LatitudeInterval = lit< tt
nothing_small number.LongitudeInterval = lit< tt
nothing_small number.Columns = lit< tt
nothing_small number.Posts = lit< tt

pub nothing_ranged : BasisInRange nothing
nothing_ranged = record { origin = record { latitude = lit< tt; longitude = lit< tt }; level = lit< tt; numbers = nothing_small }

-- there are three levels
third : (a b : Bool) → pick a 0 (pick b 1 2) < 3
third true b = lit< tt
third false true = lit< tt
third false false = lit< tt

pub level_below : (s : List ℕ) → level_at s < 3
unfolding level_at
level_below s = third (has s (place_of Level) (ascii "0300")) (has s (place_of Level) (ascii "0030"))

abbrev rules_of : Axis → List ℕ → Bool
rules_of a t = is_origin a (degrees_in origin_form t) (letter_in origin_form t)

-- what the first four rules fix
pub record Fixed (s : List ℕ) : Type 0 where
  pub level : level_at s < 3
  pub latitude : latitude_in s < 180
  pub longitude : longitude_in s < 360

pub fixed : (s : List ℕ) (d : Basis) → ((i : ℕ) → i < 4 → keeps s d (field_at i) ≡ true) → Fixed s
unfolding item_holds origin_at
fixed s d kept =
    let east = take 8 (drop (place_of Longitude) s) in
    let north = take 8 (drop (place_of Latitude) s) in
    record {
      level = level_below s;
      latitude =
          origin_below northward (degrees_in origin_form north) (letter_in origin_form north) (λ q. eqb-false 78 83 refl q)
          (both_true (is_angle origin_form north) (rules_of northward north) (kept 2 (omega arith))).1;
      longitude =
          origin_below eastward (degrees_in origin_form east) (letter_in origin_form east) (λ q. eqb-false 69 87 refl q)
          (both_true (is_angle origin_form east) (rules_of eastward east) (kept 1 (omega arith))).1;
    }

-- and so the grid is within its ranges
pub grid_ranged : (s : List ℕ) → latitude_in s < 180 → Ranged (basis_in s).grid
unfolding basis_in
grid_ranged s h = ranged (level_at s) (edge_of (latitude_in s)) (level_below s) (edge_below (latitude_in s) h)

-- and what is due by them
pub basis_within : (s : List ℕ) → Fixed s → BasisInRange (basis_in s)
unfolding basis_in
basis_within s f =
    let grid = grid_ranged s f.latitude in
    record {
      origin = record { latitude = f.latitude; longitude = f.longitude };
      level = grid.level;
      numbers = number_small (basis_in s).grid grid;
    }

pub follows_fixed : (s : List ℕ) → Follows s → Fixed s
follows_fixed s f = fixed s (basis_in s) (λ i h. f.1 i (omega arith))

-- the facts of good headers
pub record GoodFacts (s : List ℕ) (f : Facts) : Type 0 where
  pub grid : Ranged f.grid
  pub latitude : f.latitude < 180
  pub longitude : f.longitude < 360
  pub partial : f.partial < 100
  pub laid : f.grid ≡ grid_of (level_at s) (edge_of f.latitude)

facts_within : (s : List ℕ) → Fixed s → GoodFacts s (facts_in s)
unfolding facts_in basis_in
facts_within s f = record {
  grid = grid_ranged s f.latitude;
  latitude = f.latitude;
  longitude = f.longitude;
  partial = decimal_below s (place_of Partial) 2;
  laid = refl;
}

pub good_facts : (s : List ℕ) (f : Facts) → judged s ≡ Ok f → GoodFacts s f
good_facts s f e =
    let g = good_follows s f e in
    rw g.1 (facts_within s (follows_fixed s g.0))
