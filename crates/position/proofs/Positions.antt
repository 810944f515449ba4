-- Positions: along an axis by its sign, and that what is left is small.
use Rattle.std.specs.Prelude.{Option, Some, None}
use Prim.Native.Nat.{ℕ, ◌+◌, ◌-◌, ◌*◌, ◌/◌, ◌%◌, ◌≤◌, ◌<◌}
use native.Mathlib.Nat.{div-le_self, mod-le}
use native.Mathlib.Omega.{arith}
use mathlib.Core.Path.{◌≡◌, refl}
use mathlib.Core.Bool.{Bool, true, false}
use lib.Dec.{leb, ltb}
use lib.IntN.{ℤ, pos, negsuc}
use borrow.Author.Tests.{le-leb, lt-ltb, leb-true}
use Rattle.octets.specs.Choice.{pick}
use Rattle.headers.specs.declared.Facts.{Facts}
use Rattle.layout.specs.Levels.{degree}
use Rattle.position.specs.Asked.{Passed}
use Rattle.position.specs.Position.{along_axis, from_corner, in_cell, corner_at, south_west}
use Rattle.position.specs.declared.Corner.{Corner}

module _ (half : ℕ) (z : ℤ) (n : ℕ) where
  pub below_on : z ≡ negsuc n → n < half → Some (half - (n + 1)) ≡ along_axis half z
  below_on e h = rw (e, lt-ltb n half h)

  pub above_on : z ≡ pos n → n ≤ half → Some (half + n) ≡ along_axis half z
  above_on e h = rw (e, le-leb n half h)

-- a choice that was taken says that its test passed
picked : (b : Bool) (a t : ℕ) → pick b (Some a) None ≡ Some t → (b ≡ true) × (a ≡ t)
picked true a t e = (refl, cc)
picked false a t e = let clash : ◌≡◌ {A = ℕ} 0 1 = cc in absurd (omega arith)

-- a position lies within the axis
pub along_high : (half : ℕ) (z : ℤ) (t : ℕ) → along_axis half z ≡ Some t → t ≤ half + half
along_high half (pos n) t e = let q = picked (leb n half) (half + n) t e in omega (arith, leb-true n half q.0, q.1)
along_high half (negsuc n) t e = let q = picked (ltb n half) (half - (n + 1)) t e in omega (arith, q.1)

-- and within the cell's degree
pub offset_high : (degrees : ℕ) (a : Option ℕ) (o : ℕ) → in_cell degrees a ≡ Some o → o ≤ 36000
offset_high degrees (Some t) o e =
    let q = picked (leb (from_corner degrees t) degree) (from_corner degrees t) o e in omega (arith, leb-true (from_corner degrees t) degree q.0, q.1)
offset_high degrees None o e = let clash : ◌≡◌ {A = ℕ} 0 1 = cc in absurd (omega arith)

-- what is found of a corner is small
pub record Small (k : Corner) : Type 0 where
  pub columns : Passed k.column k.east
  pub posts : Passed k.post k.north

passed : (o d : ℕ) → o ≤ 36000 → Passed (o / d) (o % d)
passed o d h = record { steps = omega (arith, div-le_self o d); rest = omega (arith, mod-le o d) }

corner_by : (f : Facts) (a b : Option ℕ) (k : Corner) → ((o : ℕ) → a ≡ Some o → o ≤ 36000) → ((o : ℕ) → b ≡ Some o → o ≤ 36000)
    → corner_at f a b ≡ Some k → Small k
corner_by f (Some n) (Some e) k ha hb q =
    let dy = f.grid.interval.latitude in
    let dx = f.grid.interval.longitude in
    let same : ◌≡◌ {A = Corner} (record { column = e / dx; post = n / dy; east = e % dx; north = n % dy }) k = cc in
    rw (← same) (record { columns = passed e dx (hb e refl); posts = passed n dy (ha n refl) })
corner_by f (Some n) None k ha hb q = let clash : ◌≡◌ {A = ℕ} 0 1 = cc in absurd (omega arith)
corner_by f None b k ha hb q = let clash : ◌≡◌ {A = ℕ} 0 1 = cc in absurd (omega arith)

pub corner_small : (f : Facts) (latitude longitude : ℤ) (k : Corner) → south_west f latitude longitude ≡ Some k → Small k
unfolding south_west
corner_small f latitude longitude k =
    corner_by f (in_cell f.latitude (along_axis (90 * degree) latitude)) (in_cell f.longitude (along_axis (180 * degree) longitude)) k
    (offset_high f.latitude (along_axis (90 * degree) latitude))
    (offset_high f.longitude (along_axis (180 * degree) longitude))
