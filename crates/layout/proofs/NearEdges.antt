-- The near edge, of a latitude counted from 90 S, is that of the signed latitude (rule Z1).
use Prim.Native.Nat.{ℕ, ◌<◌}
use native.Mathlib.Omega.{arith}
use mathlib.Core.Path.{◌≡◌}
use mathlib.Core.Bool.{Bool}
use lib.Dec.{ltb}
use lib.IntN.{pos, ◌-ℤ◌}
use borrow.Author.Tests.{le-leb, lt-leb, lt-ltb, le-ltb, ltb-true}
use Rattle.octets.proofs.ChoiceLaws.{by_order}
use Rattle.octets.proofs.TestLaws.{below, passes}
use Rattle.layout.specs.Zones.{near_edge, edge_of, last_edge}

pub edge_is_near : (latitude : ℕ) → edge_of latitude ≡ near_edge (pos latitude -ℤ pos 90)
unfolding edge_of near_edge
edge_is_near latitude =
    by_order 90 latitude
    (λ h. rw (le-leb 90 latitude h, le-ltb latitude 90 h))
    (λ h. rw (lt-leb 90 latitude h, lt-ltb latitude 90 h) (omega arith))

-- the near edge of a cell lies in a zone
pub edge_below : (latitude : ℕ) → latitude < 180 → edge_of latitude < 90
unfolding edge_of
edge_below latitude h =
    by_order 90 latitude
    (λ k. rw (le-leb 90 latitude k) (omega arith))
    (λ k. rw (lt-leb 90 latitude k) (omega arith))

-- and so does the last one of each
last_test : ℕ → Bool
last_test zone = ltb (last_edge zone) 90

pub last_below : (zone : ℕ) → zone < 5 → last_edge zone < 90
unfolding last_test
last_below zone h = ltb-true (last_edge zone) 90 (passes (last_test zone) (below last_test 5 tt zone h))
