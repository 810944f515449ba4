-- A latitude that is counted from 90 S lays out what the signed one does (rule Z1).
use Prim.Native.Nat.{ℕ, ◌≤◌}
use native.Mathlib.Omega.{arith}
use mathlib.Core.Path.{◌≡◌, refl, ap, ◌∙◌}
use mathlib.Core.Bool.{Bool, true, false}
use lib.IntN.{ℤ, pos, negsuc, neg_ℤ, ◌+ℤ◌}
use borrow.Author.Tests.{le-leb, le-ltb}
use Rattle.octets.specs.Choice.{pick, both}
use Rattle.octets.specs.Ranges.{between}
use Rattle.octets.proofs.ChoiceLaws.{by_test, by_order, clash}
use Rattle.layout.specs.Grid.{laid}
use Rattle.layout.specs.Zones.{near_edge, edge_of}
use Rattle.layout.proofs.NearEdges.{edge_is_near}
use Rattle.host_items.specs.Items.{counted}
use Rattle.host_items.proofs.NumberRanges.{angled}
use Rattle.dted.specs.Grid.{from_south}

-- whether a cell begins at this latitude
abbrev begins : ℤ → Bool
begins z = between (neg_ℤ (pos 90)) (pos 89) z

pub south_in : (z : ℤ) → begins z ≡ true → from_south z ≡ counted (z +ℤ pos 90)
unfolding from_south
south_in z e = ap (λ (b : Bool). pick b (counted (z +ℤ pos 90)) 180) e

pub south_out : (z : ℤ) → begins z ≡ false → from_south z ≡ 180
unfolding from_south
south_out z e = ap (λ (b : Bool). pick b (counted (z +ℤ pos 90)) 180) e

same_edge : (z : ℤ) → begins z ≡ true → edge_of (from_south z) ≡ near_edge z
same_edge z e =
    let a = angled 90 z (omega arith) e in
    ap edge_of (south_in z e ∙ ap counted a.up) ∙ edge_is_near a.size ∙ ap near_edge a.back

-- where no cell begins, the near edge is in no zone
past_zones : (z : ℤ) → begins z ≡ false → 90 ≤ near_edge z
unfolding near_edge
past_zones (pos a) e = by_order a 89 (λ h. clash (le-leb a 89 h) e) (λ h. omega arith)
past_zones (negsuc n) e = by_order n 89 (λ h. clash (ap (λ (b : Bool). both b true) (le-leb n 89 h)) e) (λ h. omega arith)

no_zone : (level edge : ℕ) → 90 ≤ edge → laid level 90 ≡ laid level edge
unfolding laid
no_zone level edge h = rw (le-ltb edge 90 h)

at_pole : (level : ℕ) → laid level (edge_of 180) ≡ laid level 90
unfolding edge_of
at_pole level = refl

pub laid_alike : (level : ℕ) (z : ℤ) → laid level (edge_of (from_south z)) ≡ laid level (near_edge z)
laid_alike level z =
    by_test (begins z)
    (λ e. ap (laid level) (same_edge z e))
    (λ e. ap (λ (s : ℕ). laid level (edge_of s)) (south_out z e) ∙ at_pole level ∙ no_zone level (near_edge z) (past_zones z e))
