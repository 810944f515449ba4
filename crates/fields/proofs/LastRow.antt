-- The last arm of a match on the rows: a number below k + 1 that is none of the first k is k.
use Prim.Native.Nat.{ℕ, zero, suc, ◌<◌, ◌≤◌}
use native.Mathlib.Omega.{arith}
use mathlib.Core.Path.{◌≡◌}

abbrev pub NoneBelow : ℕ → ℕ → Type 0
NoneBelow x zero = Unit
NoneBelow x (suc k) = NoneBelow x k × (x ≡ k → ⊥)

past : (x k : ℕ) → NoneBelow x k → k ≤ x
past x zero none = omega arith
past x (suc k) none =
    let low = past x k none.0 in
    let other = none.1 in
    omega arith

pub last : (x k : ℕ) → NoneBelow x k → x < suc k → k ≡ x
last x k none high = let low = past x k none in omega arith
