-- What functions of this crate ask of their callers.
use Rattle.std.specs.Prelude.{ℕ, ◌-◌, ◌<◌, ◌≤◌, ◌≡◌, Bool, true, List, ℤ, pos, neg_ℤ}
use Rattle.octets.specs.Ranges.{between}
use Rattle.host_items.specs.Items.{item}

-- there is an item of this index, and it passes a test
pub record ItemThat (passes : ℤ → Bool) (items : List ℤ) (i : ℕ) : Type 0 where
  pub there : i < 13
  pub passed : passes (item items i) ≡ true

-- there is an item of this index, and it is degrees on an axis that has so many to a side
pub record ItemOnAxis (items : List ℤ) (i side : ℕ) : Type 0 where
  pub there : i < 13
  pub positive : 0 < side
  pub most : side ≤ 180
  pub degrees : between (neg_ℤ (pos side)) (pos (side - 1)) (item items i) ≡ true

-- degrees from an axis' end, and how many the axis has to a side, both small
pub record SmallDegrees (a s : ℕ) : Type 0 where
  pub angle : a < 1000
  pub side : s < 1000
