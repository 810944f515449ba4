-- What functions of this crate ask of their callers.
use Rattle.std.specs.Prelude.{ℕ, ◌<◌}

-- one of the three levels, and a near edge that a cell has
pub record HasGrid (l e : ℕ) : Type 0 where
  pub level : l < 3
  pub edge : e < 90
