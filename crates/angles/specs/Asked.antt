-- What functions of this crate ask of their callers.
use Rattle.std.specs.Prelude.{ℕ, ◌<◌, ◌≤◌}
use Rattle.angles.specs.declared.Axis.{Axis}

-- degrees of three digits, on an axis of at most 180 degrees to a side
pub record FewDegrees (axis : Axis) (degrees : ℕ) : Type 0 where
  pub most : axis.most ≤ 180
  pub few : degrees < 1000
