-- What functions of this crate ask of their callers.
use Rattle.std.specs.Prelude.{ℕ, ◌+◌, ◌≤◌, List, length}
use Rattle.layout.specs.Grid.{header_bytes}
use Rattle.angles.specs.declared.Axis.{Axis}
use Rattle.angles.specs.Asked.{FewDegrees}
use Rattle.fields.specs.declared.Kind.{Kind}
use Rattle.rules.specs.Asked.{FieldOfKind}
use Rattle.due.specs.declared.Basis.{Basis}

-- degrees of three digits, and the first edge of an axis, at its start or a degree further
pub record EdgeNamed (axis : Axis) (first degrees : ℕ) : Type 0 where
  pub few : FewDegrees axis degrees
  pub one : first ≤ 1

-- a field as wide as its kind, within the headers
pub record BrokenField (kind : Kind) (b : Basis) (at : ℕ) (field : List ℕ) : Type 0 where
  pub of_kind : FieldOfKind kind b field
  pub within : at + length field ≤ header_bytes
