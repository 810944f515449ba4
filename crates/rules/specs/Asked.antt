-- What functions of this crate ask of their callers.
use Rattle.std.specs.Prelude.{ℕ, ◌<◌, ◌≡◌, List, length}
use Rattle.fields.specs.declared.Number.{Number}
use Rattle.fields.specs.declared.Due.{Due}
use Rattle.fields.specs.declared.Kind.{Kind}
use Rattle.due.specs.Asked.{OriginInRange}
use Rattle.due.specs.Due.{number_of, due_width}
use Rattle.due.specs.declared.Basis.{Basis}
use Rattle.rules.specs.Rules.{width_of}

-- an origin in range, one of the three levels, and numbers of four digits
pub record BasisInRange (b : Basis) : Type 0 where
  pub origin : OriginInRange b.latitude b.longitude
  pub level : b.grid.level < 3
  pub numbers : (n : Number) → number_of n b.grid < 10000

-- a field as wide as what is due in it, by such a basis
pub record DueInRange (d : Due) (b : Basis) (field : List ℕ) : Type 0 where
  pub wide : length field ≡ due_width d
  pub basis : BasisInRange b

-- a field as wide as its kind, and such a basis
pub record FieldOfKind (kind : Kind) (b : Basis) (field : List ℕ) : Type 0 where
  pub wide : length field ≡ width_of kind
  pub basis : BasisInRange b
