-- What functions of this crate ask of their callers.
use Rattle.std.specs.Prelude.{ℕ, suc, ◌+◌, ◌<◌, ◌≡◌, List, length}
use Rattle.fields.specs.declared.Due.{Due}
use Rattle.due.specs.Due.{form_of, due_width}
use Rattle.due.specs.declared.Basis.{Basis}
use Rattle.due.specs.declared.due_angles.DueAngle.{DueAngle}

-- degrees from 90 S and from 180 W at which a cell has its origin
pub record OriginInRange (north east : ℕ) : Type 0 where
  pub latitude : north < 180
  pub longitude : east < 360

-- a field as wide as an angle's text
pub record AngleField (b : DueAngle) (field : List ℕ) : Type 0 where
  pub wide : length field ≡ suc ((form_of b).digits + length (form_of b).zeros)

-- a field as wide as what is due in it, of a cell whose origin is in range
pub record DueField (d : Due) (b : Basis) (field : List ℕ) : Type 0 where
  pub wide : length field ≡ due_width d
  pub origin : OriginInRange b.latitude b.longitude
