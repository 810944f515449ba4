-- What is told of a broken field: 21, 22 or 23, and the place that was found.
use Prim.Native.Nat.{ℕ, ◌+◌, ◌≤◌}
use mathlib.Core.Path.{◌≡◌, refl}
use mathlib.Core.Bool.{Bool, true, false}
use mathlib.Core.List.{List}
use lib.Dec.{lit≤}
use Rattle.octets.specs.Choice.{pick}
use Rattle.answers.specs.Told.{numbered, number_told, place_told}
use Rattle.answers.specs.declared.Refusal.{Refusal}
use Rattle.answers.specs.declared.Refusal.TheVariants as because
use Rattle.fields.specs.declared.Due.{Due}
use Rattle.fields.specs.declared.Due.TheVariants as due
use Rattle.fields.specs.declared.Kind.{Kind}
use Rattle.fields.specs.declared.Kind.TheVariants as kind
use Rattle.due.specs.declared.Basis.{Basis}
use Rattle.faults.specs.Ever.{is_some_number, is_some_angle, is_some_letter, is_some_series}
use Rattle.faults.specs.Place.{wrong_at}
use Rattle.faults.specs.Fault.{due_fault, fault}

pub record Tells (r : Refusal) (place : ℕ) : Type 0 where
  pub low : 21 ≤ number_told (numbered r)
  pub high : number_told (numbered r) ≤ 23
  pub at : place_told (numbered r) ≡ place

module _ (place : ℕ) where
  impossible : Tells (because.FieldImpossible place) place
  impossible = record { low = lit≤ tt; high = lit≤ tt; at = refl }

  contradicts : (test : Bool) → Tells (pick test (because.FieldContradicts place) (because.FieldImpossible place)) place
  contradicts true = record { low = lit≤ tt; high = lit≤ tt; at = refl }
  contradicts false = impossible

  off_table : (test : Bool) → Tells (pick test (because.FieldOffTable place) (because.FieldImpossible place)) place
  off_table true = record { low = lit≤ tt; high = lit≤ tt; at = refl }
  off_table false = impossible

  due_tells : (d : Due) (t : List ℕ) → Tells (due_fault d place t) place
  due_tells (due.Text x) t = impossible
  due_tells (due.Number n) t = off_table (is_some_number n t)
  due_tells (due.Angle a) t = contradicts (is_some_angle a t)
  due_tells due.Letter t = contradicts (is_some_letter t)
  due_tells due.Series t = contradicts (is_some_series t)

pub fault_tells : (k : Kind) (b : Basis) (at : ℕ) (t : List ℕ) → Tells (fault k b at t) (at + wrong_at k b t)
unfolding fault
fault_tells (kind.Item i) b at t = impossible (at + 0)
fault_tells (kind.Due d) b at t = due_tells (at + wrong_at (kind.Due d) b t) d t
