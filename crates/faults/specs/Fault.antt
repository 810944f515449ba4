-- What a field that breaks its rule is refused as (rules N21 to N23).
use Rattle.std.specs.Prelude.{ℕ, ◌+◌, List}
use Rattle.octets.specs.Choice.{pick}
use Rattle.answers.specs.declared.Refusal.{Refusal}
use Rattle.answers.specs.declared.Refusal.TheVariants as because
use Rattle.fields.specs.declared.Due.{Due}
use Rattle.fields.specs.declared.Due.TheVariants as due
use Rattle.fields.specs.declared.Kind.{Kind}
use Rattle.fields.specs.declared.Kind.TheVariants as kind
use Rattle.due.specs.declared.Basis.{Basis}
use Rattle.faults.specs.Ever.{is_some_number, is_some_angle, is_some_letter, is_some_series}
use Rattle.faults.specs.Place.{wrong_at}

-- N22, N23: bytes that another header may have there go against the table, or against another field; N21: any others are
-- impossible. A fixed text is the same in every header
abbrev pub due_fault : Due → ℕ → List ℕ → Refusal
due_fault (due.Text x) place t = because.FieldImpossible place
due_fault (due.Number n) place t = pick (is_some_number n t) (because.FieldOffTable place) (because.FieldImpossible place)
due_fault (due.Angle a) place t = pick (is_some_angle a t) (because.FieldContradicts place) (because.FieldImpossible place)
due_fault due.Letter place t = pick (is_some_letter t) (because.FieldContradicts place) (because.FieldImpossible place)
due_fault due.Series place t = pick (is_some_series t) (because.FieldContradicts place) (because.FieldImpossible place)

-- what an item's field may hold hangs on no other field
abbrev pub kind_fault : Kind → ℕ → List ℕ → Refusal
kind_fault (kind.Item i) place t = because.FieldImpossible place
kind_fault (kind.Due d) place t = due_fault d place t

-- the refusal of a field of this kind, at this offset and with these bytes
unfoldable pub fault : Kind → Basis → ℕ → List ℕ → Refusal
fault k b at t = kind_fault k (at + wrong_at k b t) t
