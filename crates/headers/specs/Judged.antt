-- How headers are judged: 1, then the refusal of the first field that breaks its rule (rules N1, N21 to N23).
use Rattle.std.specs.Prelude.{ℕ, ◌<◌, ◌≤◌, ◌≡◌, Bool, true, not, List, [], ◌∷◌, length, eqb, ltb, Result, Ok, Err}
use Rattle.octets.specs.Choice.{pick, both}
use Rattle.octets.specs.Digits.{decimal_at}
use Rattle.octets.specs.Numbers.{Bytes}
use Rattle.answers.specs.declared.Refusal.{Refusal}
use Rattle.answers.specs.declared.Refusal.TheVariants as because
use Rattle.years.specs.declared.Year.{Year}
use Rattle.years.specs.declared.Year.TheVariants.{One, Two}
use Rattle.layout.specs.Grid.{header_bytes}
use Rattle.layout.specs.declared.Frame.{Frame}
use Rattle.fields.specs.Table.{fields, bytes_in, field_at, place_of}
use Rattle.fields.specs.declared.Item.TheVariants.{Partial}
use Rattle.headers.specs.Basis.{basis_in}
use Rattle.rules.specs.Rules.{holds}
use Rattle.faults.specs.Fault.{fault}
use Rattle.due.specs.declared.Basis.{Basis}
use Rattle.headers.specs.declared.Facts.{Facts}
use Rattle.fields.specs.declared.Field.{Field}

-- a field keeps its rule
abbrev pub keeps : List ℕ → Basis → Field → Bool
keeps s b f = holds f.2 b (bytes_in s f)

-- N21 to N23: the refusal of a field that does not. Number and place of a broken rule are chosen here alone
abbrev pub broken : List ℕ → Basis → Field → Refusal
broken s b f = fault f.2 b f.0 (bytes_in s f)

-- the facts of headers that keep every rule
unfoldable pub facts_in : List ℕ → Facts
facts_in s = record {
  grid = (basis_in s).grid;
  latitude = (basis_in s).latitude;
  longitude = (basis_in s).longitude;
  partial = decimal_at s (place_of Partial) 2;
}

-- the first field that breaks its rule
unfoldable pub judged_by : List ℕ → Basis → List Field → Result Facts Refusal
judged_by s b [] = Ok (facts_in s)
judged_by s b (f ∷ fs) = pick (keeps s b f) (judged_by s b fs) (Err (broken s b f))

unfoldable pub judged : List ℕ → Result Facts Refusal
judged s = pick (ltb (length s) header_bytes) (Err (because.Short (length s))) (judged_by s (basis_in s) fields)

-- the headers follow every rule
abbrev pub Follows : List ℕ → Type 0
Follows s = (header_bytes ≤ length s) × ((i : ℕ) → i < length fields → keeps s (basis_in s) (field_at i) ≡ true)

-- N21: bytes that are accepted as headers and have these ones in a field. Those are impossible there where there are none such
pub record Stands (f : Field) (v : List ℕ) : Type 0 where
  pub headers : List ℕ
  pub bytes : Bytes headers
  pub facts : Facts
  pub accepted : judged headers ≡ Ok facts
  pub there : bytes_in headers f ≡ v

abbrev pub Impossible : Field → List ℕ → Type 0
Impossible f v = Stands f v → ⊥

-- H34: the headers call the cell partial
abbrev pub is_partial : Facts → Bool
is_partial facts = not (eqb facts.partial 0)

-- V1: where a cell may hold voids, by the rules of a year
abbrev pub voids_allowed : Year → Facts → Bool
voids_allowed One facts = is_partial facts
voids_allowed Two facts = both (is_partial facts) (eqb facts.grid.level 2)

-- the frame that headers give under a year: what columns, lookups, edits and writers know of both
abbrev pub frame_of : Year → Facts → Frame
frame_of year facts = record { grid = facts.grid; voids = voids_allowed year facts }

abbrev pub frame_in : Year → List ℕ → Frame
frame_in year s = frame_of year (facts_in s)
