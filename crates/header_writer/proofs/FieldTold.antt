-- N21 to N23 in the scope's own words. Of the first field that breaks its rule, 21 is told exactly where no accepted header has these bytes in
-- that field; 23 exactly where one has, and the field holds an interval or a count; 22 exactly where one has, and it does not.
use Rattle.std.specs.Prelude.{Err}
use Prim.Native.Nat.{ℕ, ◌+◌, ◌≤◌}
use native.Mathlib.Omega.{arith}
use mathlib.Core.Path.{◌≡◌, refl, sym, ap, ◌∙◌}
use mathlib.Core.List.{List}
use lib.Dec.{lit≤}
use lib.ListN.{length}
use Rattle.octets.proofs.ChoiceLaws.{clash}
use Rattle.answers.specs.Told.{numbered, number_told, place_told}
use Rattle.answers.specs.declared.Refusal.{Refusal}
use Rattle.answers.specs.declared.Refusal.TheVariants as because
use Rattle.fields.specs.Table.{bytes_in, field_at}
use Rattle.fields.specs.declared.Field.{Field}
use Rattle.fields.specs.declared.Number.{Number}
use Rattle.fields.specs.declared.Due.{Due}
use Rattle.fields.specs.declared.Due.TheVariants as due
use Rattle.fields.specs.declared.Kind.{Kind}
use Rattle.fields.specs.declared.Kind.TheVariants as kind
use Rattle.rules.specs.Rules.{holds, width_of}
use Rattle.faults.specs.Place.{wrong_at}
use Rattle.faults.specs.Fault.{due_fault, kind_fault, fault}
use Rattle.faults.proofs.Somewhere.{Decided, nowhere, off_table, contradicts, decided}
use Rattle.headers.specs.Basis.{basis_in}
use Rattle.headers.specs.Judged.{broken, judged, Stands, Impossible}
use Rattle.headers.proofs.Exactly.{First, broken_first, good_follows}
use Rattle.headers.proofs.BrokenPlace.{PlaceIn, place_told_lem}
use Rattle.headers.proofs.TableRows.{row, bytes_long}
use Rattle.header_writer.proofs.SomeHeaders.{some_stand, stands_some}

-- a field that holds an interval or a count of the level and zone table
pub record Counts (f : Field) : Type 0 where
  pub number : Number
  pub is : f.2 ≡ kind.Due (due.Number number)

-- what each of the three refusals says of a field and its bytes
pub data Meant (f : Field) (v : List ℕ) (place : ℕ) : Refusal → Type 0 where
  impossible : Impossible f v → Meant f v place (because.FieldImpossible place)
  against_table : Stands f v → Counts f → Meant f v place (because.FieldOffTable place)
  against_field : Stands f v → (Counts f → ⊥) → Meant f v place (because.FieldContradicts place)

module _ (s : List ℕ) (i : ℕ) (f : First s i) where
  abbrev field : List ℕ
  field = bytes_in s (field_at i)

  abbrev place : ℕ
  place = (field_at i).0 + wrong_at (field_at i).2 (basis_in s) field

  wide : length field ≡ width_of (field_at i).2
  wide = bytes_long s (field_at i) (omega (arith, (row i f.below).within, f.long)) ∙ (row i f.below).wide

  -- by the kind of the field
  by_due : (k : Due) → (field_at i).2 ≡ kind.Due k → (r : Refusal) → Decided k field place r → Meant (field_at i) field place r
  by_due k is _ (nowhere none) = impossible (λ w. none (stands_some i f.below k is field w))
  by_due k is _ (off_table w n q) = against_table (some_stand i f.below k is field (wide ∙ ap width_of is) w) (record { number = n; is = is ∙ ap kind.Due q })
  by_due k is _ (contradicts w other) =
      against_field (some_stand i f.below k is field (wide ∙ ap width_of is) w) (λ c. other c.number (of_due (sym is ∙ c.is)))
    where
      of_due : {a b : Due} → kind.Due a ≡ kind.Due b → a ≡ b
      of_due e = cc

  by_kind : (k : Kind) → (field_at i).2 ≡ k → Meant (field_at i) field place (kind_fault k place field)
  by_kind (kind.Item x) is =
      impossible (λ w.
      let kept = (good_follows w.headers w.facts w.accepted).0.1 i f.below in
      clash (sym (λ q. holds (is q) (basis_in w.headers) (w.there q)) ∙ kept) (sym (λ q. holds (is q) (basis_in s) field) ∙ f.breaks))
  by_kind (kind.Due k) is = by_due k is (due_fault k place field) (decided field place k (basis_in s) (sym (λ q. holds (is q) (basis_in s) field) ∙ f.breaks))

  pub field_meant : Meant (field_at i) field place (broken s (basis_in s) (field_at i))
  unfolding fault
  field_meant = by_kind (field_at i).2 refl

-- one of the three, and each exactly then
pub record NumberExactly (f : Field) (v : List ℕ) (number : ℕ) : Type 0 where
  pub low : 21 ≤ number
  pub high : number ≤ 23
  pub only_21 : number ≡ 21 → Impossible f v
  pub then_21 : Impossible f v → number ≡ 21
  pub only_22 : number ≡ 22 → Stands f v × (Counts f → ⊥)
  pub then_22 : Stands f v → (Counts f → ⊥) → number ≡ 22
  pub only_23 : number ≡ 23 → Stands f v × Counts f
  pub then_23 : Stands f v → Counts f → number ≡ 23

number_of : (f : Field) (v : List ℕ) (place : ℕ) (r : Refusal) → Meant f v place r → NumberExactly f v (number_told (numbered r))
number_of f v place _ (impossible none) = record {
  low = lit≤ tt;
  high = lit≤ tt;
  only_21 = λ e. none;
  then_21 = λ h. refl;
  only_22 = λ e. absurd (omega arith);
  then_22 = λ w c. absurd (none w);
  only_23 = λ e. absurd (omega arith);
  then_23 = λ w c. absurd (none w);
}
number_of f v place _ (against_field w none) = record {
  low = lit≤ tt;
  high = lit≤ tt;
  only_21 = λ e. absurd (omega arith);
  then_21 = λ h. absurd (h w);
  only_22 = λ e. (w, none);
  then_22 = λ x c. refl;
  only_23 = λ e. absurd (omega arith);
  then_23 = λ x c. absurd (none c);
}
number_of f v place _ (against_table w counts) = record {
  low = lit≤ tt;
  high = lit≤ tt;
  only_21 = λ e. absurd (omega arith);
  then_21 = λ h. absurd (h w);
  only_22 = λ e. absurd (omega arith);
  then_22 = λ x c. absurd (c counts);
  only_23 = λ e. (w, counts);
  then_23 = λ x c. refl;
}

-- N21 to N23, both ways
pub number_told_lem : (s : List ℕ) (i : ℕ) → First s i → NumberExactly (field_at i) (bytes_in s (field_at i)) (number_told (numbered (broken s (basis_in s) (field_at i))))
number_told_lem s i f = number_of (field_at i) (bytes_in s (field_at i)) (place s i f) (broken s (basis_in s) (field_at i)) (field_meant s i f)

-- Headers that are there whole and are refused have a first field that breaks its rule; the place lies in that field, and the number
-- is 21, 22 or 23 exactly as the scope says.
pub record HeadersTold (s : List ℕ) (r : Refusal) : Type 0 where
  pub row : ℕ
  pub first : First s row
  pub place : PlaceIn s row (place_told (numbered r))
  pub number : NumberExactly (field_at row) (bytes_in s (field_at row)) (number_told (numbered r))

pub headers_told : (s : List ℕ) (r : Refusal) → 3428 ≤ length s → judged s ≡ Err r → HeadersTold s r
headers_told s r long e =
    let b = broken_first s r long e in
    let i = b.row in
    let f = b.first in
    rw b.is (record {
      row = i;
      first = f;
      place = place_told_lem s i f;
      number = number_told_lem s i f;
    })
