-- The tests of a field's bytes alone: they hold exactly where some level, origin and letter that headers may have make those bytes due.
use Prim.Native.Nat.{ℕ, ◌+◌, ◌-◌, ◌<◌, ◌≤◌}
use native.Mathlib.Omega.{arith}
use mathlib.Core.Path.{◌≡◌, refl, sym, ap, ◌∙◌}
use mathlib.Core.Bool.{Bool, true, false}
use mathlib.Core.List.{List}
use lib.Dec.{eqb, leb, lit≤}
use lib.ListN.{get_or}
use borrow.Author.Tests.{le-leb, leb-true, eq-eqb, eqb-true, eqb-false}
use Rattle.octets.specs.Choice.{pick, both}
use Rattle.octets.specs.Digits.{digits_at, decimal_at}
use Rattle.octets.specs.Texts.{ascii, has}
use Rattle.octets.proofs.ChoiceLaws.{both_true, both_is, clash}
use Rattle.layout.specs.Grid.{grid_of}
use Rattle.layout.specs.Zones.{edge_of}
use Rattle.layout.proofs.NearEdges.{edge_below}
use Rattle.angles.specs.Angles.{Form, form, northward, eastward, is_angle, degrees_in, letter_in, is_origin, angle_of, is_same, degrees_of, letter_of, is_corner}
use Rattle.angles.specs.declared.Axis.{Axis}
use Rattle.angles.proofs.AngleTexts.{is_origin_lem, origin_below, origin_same}
use Rattle.answers.specs.declared.Refusal.{Refusal}
use Rattle.answers.specs.declared.Refusal.TheVariants as because
use Rattle.fields.specs.declared.Number.{Number}
use Rattle.fields.specs.declared.Angle.{Angle}
use Rattle.fields.specs.declared.Angle.TheVariants as angle
use Rattle.fields.specs.declared.Due.{Due}
use Rattle.fields.specs.declared.Due.TheVariants as due
use Rattle.due.specs.Due.{number_of}
use Rattle.due.specs.declared.Basis.{Basis}
use Rattle.rules.specs.Rules.{is_letter, angle_holds, due_holds}
use Rattle.rules.proofs.DueHolds.{of_grid}
use Rattle.faults.specs.Ever.{in_table, is_some_number, is_some_edge, is_some_angle, is_some_letter, is_some_series}
use Rattle.faults.specs.Fault.{due_fault}
use Rattle.faults.proofs.SomeNumbers.{in_table_lem, of_table}
use Rattle.faults.proofs.SomeEdges.{EdgeOf, edge_some, some_edge}

-- what headers make due that have this level, origin and letter
abbrev pub basis_at : ℕ → ℕ → ℕ → ℕ → Basis
basis_at level latitude longitude letter = record { grid = grid_of level (edge_of latitude); latitude = latitude; longitude = longitude; letter = letter }

-- a level, an origin and a letter by which these bytes keep the field's rule
pub record Somewhere (k : Due) (t : List ℕ) : Type 0 where
  pub level : ℕ
  pub latitude : ℕ
  pub longitude : ℕ
  pub letter : ℕ
  pub level_below : level < 3
  pub latitude_below : latitude < 180
  pub longitude_below : longitude < 360
  pub is_letter_lem : is_letter letter ≡ true
  pub holds : due_holds k (basis_at level latitude longitude letter) t ≡ true

-- a number
number_somewhere : (n : Number) (t : List ℕ) → is_some_number n t ≡ true → Somewhere (due.Number n) t
unfolding due_holds edge_of
number_somewhere n t e =
    let p = both_true (digits_at t 0 4) (in_table n (decimal_at t 0 4)) e in
    let g = of_table n (decimal_at t 0 4) p.1 in
    let north = le-leb 90 (90 + g.edge) (omega arith) in
    let back : 90 + g.edge - 90 ≡ g.edge = omega arith in
    record {
      level = g.level;
      latitude = 90 + g.edge;
      longitude = 0;
      letter = 0x55;
      level_below = g.level_below;
      latitude_below = omega (arith, g.edge_below);
      longitude_below = omega arith;
      is_letter_lem = refl;
      holds =
          rw (north, back)
          (of_grid n (grid_of g.level g.edge) t
          ∙ both_is (digits_at t 0 4) (eqb (decimal_at t 0 4) (number_of n (grid_of g.level g.edge))) p.0 (eq-eqb (decimal_at t 0 4) (number_of n (grid_of g.level g.edge)) (sym g.is)));
    }

number_some : (n : Number) (t : List ℕ) → Somewhere (due.Number n) t → is_some_number n t ≡ true
unfolding due_holds
number_some n t w =
    let v = number_of n (grid_of w.level (edge_of w.latitude)) in
    let p = both_true (digits_at t 0 4) (eqb (decimal_at t 0 4) v) (sym (of_grid n (grid_of w.level (edge_of w.latitude)) t) ∙ w.holds) in
    both_is (digits_at t 0 4) (in_table n (decimal_at t 0 4)) p.0
    (ap (in_table n) (eqb-true (decimal_at t 0 4) v p.1) ∙ in_table_lem n w.level (edge_of w.latitude) w.level_below (edge_below w.latitude w.latitude_below))

-- the two axes
north_apart : northward.minus ≡ northward.plus → ⊥
north_apart = eqb-false 0x53 0x4E refl

east_apart : eastward.minus ≡ eastward.plus → ⊥
east_apart = eqb-false 0x57 0x45 refl

-- an origin once more
module _ (f : Form) (a : Axis) (t : List ℕ) where
  abbrev degrees : ℕ
  degrees = degrees_in f t

  abbrev letter : ℕ
  letter = letter_in f t

  again_same : both (is_angle f t) (is_origin a degrees letter) ≡ true → both (is_angle f t) (is_same a (angle_of a degrees letter) degrees letter) ≡ true
  again_same e =
      let p = both_true (is_angle f t) (is_origin a degrees letter) e in
      both_is (is_angle f t) (is_same a (angle_of a degrees letter) degrees letter) p.0 (origin_same a degrees letter p.1)

  again_below : (a.plus ≡ a.minus → ⊥) → both (is_angle f t) (is_origin a degrees letter) ≡ true → angle_of a degrees letter < a.most + a.most
  again_below apart e = origin_below a degrees letter apart (both_true (is_angle f t) (is_origin a degrees letter) e).1

  again_some : (a.minus ≡ a.plus → ⊥) → (angle : ℕ) → angle < a.most + a.most → both (is_angle f t) (is_same a angle degrees letter) ≡ true
      → both (is_angle f t) (is_origin a degrees letter) ≡ true
  again_some apart angle h e =
      let p = both_true (is_angle f t) (is_same a angle degrees letter) e in
      let q = both_true (eqb degrees (degrees_of a angle)) (eqb letter (letter_of a angle)) p.1 in
      both_is (is_angle f t) (is_origin a degrees letter) p.0
      ((λ k. is_origin a (eqb-true degrees (degrees_of a angle) q.0 k) (eqb-true letter (letter_of a angle) q.1 k)) ∙ is_origin_lem a angle apart h)

  -- an edge, `first` degrees past an origin
  module _ (apart : a.minus ≡ a.plus → ⊥) (some : 1 ≤ a.most) (first : ℕ) (one : first ≤ 1) where
    edge_of_lem : both (is_angle f t) (is_some_edge a first degrees letter) ≡ true → (is_angle f t ≡ true) × EdgeOf a first degrees letter
    edge_of_lem e =
        let p = both_true (is_angle f t) (is_some_edge a first degrees letter) e in
        (p.0, some_edge a apart some first degrees letter one p.1)

    edge_is : (origin : ℕ) → origin < a.most + a.most → both (is_angle f t) (is_corner a (origin + first) degrees letter) ≡ true
        → both (is_angle f t) (is_some_edge a first degrees letter) ≡ true
    edge_is origin h e =
        let p = both_true (is_angle f t) (is_corner a (origin + first) degrees letter) e in
        both_is (is_angle f t) (is_some_edge a first degrees letter) p.0 (edge_some a apart some first degrees letter one origin h p.1)

-- by an origin alone
at_origin : (k : Due) (t : List ℕ) (latitude longitude : ℕ) → latitude < 180 → longitude < 360 → due_holds k (basis_at 0 latitude longitude 0x55) t ≡ true
    → Somewhere k t
at_origin k t latitude longitude n h e = record {
  level = 0;
  latitude = latitude;
  longitude = longitude;
  letter = 0x55;
  level_below = omega arith;
  latitude_below = n;
  longitude_below = h;
  is_letter_lem = refl;
  holds = e;
}

at_latitude : (k : Due) (t : List ℕ) (latitude : ℕ) → latitude < 180 → due_holds k (basis_at 0 latitude 0 0x55) t ≡ true → Somewhere k t
at_latitude k t latitude h = at_origin k t latitude 0 h (omega arith)

at_longitude : (k : Due) (t : List ℕ) (longitude : ℕ) → longitude < 360 → due_holds k (basis_at 0 0 longitude 0x55) t ≡ true → Somewhere k t
at_longitude k t longitude h = at_origin k t 0 longitude (omega arith) h

module _ (t : List ℕ) where
  angle_somewhere : (a : Angle) → is_some_angle a t ≡ true → Somewhere (due.Angle a) t
  unfolding is_some_angle due_holds angle_holds
  angle_somewhere angle.OriginLatitude e =
      let f = form 2 (ascii "0000.0") in
      at_latitude (due.Angle angle.OriginLatitude) t (angle_of northward (degrees_in f t) (letter_in f t))
      (again_below f northward t (λ q. north_apart (sym q)) e) (again_same f northward t e)
  angle_somewhere angle.OriginLongitude e =
      let f = form 3 (ascii "0000.0") in
      at_longitude (due.Angle angle.OriginLongitude) t (angle_of eastward (degrees_in f t) (letter_in f t))
      (again_below f eastward t (λ q. east_apart (sym q)) e) (again_same f eastward t e)
  angle_somewhere angle.South e =
      let f = form 2 (ascii "0000") in
      let w = edge_of_lem f northward t north_apart (lit≤ tt) 0 (lit≤ tt) e in
      let at : w.1.origin + 0 ≡ w.1.origin = omega arith in
      at_latitude (due.Angle angle.South) t w.1.origin w.1.below
      (both_is (is_angle f t) (is_corner northward w.1.origin (degrees_in f t) (letter_in f t)) w.0 (rw at at w.1.corner))
  angle_somewhere angle.North e =
      let f = form 2 (ascii "0000") in
      let w = edge_of_lem f northward t north_apart (lit≤ tt) 1 (lit≤ tt) e in
      at_latitude (due.Angle angle.North) t w.1.origin w.1.below
      (both_is (is_angle f t) (is_corner northward (w.1.origin + 1) (degrees_in f t) (letter_in f t)) w.0 w.1.corner)
  angle_somewhere angle.West e =
      let f = form 3 (ascii "0000") in
      let w = edge_of_lem f eastward t east_apart (lit≤ tt) 0 (lit≤ tt) e in
      let at : w.1.origin + 0 ≡ w.1.origin = omega arith in
      at_longitude (due.Angle angle.West) t w.1.origin w.1.below
      (both_is (is_angle f t) (is_corner eastward w.1.origin (degrees_in f t) (letter_in f t)) w.0 (rw at at w.1.corner))
  angle_somewhere angle.East e =
      let f = form 3 (ascii "0000") in
      let w = edge_of_lem f eastward t east_apart (lit≤ tt) 1 (lit≤ tt) e in
      at_longitude (due.Angle angle.East) t w.1.origin w.1.below
      (both_is (is_angle f t) (is_corner eastward (w.1.origin + 1) (degrees_in f t) (letter_in f t)) w.0 w.1.corner)

  angle_some : (a : Angle) → Somewhere (due.Angle a) t → is_some_angle a t ≡ true
  unfolding is_some_angle due_holds angle_holds
  angle_some angle.OriginLatitude w = again_some (form 2 (ascii "0000.0")) northward t north_apart w.latitude w.latitude_below w.holds
  angle_some angle.OriginLongitude w = again_some (form 3 (ascii "0000.0")) eastward t east_apart w.longitude w.longitude_below w.holds
  angle_some angle.South w =
      let at : w.latitude ≡ w.latitude + 0 = omega arith in
      edge_is (form 2 (ascii "0000")) northward t north_apart (lit≤ tt) 0 (lit≤ tt) w.latitude w.latitude_below (rw at at w.holds)
  angle_some angle.North w = edge_is (form 2 (ascii "0000")) northward t north_apart (lit≤ tt) 1 (lit≤ tt) w.latitude w.latitude_below w.holds
  angle_some angle.West w =
      let at : w.longitude ≡ w.longitude + 0 = omega arith in
      edge_is (form 3 (ascii "0000")) eastward t east_apart (lit≤ tt) 0 (lit≤ tt) w.longitude w.longitude_below (rw at at w.holds)
  angle_some angle.East w = edge_is (form 3 (ascii "0000")) eastward t east_apart (lit≤ tt) 1 (lit≤ tt) w.longitude w.longitude_below w.holds

  -- a letter
  letter_somewhere : is_some_letter t ≡ true → Somewhere due.Letter t
  unfolding due_holds
  letter_somewhere e = record {
    level = 0;
    latitude = 0;
    longitude = 0;
    letter = get_or t 0 0;
    level_below = omega arith;
    latitude_below = omega arith;
    longitude_below = omega arith;
    is_letter_lem = e;
    holds = eq-eqb (get_or t 0 0) (get_or t 0 0) refl;
  }

  letter_some : Somewhere due.Letter t → is_some_letter t ≡ true
  unfolding due_holds
  letter_some w = ap is_letter (eqb-true (get_or t 0 0) w.letter w.holds) ∙ w.is_letter_lem

  -- a series
  abbrev digit : ℕ
  digit = get_or t 4 0

  abbrev named : Bool
  named = has t 0 (ascii "DTED")

  series_somewhere : is_some_series t ≡ true → Somewhere due.Series t
  unfolding due_holds grid_of
  series_somewhere e =
      let p = both_true named (both (leb 0x30 digit) (leb digit 0x32)) e in
      let q = both_true (leb 0x30 digit) (leb digit 0x32) p.1 in
      let low = leb-true 0x30 digit q.0 in
      let high = leb-true digit 0x32 q.1 in
      record {
        level = digit - 0x30;
        latitude = 0;
        longitude = 0;
        letter = 0x55;
        level_below = omega arith;
        latitude_below = omega arith;
        longitude_below = omega arith;
        is_letter_lem = refl;
        holds = both_is named (eqb digit (0x30 + (digit - 0x30))) p.0 (eq-eqb digit (0x30 + (digit - 0x30)) (omega arith));
      }

  series_some : Somewhere due.Series t → is_some_series t ≡ true
  unfolding due_holds grid_of
  series_some w =
      let p = both_true named (eqb digit (0x30 + w.level)) w.holds in
      let is = eqb-true digit (0x30 + w.level) p.1 in
      both_is named (both (leb 0x30 digit) (leb digit 0x32)) p.0
      (both_is (leb 0x30 digit) (leb digit 0x32) (le-leb 0x30 digit (omega arith)) (le-leb digit 0x32 (omega (arith, w.level_below))))

-- how a field in which something else is due is refused: 21 where its bytes are due nowhere, 23 where they are a number's, else 22
pub data Decided (k : Due) (t : List ℕ) (place : ℕ) : Refusal → Type 0 where
  nowhere : (Somewhere k t → ⊥) → Decided k t place (because.FieldImpossible place)
  off_table : Somewhere k t → (n : Number) → k ≡ due.Number n → Decided k t place (because.FieldOffTable place)
  contradicts : Somewhere k t → ((n : Number) → k ≡ due.Number n → ⊥) → Decided k t place (because.FieldContradicts place)

never : ◌≡◌ {A = ℕ} 0 1 → ⊥
never e = omega arith

module _ (t : List ℕ) (place : ℕ) where
  -- by the test of the field's bytes
  by_some : (k : Due) (test : Bool) (otherwise : Refusal) → (test ≡ true → Decided k t place otherwise) → (Somewhere k t → test ≡ true)
      → Decided k t place (pick test otherwise (because.FieldImpossible place))
  by_some k true otherwise held needed = held refl
  by_some k false otherwise held needed = nowhere (λ w. clash (needed w) refl)

  pub decided : (k : Due) (b : Basis) → due_holds k b t ≡ false → Decided k t place (due_fault k place t)
  unfolding due_holds
  decided (due.Text x) b e = nowhere (λ w. clash w.holds e)
  decided (due.Number n) b e =
      by_some (due.Number n) (is_some_number n t) (because.FieldOffTable place) (λ h. off_table (number_somewhere n t h) n refl) (number_some n t)
  decided (due.Angle a) b e =
      by_some (due.Angle a) (is_some_angle a t) (because.FieldContradicts place) (λ h. contradicts (angle_somewhere t a h) (λ n q. never (cc))) (angle_some t a)
  decided due.Letter b e =
      by_some due.Letter (is_some_letter t) (because.FieldContradicts place) (λ h. contradicts (letter_somewhere t h) (λ n q. never (cc))) (letter_some t)
  decided due.Series b e =
      by_some due.Series (is_some_series t) (because.FieldContradicts place) (λ h. contradicts (series_somewhere t h) (λ n q. never (cc))) (series_some t)
