-- Every text that is written for a description in range keeps the rule of its kind.
use Prim.Native.Nat.{ℕ, ◌+◌, ◌<◌, ◌≤◌}
use native.Mathlib.Omega.{arith}
use mathlib.Core.Path.{◌≡◌, refl, ap, ◌∙◌}
use mathlib.Core.Bool.{Bool, true}
use mathlib.Core.List.{◌∷◌}
use lib.Dec.{leb, lit≤}
use borrow.Author.Tests.{le-leb, eqb-false}
use Rattle.octets.specs.Choice.{both, either}
use Rattle.octets.specs.Digits.{digits_at, decimal_at, digits_of}
use Rattle.octets.specs.Places.{places}
use Rattle.octets.specs.Texts.{ascii, differ, has}
use Rattle.octets.proofs.DigitLaws.{decimal_back, digits_are}
use Rattle.octets.proofs.TestLaws.{passes, below}
use Rattle.layout.specs.Levels.{latitude_interval}
use Rattle.layout.specs.Grid.{grid_of}
use Rattle.layout.specs.Ranges.{Ranged}
use Rattle.layout.proofs.Ranges.{ranged}
use Rattle.angles.specs.Angles.{northward, eastward, degrees_in, letter_in, is_origin, degrees_of, angle_text}
use Rattle.layout.specs.Zones.{edge_of}
use Rattle.angles.specs.declared.Axis.{Axis}
use Rattle.angles.proofs.AngleTexts.{letter_back, degrees_back, angle_is, degrees_small, is_origin_lem}
use Rattle.layout.proofs.NearEdges.{edge_below}
use Rattle.fields.specs.declared.Item.{Item}
use Rattle.fields.specs.declared.Item.TheVariants as item
use Rattle.fields.specs.declared.Kind.{Kind}
use Rattle.fields.specs.declared.Kind.TheVariants as kind
use Rattle.due.specs.Due.{not_available}
use Rattle.rules.specs.Rules.{origin_form, is_origin_field, is_accuracy, is_level, is_security, is_edition, is_datum, item_holds, holds}
use Rattle.rules.specs.Asked.{BasisInRange}
use Rattle.rules.proofs.DueHolds.{due_kept}
use Rattle.rules.proofs.GridNumbers.{number_small}
use Rattle.description.specs.Items.{in_range, accuracy_for}
use Rattle.description.specs.Facts.{basis_of}
use Rattle.description.specs.declared.Accuracy.{Accuracy}
use Rattle.description.specs.declared.Accuracy.TheVariants.{Metres, Unknown}
use Rattle.description.specs.declared.Datum.{Datum}
use Rattle.description.specs.declared.Datum.TheVariants.{Msl, E96}
use Rattle.description.specs.declared.Description.{Description}
use Rattle.description.proofs.RangedItems.{RangedItems, ranged_items}
use Rattle.header_writer.specs.Written.{accuracy_text, datum_text, item_text, text_for}

accuracy_holds : (a : Accuracy) → is_accuracy (accuracy_text a) ≡ true
unfolding is_accuracy digits_at differ
accuracy_holds (Metres m) = ap (λ (b : Bool). either b (has (digits_of 4 m) 0 not_available)) (digits_are 4 m)
accuracy_holds Unknown = refl

datum_holds : (v : Datum) → is_datum (datum_text v) ≡ true
unfolding differ
datum_holds Msl = refl
datum_holds E96 = refl

-- the level's text is one of the three
level_test : ℕ → Bool
level_test l = is_level (digits_of 4 (latitude_interval l))

level_holds : (l : ℕ) → l < 3 → is_level (digits_of 4 (latitude_interval l)) ≡ true
unfolding level_test latitude_interval differ places
level_holds l h = passes (level_test l) (below level_test 3 tt l h)

-- an origin's text is one of an origin
origin_holds : (a : Axis) (angle : ℕ) → (a.minus ≡ a.plus → ⊥) → a.most ≤ 180 → angle < a.most + a.most
    → is_origin_field a (angle_text origin_form a angle) ≡ true
origin_holds a angle ne m h =
    let t = angle_text origin_form a angle in
    let small = degrees_small a angle (omega arith) in
    ap (λ (b : Bool). both b (is_origin a (degrees_in origin_form t) (letter_in origin_form t))) (angle_is origin_form a angle)
    ∙ ap (λ (n : ℕ). is_origin a n (letter_in origin_form t)) (degrees_back origin_form a angle (omega arith))
    ∙ ap (is_origin a (degrees_of a angle)) (letter_back origin_form a angle)
    ∙ is_origin_lem a angle ne h

module _ (d : Description) (r : RangedItems d) where
  grid_ranged : Ranged (basis_of d).grid
  unfolding basis_of
  grid_ranged = ranged d.level (edge_of d.latitude) r.level (edge_below d.latitude r.latitude)

  pub basis_ranged : BasisInRange (basis_of d)
  unfolding basis_of grid_of
  basis_ranged = record {
    origin = record { latitude = r.latitude; longitude = r.longitude };
    level = r.level;
    numbers = number_small (basis_of d).grid grid_ranged;
  }

  edition_holds : is_edition (digits_of 2 d.edition) ≡ true
  edition_holds =
      ap (λ (b : Bool). both b (leb 1 (decimal_at (digits_of 2 d.edition) 0 2))) (digits_are 2 d.edition)
      ∙ ap (leb 1) (decimal_back 2 d.edition (omega (arith, r.edition_high)))
      ∙ le-leb 1 d.edition r.edition_low

  security_holds : is_security (d.security ∷ ascii "  ") ≡ true
  unfolding differ
  security_holds = rw r.security

  item_holds_lem : (i : Item) → item_holds i (item_text i d) ≡ true
  unfolding item_holds item_text basis_of grid_of
  item_holds_lem item.Level = level_holds d.level r.level
  item_holds_lem item.Latitude = origin_holds northward d.latitude (eqb-false 0x53 0x4E refl) (lit≤ tt) r.latitude
  item_holds_lem item.Longitude = origin_holds eastward d.longitude (eqb-false 0x57 0x45 refl) (lit≤ tt) r.longitude
  item_holds_lem item.Security = security_holds
  item_holds_lem item.Edition = edition_holds
  item_holds_lem item.Version = r.version
  item_holds_lem item.Datum = datum_holds d.datum
  item_holds_lem (item.Accuracy whose) = accuracy_holds (accuracy_for whose d)
  item_holds_lem item.Partial = digits_are 2 d.partial

  kind_holds : (k : Kind) → holds k (basis_of d) (text_for k d) ≡ true
  kind_holds (kind.Item i) = item_holds_lem i
  kind_holds (kind.Due k) = due_kept k (basis_of d) basis_ranged

pub text_holds : (d : Description) → in_range d ≡ true → (k : Kind) → holds k (basis_of d) (text_for k d) ≡ true
text_holds d e = kind_holds d (ranged_items d e)
