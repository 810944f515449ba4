-- Headers that are accepted, with given bytes in a field: the writer's, of a description that makes them due, with the bytes put there.
use Prim.Native.Nat.{ℕ, ◌<◌}
use native.Mathlib.Omega.{arith}
use mathlib.Core.Path.{◌≡◌, refl, sym, ap, subst, ◌∙◌}
use mathlib.Core.Bool.{true}
use mathlib.Core.List.{List}
use lib.Dec.{lit<}
use lib.ListN.{length, get_or, take, drop}
use borrow.Author.Tests.{lt-ltb}
use Rattle.octets.specs.Pastes.{pasted}
use Rattle.octets.specs.Texts.{ascii, has}
use Rattle.octets.proofs.ChoiceLaws.{by_equal, both_true}
use Rattle.octets.proofs.PartLaws.{paste_shown, byte_part}
use Rattle.octets.specs.Numbers.{Bytes}
use Rattle.octets.proofs.PasteLaws.{length_paste, paste_bytes}
use Rattle.fields.specs.Table.{bytes_in, field_at, item_row, place_of}
use Rattle.fields.specs.declared.Item.{Item}
use Rattle.fields.specs.declared.Item.TheVariants as item
use Rattle.fields.specs.declared.Whose.{Whose}
use Rattle.fields.specs.declared.Whose.TheVariants as whose
use Rattle.fields.specs.declared.Due.{Due}
use Rattle.fields.specs.declared.Kind.TheVariants as kind
use Rattle.fields.proofs.ItemRows.{item_there, item_below}
use Rattle.due.specs.Due.{due_width}
use Rattle.rules.specs.Rules.{is_letter, item_holds, due_holds, holds, width_of}
use Rattle.rules.proofs.KeptBytes.{kept_bytes}
use Rattle.faults.proofs.Somewhere.{Somewhere}
use Rattle.headers.specs.Basis.{latitude_in, longitude_in, level_at, security_in, basis_in}
use Rattle.headers.specs.Judged.{keeps, facts_in, Follows, Stands}
use Rattle.headers.proofs.Exactly.{good_follows, follows_good}
use Rattle.headers.proofs.FirstFour.{follows_fixed}
use Rattle.headers.proofs.FreeBytes.{SameItems, basis_alike}
use Rattle.headers.proofs.TableRows.{row}
use Rattle.description.specs.Items.{accuracy_ranged, accuracy_for, item_test, item_tests, in_range}
use Rattle.description.specs.Facts.{basis_of}
use Rattle.description.specs.declared.Accuracy.TheVariants.{Unknown}
use Rattle.description.specs.declared.Datum.TheVariants.{Msl}
use Rattle.description.specs.declared.Description.{Description}
use Rattle.description.proofs.ItemOrder.{all_items}
use Rattle.description.proofs.RangedItems.{ranged_items}
use Rattle.header_writer.specs.Written.{headers_for}
use Rattle.header_writer.proofs.BasisBack.{basis_back}
use Rattle.header_writer.proofs.FieldsApart.{text_apart, rows_apart}
use Rattle.header_writer.proofs.RoundTrip.{written_follows}
use Rattle.header_writer.proofs.WrittenBytes.{letter_byte, headers_bytes}
use Rattle.header_writer.proofs.WrittenHolds.{basis_ranged}
use Rattle.header_writer.proofs.WrittenLength.{length_headers}

-- a description of this level, origin and letter
abbrev plain : ℕ → ℕ → ℕ → ℕ → Description
plain level latitude longitude letter = record {
  level = level;
  latitude = latitude;
  longitude = longitude;
  security = letter;
  edition = 1;
  version = 0x41;
  datum = Msl;
  uhl = Unknown;
  absolute = record { horizontal = Unknown; vertical = Unknown };
  relative = record { horizontal = Unknown; vertical = Unknown };
  partial = 0;
}

module _ (level latitude longitude letter : ℕ) (l : level < 3) (n : latitude < 180) (e : longitude < 360) (c : is_letter letter ≡ true) where
  abbrev d : Description
  d = plain level latitude longitude letter

  accuracy_ranged_lem : (w : Whose) → accuracy_ranged (accuracy_for w d) ≡ true
  accuracy_ranged_lem whose.Uhl = refl
  accuracy_ranged_lem whose.AbsoluteHorizontal = refl
  accuracy_ranged_lem whose.AbsoluteVertical = refl
  accuracy_ranged_lem whose.RelativeHorizontal = refl
  accuracy_ranged_lem whose.RelativeVertical = refl

  item_ranged : (i : Item) → item_test d i ≡ true
  item_ranged item.Level = lt-ltb level 3 l
  item_ranged item.Latitude = lt-ltb latitude 180 n
  item_ranged item.Longitude = lt-ltb longitude 360 e
  item_ranged item.Security = c
  item_ranged item.Edition = refl
  item_ranged item.Version = refl
  item_ranged item.Datum = refl
  item_ranged (item.Accuracy w) = accuracy_ranged_lem w
  item_ranged item.Partial = refl

  plain_ranged : in_range d ≡ true
  unfolding item_tests
  plain_ranged = all_items (item_test d) item_ranged

never : ◌≡◌ {A = ℕ} 0 1 → ⊥
never e = omega arith

-- bytes that a description makes due, put in their field of its headers
module _ (d : Description) (ranged : in_range d ≡ true) (i : ℕ) (below : i < 40) (k : Due) (is : (field_at i).2 ≡ kind.Due k)
    (v : List ℕ) (wide : length v ≡ due_width k) (due : due_holds k (basis_of d) v ≡ true) where
  abbrev put : List ℕ
  put = pasted (headers_for d) (field_at i).0 v

  as_wide : length v ≡ (field_at i).1
  as_wide = wide ∙ sym ((row i below).wide ∙ ap width_of is)

  long : length put ≡ 3428
  long =
      let n = length_headers d in
      let w = as_wide in
      length_paste (headers_for d) (field_at i).0 v (omega (arith, (row i below).within)) ∙ n

  shown : bytes_in put (field_at i) ≡ v
  shown =
      let n = length_headers d in
      ap (λ (m : ℕ). take m (drop (field_at i).0 put)) (sym as_wide) ∙ paste_shown (headers_for d) (field_at i).0 v (omega (arith, (row i below).within))

  others : (j : ℕ) → j < 40 → (j ≡ i → ⊥) → bytes_in put (field_at j) ≡ bytes_in (headers_for d) (field_at j)
  others j h ne =
      let n = length_headers d in
      text_apart (headers_for d) (field_at j) (field_at i) v as_wide (omega (arith, (row i below).within)) (rows_apart j i h below ne)

  -- no item stands there, so that the same is due
  items : SameItems put (headers_for d)
  items x = others (item_row x) (item_below x) (λ e. never (clash_kinds (sym (item_there x) ∙ ap (λ (n : ℕ). (field_at n).2) e ∙ is)))
    where
      clash_kinds : kind.Item x ≡ kind.Due k → ◌≡◌ {A = ℕ} 0 1
      clash_kinds e = cc

  same_basis : basis_in put ≡ basis_of d
  same_basis = basis_alike put (headers_for d) items ∙ basis_back d ranged

  put_follows : Follows put
  put_follows =
      let n = long in (
        omega arith,
        λ j h.
            by_equal j i
            (λ e.
            subst (λ (m : ℕ). keeps put (basis_in put) (field_at m) ≡ true) (sym e)
            ((λ q. holds (is q) (same_basis q) (shown q)) ∙ due))
            (λ ne.
            (λ q. holds (field_at j).2 ((same_basis ∙ sym (basis_back d ranged)) q) (others j h ne q)) ∙ (written_follows d ranged).1 j h),
      )

  -- all of it bytes
  put_bytes : Bytes put
  unfolding basis_of
  put_bytes =
      let r = ranged_items d ranged in
      paste_bytes (headers_for d) (field_at i).0 v (headers_bytes d ranged)
      (kept_bytes k (basis_of d) (basis_ranged d r) (letter_byte d.security r.security) v wide due)

  pub put_stands : Stands (field_at i) v
  put_stands = record { headers = put; bytes = put_bytes; facts = facts_in put; accepted = follows_good put put_follows; there = shown }

-- the letter of headers that are accepted
letter_kept : (s : List ℕ) → Follows s → is_letter (security_in s) ≡ true
unfolding item_holds
letter_kept s f =
    let t = bytes_in s (field_at (item_row item.Security)) in
    ap is_letter (sym (byte_part s (place_of item.Security) 3 0 (lit< tt)))
    ∙ (both_true (is_letter (get_or t 0 0)) (has t 1 (ascii "  ")) (f.1 (item_row item.Security) (lit< tt))).0

module _ (i : ℕ) (below : i < 40) (k : Due) (is : (field_at i).2 ≡ kind.Due k) (v : List ℕ) where
  -- bytes that are due somewhere stand in some accepted header
  pub some_stand : length v ≡ due_width k → Somewhere k v → Stands (field_at i) v
  unfolding basis_of
  some_stand wide w =
      put_stands (plain w.level w.latitude w.longitude w.letter)
      (plain_ranged w.level w.latitude w.longitude w.letter w.level_below w.latitude_below w.longitude_below w.is_letter_lem)
      i below k is v wide w.holds

  -- and those of an accepted header are due by what it says
  pub stands_some : Stands (field_at i) v → Somewhere k v
  unfolding basis_in
  stands_some w =
      let s = w.headers in
      let f = (good_follows s w.facts w.accepted).0 in
      let fix = follows_fixed s f in
      record {
        level = level_at s;
        latitude = latitude_in s;
        longitude = longitude_in s;
        letter = security_in s;
        level_below = fix.level;
        latitude_below = fix.latitude;
        longitude_below = fix.longitude;
        is_letter_lem = letter_kept s f;
        holds = sym (λ q. holds (is q) (basis_in s) (w.there q)) ∙ f.1 i below;
      }
