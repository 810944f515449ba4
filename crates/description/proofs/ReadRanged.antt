-- What good headers say is in range: a description that was read may be written.
use Rattle.std.specs.Prelude.{Result, Ok, Err}
use Rattle.answers.specs.declared.Refusal.{Refusal}
use Rattle.headers.specs.declared.Facts.{Facts}
use Prim.Native.Nat.{ℕ}
use native.Mathlib.Omega.{arith}
use mathlib.Core.Path.{◌≡◌, refl, sym, subst}
use mathlib.Core.Bool.{true}
use mathlib.Core.List.{List}
use lib.Dec.{leb, ltb, lit<}
use lib.ListN.{get_or, take, drop}
use borrow.Author.Tests.{lt-ltb, le-leb}
use Rattle.octets.specs.Choice.{both}
use Rattle.octets.specs.Digits.{digits_at, decimal_at}
use Rattle.octets.specs.Texts.{ascii, has}
use Rattle.octets.proofs.ChoiceLaws.{both_true, by_test}
use Rattle.octets.proofs.DigitLaws.{decimal_below}
use Rattle.octets.proofs.PartLaws.{byte_part, decimal_part}
use Rattle.headers.specs.Judged.{judged, facts_in, Follows}
use Rattle.headers.specs.Basis.{level_at, latitude_in, longitude_in, security_in, basis_in}
use Rattle.fields.specs.Table.{item_row, place_of}
use Rattle.fields.specs.declared.Item.TheVariants.{Security, Edition, Version, Accuracy, Partial}
use Rattle.fields.specs.declared.Whose.TheVariants.{Uhl, AbsoluteHorizontal, AbsoluteVertical, RelativeHorizontal, RelativeVertical}
use Rattle.rules.specs.Rules.{is_letter, is_version, item_holds}
use Rattle.headers.proofs.Exactly.{good_follows, follows_good}
use Rattle.headers.proofs.FirstFour.{good_facts, level_below}
use Rattle.description.specs.Items.{accuracy_ranged, item_tests, in_range}
use Rattle.description.specs.Described.{accuracy_at, items_in, described_by, described}
use Rattle.description.specs.declared.Description.{Description}

-- four digits are at most 9,999 metres
accuracy_ranged_lem : (s : List ℕ) (at : ℕ) → accuracy_ranged (accuracy_at s at) ≡ true
unfolding accuracy_at
accuracy_ranged_lem s at =
    by_test (digits_at s at 4)
    (λ e. rw e (le-leb (decimal_at s at 4) 9999 (omega (arith, decimal_below s at 4))))
    (λ e. rw e)

module _ (s : List ℕ) (follows : Follows s) where
  security_ranged : is_letter (security_in s) ≡ true
  unfolding item_holds
  security_ranged =
      let t = take 3 (drop (place_of Security) s) in
      rw (sym (byte_part s (place_of Security) 3 0 (lit< tt)))
      (both_true (is_letter (get_or t 0 0)) (has t 1 (ascii "  ")) (follows.1 (item_row Security) (lit< tt))).0

  edition_ranged : both (leb 1 (decimal_at s (place_of Edition) 2)) (leb (decimal_at s (place_of Edition) 2) 99) ≡ true
  unfolding item_holds
  edition_ranged =
      let t = take 2 (drop (place_of Edition) s) in
      let low = (both_true (digits_at t 0 2) (leb 1 (decimal_at t 0 2)) (follows.1 (item_row Edition) (lit< tt))).1 in
      rw (decimal_part s (place_of Edition) 2, low) (le-leb (decimal_at t 0 2) 99 (omega (arith, decimal_below t 0 2)))

  version_ranged : is_version (get_or s (place_of Version) 0) ≡ true
  unfolding item_holds
  version_ranged = rw (sym (byte_part s (place_of Version) 1 0 (lit< tt))) (follows.1 (item_row Version) (lit< tt))

  pub read_ranged : in_range (items_in s) ≡ true
  unfolding item_tests items_in facts_in basis_in
  read_ranged =
      let f = good_facts s (facts_in s) (follows_good s follows) in
      let latitude : ltb (latitude_in s) 180 ≡ true = lt-ltb _ 180 f.latitude in
      let longitude : ltb (longitude_in s) 360 ≡ true = lt-ltb _ 360 f.longitude in
      let partial : leb (decimal_at s (place_of Partial) 2) 99 ≡ true =
      le-leb (decimal_at s (place_of Partial) 2) 99 (omega (arith, decimal_below s (place_of Partial) 2))
      in
      rw (
        lt-ltb (level_at s) 3 (level_below s),
        latitude,
        longitude,
        security_ranged,
        edition_ranged,
        version_ranged,
        accuracy_ranged_lem s (place_of (Accuracy Uhl)),
        accuracy_ranged_lem s (place_of (Accuracy AbsoluteHorizontal)),
        accuracy_ranged_lem s (place_of (Accuracy AbsoluteVertical)),
        accuracy_ranged_lem s (place_of (Accuracy RelativeHorizontal)),
        accuracy_ranged_lem s (place_of (Accuracy RelativeVertical)),
        partial,
      )

described_by_lem : (s : List ℕ) (x : Result Facts Refusal) → judged s ≡ x → (d : Description) → described_by s x ≡ Ok d → in_range d ≡ true
described_by_lem s (Ok f) e d q =
    let same : items_in s ≡ d = cc in
    subst (λ (y : Description). in_range y ≡ true) same (read_ranged s (good_follows s f e).0)
described_by_lem s (Err r) e d q = let z : ◌≡◌ {A = ℕ} 0 1 = cc in absurd (omega arith)

-- so is what the description reader gives
pub described_ranged : (s : List ℕ) (d : Description) → described s ≡ Ok d → in_range d ≡ true
unfolding described
described_ranged s d e = described_by_lem s (judged s) refl d e
