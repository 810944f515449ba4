-- A description whose items are in range, item by item, and the lowest item where one is not.
use Rattle.std.specs.Prelude.{Option, Some, None}
use Rattle.std.specs.Option.{option_map, MatchOption}
use Rattle.std.specs.List.{AllWithin, HoldsAt}
use Prim.Native.Nat.{ℕ, zero, suc, ◌+◌, ◌<◌, ◌≤◌}
use native.Mathlib.Omega.{arith}
use mathlib.Core.Path.{◌≡◌, refl, sym, ap, ◌∙◌}
use mathlib.Core.Bool.{Bool, true, false, false≢true}
use mathlib.Core.List.{List, [], ◌∷◌}
use lib.Dec.{leb}
use lib.ListN.{length, get_or}
use borrow.Author.Tests.{ltb-true, leb-true}
use Rattle.octets.specs.Tests.{every}
use Rattle.octets.proofs.ChoiceLaws.{both_true}
use Rattle.rules.specs.Rules.{is_letter, is_version}
use Rattle.description.specs.Items.{accuracy_ranged, accuracy_for, item_test, item_tests, first_failed, bad_item, in_range}
use Rattle.description.specs.declared.Description.{Description}
use Rattle.fields.specs.declared.Whose.{Whose}
use Rattle.fields.specs.declared.Item.{Item}
use Rattle.fields.specs.declared.Item.TheVariants.{Level, Latitude, Longitude, Security, Edition, Version, Accuracy, Partial}
use Rattle.description.proofs.ItemOrder.{each_item}

pub record RangedItems (d : Description) : Type 0 where
  pub level : d.level < 3
  pub latitude : d.latitude < 180
  pub longitude : d.longitude < 360
  pub security : is_letter d.security ≡ true
  pub edition_low : 1 ≤ d.edition
  pub edition_high : d.edition ≤ 99
  pub version : is_version d.version ≡ true
  pub accuracy : (w : Whose) → accuracy_ranged (accuracy_for w d) ≡ true
  pub partial : d.partial ≤ 99

pub ranged_items : (d : Description) → in_range d ≡ true → RangedItems d
unfolding item_tests
ranged_items d e =
    let held : (i : Item) → item_test d i ≡ true = each_item (item_test d) e in
    let edition = both_true (leb 1 d.edition) (leb d.edition 99) (held Edition) in
    record {
      level = ltb-true d.level 3 (held Level);
      latitude = ltb-true d.latitude 180 (held Latitude);
      longitude = ltb-true d.longitude 360 (held Longitude);
      security = held Security;
      edition_low = leb-true 1 d.edition edition.0;
      edition_high = leb-true d.edition 99 edition.1;
      version = held Version;
      accuracy = λ w. held (Accuracy w);
      partial = leb-true d.partial 99 (held Partial);
    }

every_true : (ts : List Bool) → ((k : ℕ) → k < length ts → get_or ts k true ≡ true) → every ts ≡ true
every_true [] held = refl
every_true (t ∷ ts) held = rw (held 0 (omega arith)) (every_true ts (λ k h. held (suc k) (omega arith)))

some_none : {n : ℕ} → Some n ≡ None → ⊥
some_none e = let z : ◌≡◌ {A = ℕ} 0 1 = cc in omega arith

-- what the first failed test is numbered
failed_none : (n : ℕ) (ts : List Bool) → every ts ≡ true → first_failed n ts ≡ None
unfolding first_failed
failed_none n [] e = refl
failed_none n (true ∷ ts) e = failed_none (n + 1) ts e
failed_none n (false ∷ ts) e = absurd (false≢true e)

none_failed : (n : ℕ) (ts : List Bool) → first_failed n ts ≡ None → every ts ≡ true
unfolding first_failed
none_failed n [] e = refl
none_failed n (true ∷ ts) e = none_failed (n + 1) ts e
none_failed n (false ∷ ts) e = absurd (some_none e)

-- the number is no lower than the first test's
pub failed_from : (m n : ℕ) (ts : List Bool) → first_failed m ts ≡ Some n → m ≤ n
unfolding first_failed
failed_from m n [] e = absurd (some_none (sym e))
failed_from m n (true ∷ ts) e = omega (arith, failed_from (m + 1) n ts e)
failed_from m n (false ∷ ts) e = let same : m ≡ n = cc in omega arith

abbrev pub Lowest : List Bool → ℕ → Type 0
Lowest ts n = (get_or ts n true ≡ false) × ((k : ℕ) → k < n → get_or ts k true ≡ true)

before : (ts : List Bool) (n : ℕ) → ((k : ℕ) → k < n → get_or ts k true ≡ true) → (k : ℕ) → k < suc n → get_or (true ∷ ts) k true ≡ true
before ts n f zero h = refl
before ts n f (suc k) h = f k (omega arith)

lowest : (n : ℕ) (ts : List Bool) (k : ℕ) → first_failed n ts ≡ Some (n + k) → Lowest ts k
unfolding first_failed
lowest n [] k e = absurd (some_none (sym e))
lowest n (true ∷ ts) zero e = absurd (omega (arith, failed_from (n + 1) (n + 0) ts e))
lowest n (true ∷ ts) (suc k) e =
    let next = lowest (n + 1) ts k (e ∙ ap Some (omega arith)) in
    (next.0, before ts k next.1)
lowest n (false ∷ ts) zero e = (refl, λ k l. absurd (omega arith))
lowest n (false ∷ ts) (suc k) e = let same : n ≡ n + suc k = cc in absurd (omega arith)

pub first_lowest : (m : ℕ) (ts : List Bool) (n : ℕ) → Lowest ts n → first_failed m ts ≡ Some (m + n)
unfolding first_failed
first_lowest m [] n low = absurd (false≢true (sym low.0))
first_lowest m (true ∷ ts) zero low = absurd (false≢true (sym low.0))
first_lowest m (true ∷ ts) (suc n) low = first_lowest (m + 1) ts n (low.0, λ k h. low.1 (suc k) (omega arith)) ∙ ap Some (omega arith)
first_lowest m (false ∷ ts) zero low = ap Some (omega arith)
first_lowest m (false ∷ ts) (suc n) low = absurd (false≢true (low.1 0 (omega arith)))

-- what the library's search for a test that fails finds, counted from 0, and from 1 here
pub counted : (ts : List Bool) (r : Option ℕ)
    → MatchOption r (AllWithin (λ t. t ≡ true) ts 0 (length ts)) (λ i. (i < length ts) × HoldsAt (λ t. t ≡ false) ts i × AllWithin (λ t. t ≡ true) ts 0 i)
    → option_map (λ (i : ℕ). i + 1) r ≡ first_failed 1 ts
counted ts None all = sym (failed_none 1 ts (every_true ts (λ k h. all k true (omega arith) h)))
counted ts (Some i) found = sym (first_lowest 1 ts i (found.1 true, λ k h. found.2 k true (omega arith) h) ∙ ap Some (omega arith))

-- a test that fails is one of the list's
pub failed_below : (ts : List Bool) (n : ℕ) → get_or ts n true ≡ false → n < length ts
failed_below [] n e = absurd (false≢true (sym e))
failed_below (t ∷ ts) zero e = omega arith
failed_below (t ∷ ts) (suc n) e = omega (arith, failed_below ts n e)

-- no test is named exactly where every one holds, and else it is the lowest that does not
pub first_exactly : (ts : List Bool)
    → ((first_failed 1 ts ≡ None → every ts ≡ true) × (every ts ≡ true → first_failed 1 ts ≡ None))
    × ((n : ℕ) → first_failed 1 ts ≡ Some (suc n) → Lowest ts n)
first_exactly ts = (
  (λ e. none_failed 1 ts e, λ e. failed_none 1 ts e),
  λ n e. lowest 1 ts n (e ∙ ap Some (omega arith)),
)

-- `bad_item` names no item exactly where all are in range, and else the lowest item that is not
pub item_exactly : (d : Description)
    → ((bad_item d ≡ None → in_range d ≡ true) × (in_range d ≡ true → bad_item d ≡ None))
    × ((n : ℕ) → bad_item d ≡ Some (suc n) → Lowest (item_tests d) n)
item_exactly d = first_exactly (item_tests d)
