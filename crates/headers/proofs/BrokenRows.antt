-- The first row that breaks its rule: a search over a part of the table, and how it decides.
use Rattle.std.specs.Prelude.{Option, Some, None, Result, Err}
use Rattle.std.specs.Option.{MatchOption}
use Prim.Native.Nat.{ℕ, zero, suc, ◌+◌, ◌-◌, ◌<◌, ◌≤◌}
use native.Mathlib.Numerals.{add-one}
use native.Mathlib.Omega.{arith}
use mathlib.Core.Path.{◌≡◌, refl, sym, ap, ◌∙◌, subst}
use mathlib.Core.Bool.{true, false}
use mathlib.Core.List.{List, ◌∷◌}
use lib.ListN.{drop}
use lib.Seq.{drop-cons}
use Rattle.octets.specs.Choice.{pick}
use Rattle.octets.specs.Scan.{scan}
use Rattle.octets.proofs.ChoiceLaws.{by_test, by_order, clash}
use Rattle.fields.specs.Table.{uhl, fields, field_at}
use Rattle.headers.specs.Judged.{keeps, broken, judged_by}
use Rattle.answers.specs.declared.Refusal.{Refusal}
use Rattle.due.specs.declared.Basis.{Basis}
use Rattle.headers.specs.declared.Facts.{Facts}
use Rattle.fields.specs.declared.Kind.TheVariants.{Item}
use Rattle.fields.specs.declared.Item.TheVariants.{Partial}

-- a turn of the search, and the first of n rows from i on
abbrev pub turn : List ℕ → Basis → ℕ → Option ℕ → Option ℕ
turn s d i rest = pick (keeps s d (field_at i)) rest (Some i)

abbrev pub first_in : List ℕ → Basis → ℕ → ℕ → Option ℕ
first_in s d i n = scan (turn s d) None i n

-- what is said of the row found, and else what the rest says
abbrev pub said : List ℕ → Basis → Option ℕ → Result Facts Refusal → Result Facts Refusal
said s d None rest = rest
said s d (Some row) rest = Err (broken s d (field_at row))

-- rows keep their rules up to one, or this one breaks its own
abbrev pub Kept : List ℕ → Basis → ℕ → ℕ → Type 0
Kept s d i to = (j : ℕ) → i ≤ j → j < to → keeps s d (field_at j) ≡ true

pub record Broken (s : List ℕ) (d : Basis) (i to row : ℕ) : Type 0 where
  pub low : i ≤ row
  pub high : row < to
  pub kept : Kept s d i row
  pub breaks : keeps s d (field_at row) ≡ false

-- what the search finds
abbrev pub Found : List ℕ → Basis → ℕ → ℕ → Option ℕ → Type 0
Found s d i to None = Kept s d i to
Found s d i to (Some row) = Broken s d i to row

rest_from : (i : ℕ) → i < 40 → drop i fields ≡ field_at i ∷ drop (i + 1) fields
rest_from i h = drop-cons fields i (uhl 1 1 (Item Partial)) h ∙ ap (λ (k : ℕ). field_at i ∷ drop k fields) (sym (add-one i))

module _ (s : List ℕ) (d : Basis) where
  -- a row that keeps its rule, before others
  kept_more : (i to : ℕ) → keeps s d (field_at i) ≡ true → Kept s d (i + 1) to → Kept s d i to
  kept_more i to t k j a b = by_order j i (λ h. let q : j ≡ i = omega arith in rw q t) (λ h. k j (omega arith) b)

  found_more : (i to : ℕ) → keeps s d (field_at i) ≡ true → (r : Option ℕ) → Found s d (i + 1) to r → Found s d i to r
  found_more i to t None k = kept_more i to t k
  found_more i to t (Some row) b = record { low = omega (arith, b.low); high = b.high; kept = kept_more i row t b.kept; breaks = b.breaks }

  pub found : (to n i : ℕ) → i + n ≡ to → Found s d i to (first_in s d i n)
  unfolding scan
  found to zero i e = λ j a b. absurd (omega arith)
  found to (suc n) i e =
      by_test (keeps s d (field_at i))
      (λ t. rw t (found_more i to t (first_in s d (i + 1) n) (found to n (i + 1) (omega arith))))
      (λ t. rw t (record { low = omega arith; high = omega arith; kept = λ j a b. absurd (omega arith); breaks = t }))

  pub row_found : (to n i : ℕ) → i + n ≡ to → (row : ℕ) → first_in s d i n ≡ Some row → Broken s d i to row
  row_found to n i e row q = subst (Found s d i to) q (found to n i e)

  -- there is one such row at most
  pub found_alike : (i to : ℕ) (r q : Option ℕ) → Found s d i to r → Found s d i to q → r ≡ q
  found_alike i to None None k l = refl
  found_alike i to None (Some n) k b = clash (k n b.low b.high) b.breaks
  found_alike i to (Some m) None b k = clash (k m b.low b.high) b.breaks
  found_alike i to (Some m) (Some n) b c =
      by_order m n
      (λ h.
      by_order n m
      (λ k. let e : m ≡ n = omega arith in ap Some e)
      (λ k. clash (c.kept m b.low k) b.breaks))
      (λ h. clash (b.kept n c.low h) c.breaks)

  -- so what a search over the numbers finds is this row
  as_found : (i to : ℕ) (r : Option ℕ)
      → MatchOption r (Kept s d i to) (λ n. (i ≤ n) × (n < to) × (keeps s d (field_at n) ≡ false) × Kept s d i n)
      → Found s d i to r
  as_found i to None k = k
  as_found i to (Some n) h = record { low = h.0; high = h.1; breaks = h.2; kept = h.3 }

  pub searched : (i to : ℕ) → i ≤ to → (r : Option ℕ)
      → MatchOption r (Kept s d i to) (λ n. (i ≤ n) × (n < to) × (keeps s d (field_at n) ≡ false) × Kept s d i n)
      → r ≡ first_in s d i (to - i)
  searched i to o r h = found_alike i to r (first_in s d i (to - i)) (as_found i to r h) (found to (to - i) i (omega arith))

  -- and so the part of the table is judged
  pub judged_part : (to n i : ℕ) → i + n ≡ to → to ≤ 40
      → judged_by s d (drop i fields) ≡ said s d (first_in s d i n) (judged_by s d (drop to fields))
  unfolding scan judged_by
  judged_part to zero i e h = let q : i ≡ to = omega arith in rw q
  judged_part to (suc n) i e h =
      ap (judged_by s d) (rest_from i (omega arith))
      ∙ by_test (keeps s d (field_at i))
      (λ t. rw t (judged_part to n (i + 1) (omega arith) h))
      (λ t. rw t)

-- rows that keep their rules alike are found alike
pub found_same : (f g : ℕ → Option ℕ → Option ℕ) (n i : ℕ)
    → ((j : ℕ) (r : Option ℕ) → i ≤ j → j < i + n → f j r ≡ g j r) → scan f None i n ≡ scan g None i n
unfolding scan
found_same f g zero i same = refl
found_same f g (suc n) i same =
    same i (scan f None (i + 1) n) (omega arith) (omega arith)
    ∙ ap (g i) (found_same f g n (i + 1) (λ j r a b. same j r (omega arith) (omega arith)))
