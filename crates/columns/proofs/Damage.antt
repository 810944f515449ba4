-- One byte of a good column replaced by another value: the column is refused, at a place inside it.
use Rattle.std.specs.Prelude.{Result, Ok, Err, ⊤}
use Rattle.answers.specs.declared.Refusal.{Refusal}
use Rattle.std.proofs.Common.{◌≡◌, ℕ, zero, suc, ◌+◌, ◌-◌, ◌*◌, ◌<◌, ◌≤◌, Bool, true, false, eqb, List, length, get_or, take, set, sym, refl, ap, ◌∙◌, arith, length-set, length-take-le, get_or-set_other, get_or-take, get_or-set_same}
use lib.Seq.{take-set-le, take-set-lt}
use Rattle.octets.specs.Choice.{pick}
use Rattle.octets.specs.Scan.{first_bad}
use Rattle.octets.specs.Numbers.{number_at}
use Rattle.octets.specs.Sums.{sum_of}
use Rattle.octets.proofs.ChoiceLaws.{by_order}
use Rattle.octets.proofs.NumberLaws.{number_same, number_one}
use Rattle.octets.proofs.SumLaws.{sum_set}
use Rattle.layout.specs.Levels.{column_bytes}
use Rattle.posts.specs.Words.{word_allowed}
use Rattle.answers.specs.declared.Refusal.TheVariants.{Preamble, Checksum, Word}
use Rattle.columns.specs.Column.{word_at, sum_at, word_in, GoodColumn}
use Rattle.columns.specs.Judged.{and_then, head_of, words_from, judged_column, RefusedIn}
use Rattle.columns.proofs.Exactly.{good_only}

-- ---- every answer is good, or has its place in the column

abbrev PlacedIn : ℕ → ℕ → Result ⊤ Refusal → Type 0
PlacedIn lo hi a = (a ≡ Ok tt → ⊥) → RefusedIn lo hi a

module _ (lo hi : ℕ) where
  good_in : PlacedIn lo hi (Ok tt)
  good_in n = n refl

  pick_in : (t : Bool) (a b : Result ⊤ Refusal) → PlacedIn lo hi a → PlacedIn lo hi b → PlacedIn lo hi (pick t a b)
  pick_in true a b p q = p
  pick_in false a b p q = q

  then_in : (a b : Result ⊤ Refusal) → PlacedIn lo hi a → PlacedIn lo hi b → PlacedIn lo hi (and_then a b)
  then_in (Ok tt) b p q = q
  then_in (Err r) b p q = p

words_in_lem : (s : List ℕ) (voids : Bool) (base hi i n : ℕ) → base + word_at i + 2 * n ≤ hi → PlacedIn base hi (words_from s voids base i n)
unfolding first_bad
words_in_lem s voids base hi i zero h = good_in base hi
words_in_lem s voids base hi i (suc n) h =
    pick_in base hi (word_allowed voids (word_in s i)) _ (Err (Word (base + word_at i)))
    (words_in_lem s voids base hi (i + 1) n (omega arith)) (λ bad. omega arith)

pub judged_in_lem : (s : List ℕ) (k posts : ℕ) (voids : Bool) (base : ℕ) → PlacedIn base (base + column_bytes posts) (judged_column s k posts voids base)
unfolding judged_column head_of
judged_in_lem s k posts voids base =
    let hi = base + column_bytes posts in
    then_in base hi (head_of s k posts base) (words_from s voids base 0 posts)
    (pick_in base hi (eqb (get_or s 0 0) 170) _ (Err (Preamble base))
    (pick_in base hi (eqb (number_at s 1 3) k) _ (Err (Preamble (base + 1)))
    (pick_in base hi (eqb (number_at s 4 2) k) _ (Err (Preamble (base + 4)))
    (pick_in base hi (eqb (number_at s 6 2) 0) _ (Err (Preamble (base + 6)))
    (pick_in base hi (eqb (number_at s (sum_at posts) 4) (sum_of (take (sum_at posts) s))) (Ok tt) (Err (Checksum (base + sum_at posts)))
    (good_in base hi) (λ bad. omega arith))
    (λ bad. omega arith))
    (λ bad. omega arith))
    (λ bad. omega arith))
    (λ bad. omega arith))
    (words_in_lem s voids base hi 0 posts (omega arith))

-- ---- no two columns whose checksums are right differ in one byte

module _ (s : List ℕ) (j v n : ℕ) (size : n + 4 ≡ length s) (inside : j < length s) (other : v ≡ get_or s j 0 → ⊥)
    (whole : number_at s n 4 ≡ sum_of (take n s)) (damaged : number_at (set s j v) n 4 ≡ sum_of (take n (set s j v))) where
  -- a byte before the checksum: the sum changes and the checksum does not
  before_sum : j < n → ⊥
  before_sum h =
      let kept = number_same (set s j v) s n 4 (λ i m. get_or-set_other s j (n + i) v 0 (λ q. omega arith)) in
      let after = ap sum_of (take-set-lt n s j v h) in
      let changed = sum_set (take n s) j v (rw (length-take-le n s (omega arith)) h) in
      let old = get_or-take n s j 0 h in
      other (omega arith)

  -- a byte of the checksum: the checksum changes and the sum does not
  in_sum : n ≤ j → ⊥
  in_sum h =
      let i = j - n in
      let at_j : n + i ≡ j = omega arith in
      let same_sum = ap sum_of (take-set-le n s j v h) in
      let equal : number_at (set s j v) n 4 ≡ number_at s n 4 = omega arith in
      let one =
      number_one (set s j v) s n 4 i (omega arith)
      (λ m k apart. get_or-set_other s j (n + m) v 0 (λ q. apart (omega arith))) equal
      in
      other (sym (get_or-set_same s j v 0 inside) ∙ rw at_j at one)

  pub never_both : ⊥
  never_both = by_order n j in_sum before_sum

-- D2: one byte replaced
pub one_byte : (s : List ℕ) (k posts : ℕ) (voids : Bool) (base : ℕ) → GoodColumn s k posts voids
    → (j v : ℕ) → j < length s → (v ≡ get_or s j 0 → ⊥) → RefusedIn base (base + column_bytes posts) (judged_column (set s j v) k posts voids base)
one_byte s k posts voids base good j v inside other =
    judged_in_lem (set s j v) k posts voids base
    (λ bad.
    let again = good_only (set s j v) k posts voids base (rw length-set good.long) bad in
    never_both s j v (sum_at posts) (omega (arith, good.long)) inside other good.right.checksum again.right.checksum)
