-- C3, N4 to N6, N14: a column is answered exactly by the first row of the table that holds.
use Rattle.std.specs.Prelude.{Result, Ok, Err, ⊤}
use Rattle.answers.specs.declared.Refusal.{Refusal}
use Rattle.std.proofs.Common.{◌≡◌, ℕ, ◌+◌, ◌<◌, Bool, false, List, get_or, take, sym, ◌∙◌, subst, eq-eqb, ne_eqb}
use Rattle.octets.specs.Numbers.{number_at}
use Rattle.octets.specs.Sums.{sum_of}
use Rattle.octets.proofs.ChoiceLaws.{by_equal}
use Rattle.octets.proofs.SearchLaws.{Before, first_found, none_found, Searched, all, first, searched}
use Rattle.posts.specs.Words.{word_allowed}
use Rattle.answers.specs.declared.Refusal.TheVariants.{Preamble, Checksum, Word}
use Rattle.columns.specs.Column.{word_at, sum_at, word_in, PreambleRight, Summed, Sealed}
use Rattle.columns.specs.Judged.{head_of, words_from, judged_column}

-- each word before the i-th is allowed
abbrev pub AllowedBefore : List ℕ → Bool → ℕ → Type 0
AllowedBefore s voids i = Before (λ (j : ℕ). word_allowed voids (word_in s j)) i

-- the rows in their order, each where it holds and none before it does
pub data Row (s : List ℕ) (k posts : ℕ) (voids : Bool) (base : ℕ) : Result ⊤ Refusal → Type 0 where
  -- 4
  sentinel : (get_or s 0 0 ≡ 170 → ⊥) → Row s k posts voids base (Err (Preamble base))
  block : get_or s 0 0 ≡ 170 → (number_at s 1 3 ≡ k → ⊥) → Row s k posts voids base (Err (Preamble (base + 1)))
  longitude : get_or s 0 0 ≡ 170 → number_at s 1 3 ≡ k → (number_at s 4 2 ≡ k → ⊥) → Row s k posts voids base (Err (Preamble (base + 4)))
  latitude : get_or s 0 0 ≡ 170 → number_at s 1 3 ≡ k → number_at s 4 2 ≡ k → (number_at s 6 2 ≡ 0 → ⊥)
      → Row s k posts voids base (Err (Preamble (base + 6)))
  -- 5
  checksum : PreambleRight s k → (Summed s posts → ⊥)
      → Row s k posts voids base (Err (Checksum (base + sum_at posts)))
  -- 6
  word : Sealed s k posts → (i : ℕ) → i < posts → word_allowed voids (word_in s i) ≡ false → AllowedBefore s voids i
      → Row s k posts voids base (Err (Word (base + word_at i)))
  good : Sealed s k posts → AllowedBefore s voids posts → Row s k posts voids base (Ok tt)

module _ (s : List ℕ) (k posts : ℕ) (voids : Bool) (base : ℕ) where
  abbrev test : ℕ → Bool
  test i = word_allowed voids (word_in s i)

  abbrev refusal : ℕ → Result ⊤ Refusal
  refusal i = Err (Word (base + word_at i))

  -- a head that is right leaves the answer to the words
  by_words : Sealed s k posts → judged_column s k posts voids base ≡ words_from s voids base 0 posts
  unfolding judged_column head_of
  by_words h =
      let p = h.preamble in
      simp (eq-eqb _ _ p.sentinel, eq-eqb _ _ p.block, eq-eqb _ _ p.longitude, eq-eqb _ _ p.latitude, eq-eqb _ _ h.checksum)

  -- every row's answer is given
  pub given : (j : Result ⊤ Refusal) → Row s k posts voids base j → judged_column s k posts voids base ≡ j
  unfolding judged_column head_of
  given _ (sentinel n) = simp (ne_eqb _ _ n)
  given _ (block a n) = simp (eq-eqb _ _ a, ne_eqb _ _ n)
  given _ (longitude a b n) = simp (eq-eqb _ _ a, eq-eqb _ _ b, ne_eqb _ _ n)
  given _ (latitude a b c n) = simp (eq-eqb _ _ a, eq-eqb _ _ b, eq-eqb _ _ c, ne_eqb _ _ n)
  given _ (checksum p n) =
      simp (eq-eqb _ _ p.sentinel, eq-eqb _ _ p.block, eq-eqb _ _ p.longitude, eq-eqb _ _ p.latitude, ne_eqb _ _ n)
  given _ (word h i u bad f) = by_words h ∙ first_found test refusal (Ok tt) i posts u bad f
  given _ (good h f) = by_words h ∙ none_found test refusal (Ok tt) posts f

  -- a row whose answer is j
  abbrev Some : Type 0
  Some = (j : Result ⊤ Refusal) × Row s k posts voids base j

  by_search : Sealed s k posts → Searched test posts → Some
  by_search h (first i u bad f) = (_, word h i u bad f)
  by_search h (all f) = (_, good h f)

  by_fields : Some
  by_fields =
      by_equal (get_or s 0 0) 170
      (λ a.
      by_equal (number_at s 1 3) k
      (λ b.
      by_equal (number_at s 4 2) k
      (λ c.
      by_equal (number_at s 6 2) 0
      (λ d.
      let p : PreambleRight s k = record { sentinel = a; block = b; longitude = c; latitude = d } in
      by_equal (number_at s (sum_at posts) 4) (sum_of (take (sum_at posts) s))
      (λ e. by_search (record { preamble = p; checksum = e }) (searched test posts))
      (λ n. (_, checksum p n)))
      (λ n. (_, latitude a b c n)))
      (λ n. (_, longitude a b n)))
      (λ n. (_, block a n)))
      (λ n. (_, sentinel n))

  -- and every answer is a row's
  pub row : Row s k posts voids base (judged_column s k posts voids base)
  row = subst (Row s k posts voids base) (sym (given by_fields.0 by_fields.1)) by_fields.1
