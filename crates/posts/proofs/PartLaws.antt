-- Words of a part: the test of a word as two tests of numbers, one word on, and parts put together.
use Rattle.std.proofs.Common.{◌≡◌, ℕ, zero, suc, ◌+◌, ◌-◌, ◌*◌, ◌%◌, ◌<◌, ◌≤◌, Bool, true, false, leb, List, length, get_or, drop, pos, sym, refl, ap, ◌∙◌, arith, le-leb}
use lib.Signed.{le_z}
use borrow.Author.Tests.{lt-leb}
use Rattle.octets.specs.Choice.{both}
use Rattle.octets.specs.Numbers.{number_at}
use Rattle.octets.specs.Sums.{sum_of}
use Rattle.octets.specs.Twos.{twos_of}
use Rattle.octets.proofs.ChoiceLaws.{both_true, both_is, by_order, by_equal}
use Rattle.octets.proofs.SumLaws.{sum_step}
use Rattle.octets.proofs.TwosLaws.{twos_low, twos_high}
use Rattle.posts.specs.Parts.{turn_by, deepest_turned, extremes_allowed}
use Rattle.posts.specs.Words.{word_allowed, words_allowed}
use Rattle.posts.proofs.PostWords.{up_allowed, down_allowed}

-- the two tests of one word
abbrev pub turned_allowed : Bool → ℕ → Bool
turned_allowed voids w = extremes_allowed voids (twos_of w) (twos_of ((w + turn_by voids) % 0x10000))

-- below the sign bit the first test decides, and the turned word is below 0, or 0 itself
turned_up : (voids : Bool) (w : ℕ) → w < 0x8000 → le_z (twos_of ((w + turn_by voids) % 0x10000)) (deepest_turned voids) ≡ true
turned_up true w h =
    by_equal w 0x7FFF
    (λ e. let z : (w + 0x8001) % 0x10000 ≡ 0 = omega arith in rw (z, twos_low 0 (omega arith)))
    (λ other. rw (twos_high ((w + 0x8001) % 0x10000) (omega arith) (omega arith)))
turned_up false w h = rw (twos_high ((w + 0x8000) % 0x10000) (omega arith) (omega arith))

-- from it on the second one does: a depth, or void
turned_down : (voids : Bool) (w : ℕ) → 0x8000 ≤ w → w < 0xFFFF → le_z (twos_of ((w + turn_by voids) % 0x10000)) (deepest_turned voids) ≡ leb (w - 0x8000) 12000
turned_down true w h k =
    let e : (w + 0x8001) % 0x10000 ≡ w - 0x8000 + 1 = omega arith in
    rw (e, twos_low (w - 0x8000 + 1) (omega arith))
    (by_order (w - 0x8000) 12000
    (λ u. le-leb (w - 0x8000 + 1) 12001 (omega arith) ∙ sym (le-leb (w - 0x8000) 12000 u))
    (λ u. lt-leb (w - 0x8000 + 1) 12001 (omega arith) ∙ sym (lt-leb (w - 0x8000) 12000 u)))
turned_down false w h k =
    let e : (w + 0x8000) % 0x10000 ≡ w - 0x8000 = omega arith in
    rw (e, twos_low (w - 0x8000) (omega arith))

turned_void : (voids : Bool) → turned_allowed voids 0xFFFF ≡ word_allowed voids 0xFFFF
unfolding twos_of word_allowed
turned_void true = refl
turned_void false = refl

both_both : (p q r : Bool) → both p (both q r) ≡ both (both p q) r
both_both true q r = refl
both_both false q r = refl

first_decides : (p q : Bool) → q ≡ true → both p q ≡ p
first_decides true q e = e
first_decides false q e = refl

-- P4 by two numbers: a word is allowed exactly where it, and it turned, are at most so much
pub turned : (voids : Bool) (w : ℕ) → w < 0x10000 → turned_allowed voids w ≡ word_allowed voids w
turned voids w h =
    by_order 0x8000 w
    (λ k.
    by_equal w 0xFFFF
    (λ e. rw e (turned_void voids))
    (λ other. rw (twos_high w k h) (turned_down voids w k (omega arith) ∙ sym (down_allowed voids w k other))))
    (λ k. first_decides (le_z (twos_of w) (pos 9000)) _ (turned_up voids w k) ∙ rw (twos_low w k) (sym (up_allowed voids w k)))

module _ (voids : Bool) (s : List ℕ) where
  pub words_step : (at i n : ℕ) → i < n
      → words_allowed voids s at (n - i) ≡ both (word_allowed voids (number_at s at 2)) (words_allowed voids s (at + 2) (n - (i + 1)))
  unfolding words_allowed
  words_step at i n h = let e : n - i ≡ suc (n - (i + 1)) = omega arith in rw e

  pub words_done : (at i n : ℕ) → n ≤ i → words_allowed voids s at (n - i) ≡ true
  unfolding words_allowed
  words_done at i n h = let e : n - i ≡ 0 = omega arith in rw e

-- two bytes on
pub sum_two : (s : List ℕ) (at : ℕ) → at + 2 ≤ length s → sum_of (drop at s) ≡ get_or s at 0 + get_or s (at + 1) 0 + sum_of (drop (at + 2) s)
sum_two s at h =
    let e : at + 1 + 1 ≡ at + 2 = omega arith in
    let next : sum_of (drop (at + 1) s) ≡ get_or s (at + 1) 0 + sum_of (drop (at + 2) s) = rw e at (sum_step s (at + 1) (omega arith)) in
    omega (arith, sum_step s at (omega arith))

-- one word on: the tests so far and those of the word, and what is left
regroup : (p q r t z : Bool) → both (both (both p r) (both q t)) z ≡ both (both p q) (both (both r t) z)
regroup true true r t z = refl
regroup true false true t z = refl
regroup true false false t z = refl
regroup false q r t z = refl

module _ (voids : Bool) (s : List ℕ) (at at' i n w : ℕ) (p p' q q' : Bool) where
  pub word_on : i < n → at' ≡ at + 2 → w ≡ number_at s at 2 → w < 0x10000
      → p' ≡ both p (le_z (twos_of w) (pos 9000))
      → q' ≡ both q (le_z (twos_of ((w + turn_by voids) % 0x10000)) (deepest_turned voids))
      → both (both p' q') (words_allowed voids s at' (n - (i + 1))) ≡ both (both p q) (words_allowed voids s at (n - i))
  word_on h e here small up down =
      let rest : Bool = words_allowed voids s (at + 2) (n - (i + 1)) in
      let found : words_allowed voids s at (n - i) ≡ both (turned_allowed voids w) rest =
      words_step voids s at i n h ∙ ap (λ (z : ℕ). both (word_allowed voids z) rest) (sym here) ∙ ap (λ (z : Bool). both z rest) (sym (turned voids w small)) in
      rw (e, up, down, found) (regroup p q (le_z (twos_of w) (pos 9000)) (le_z (twos_of ((w + turn_by voids) % 0x10000)) (deepest_turned voids)) rest)

-- and after the last one: the tests so far are those of all
pub words_end : (voids : Bool) (s : List ℕ) (at i n : ℕ) (p r : Bool) → n ≤ i → both p (words_allowed voids s at (n - i)) ≡ r → p ≡ r
words_end voids s at i n p r h e = sym (first_decides p (words_allowed voids s at (n - i)) (words_done voids s at i n h)) ∙ e

-- a run of words is two runs
pub words_parts : (voids : Bool) (s : List ℕ) (at m n : ℕ)
    → words_allowed voids s at (m + n) ≡ both (words_allowed voids s at m) (words_allowed voids s (at + 2 * m) n)
unfolding words_allowed
words_parts voids s at zero n =
    let none : zero + n ≡ n = omega arith in
    let here : at + 2 * zero ≡ at = omega arith in
    rw (none, here)
words_parts voids s at (suc m) n =
    let one : suc m + n ≡ suc (m + n) = omega arith in
    let on : at + 2 * suc m ≡ at + 2 + 2 * m = omega arith in
    rw (one, on, words_parts voids s (at + 2) m n)
    (both_both (word_allowed voids (number_at s at 2)) (words_allowed voids s (at + 2) m) (words_allowed voids s (at + 2 + 2 * m) n))

-- what the answer means: each of the words is allowed
pub word_of_all : (voids : Bool) (s : List ℕ) (at n i : ℕ) → words_allowed voids s at n ≡ true → i < n → word_allowed voids (number_at s (at + 2 * i) 2) ≡ true
unfolding words_allowed
word_of_all voids s at zero i e h = absurd (omega arith)
word_of_all voids s at (suc n) zero e h =
    let here : at + 2 * zero ≡ at = omega arith in
    rw here (both_true (word_allowed voids (number_at s at 2)) (words_allowed voids s (at + 2) n) e).0
word_of_all voids s at (suc n) (suc i) e h =
    let on : at + 2 * suc i ≡ at + 2 + 2 * i = omega arith in
    rw on (word_of_all voids s (at + 2) n i (both_true (word_allowed voids (number_at s at 2)) (words_allowed voids s (at + 2) n) e).1 (omega arith))

-- and the other way
pub all_of_words : (voids : Bool) (s : List ℕ) (at n : ℕ) → ((i : ℕ) → i < n → word_allowed voids (number_at s (at + 2 * i) 2) ≡ true) → words_allowed voids s at n ≡ true
unfolding words_allowed
all_of_words voids s at zero each = refl
all_of_words voids s at (suc n) each =
    let here : at + 2 * 0 ≡ at = omega arith in
    both_is (word_allowed voids (number_at s at 2)) (words_allowed voids s (at + 2) n) (rw here at (each 0 (omega arith)))
    (all_of_words voids s (at + 2) n (λ i h.
    let on : at + 2 * suc i ≡ at + 2 + 2 * i = omega arith in
    rw on at (each (suc i) (omega arith))))

-- a part on: what was found of the words before it, and of it, and what is left
pub part_on : (voids : Bool) (s : List ℕ) (at at' m k l : ℕ) (found part all : Bool) → l ≡ m + k → at' ≡ at + 2 * m
    → part ≡ words_allowed voids s at m → both found (words_allowed voids s at l) ≡ all → both (both found part) (words_allowed voids s at' k) ≡ all
part_on voids s at at' m k l found part all e on here whole =
    rw (on, here)
    (sym (both_both found (words_allowed voids s at m) (words_allowed voids s (at + 2 * m) k))
    ∙ ap (λ (z : Bool). both found z) (sym (words_parts voids s at m k))
    ∙ ap (λ (z : ℕ). both found (words_allowed voids s at z)) (sym e)
    ∙ whole)
