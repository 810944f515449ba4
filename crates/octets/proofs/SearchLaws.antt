-- Laws of a search for the first index at which a test fails: its steps as a loop takes them, and what it finds of n indices.
use Rattle.std.proofs.Common.{◌≡◌, ℕ, zero, suc, ◌+◌, ◌-◌, ◌<◌, ◌≤◌, Bool, true, false, refl, ap, ◌∙◌, arith}
use native.Mathlib.Nat.{sub-zero}
use Rattle.octets.specs.Scan.{first_bad}
use Rattle.octets.proofs.ChoiceLaws.{by_test, by_order}

-- the test holds at each index before the i-th
abbrev pub Before : (ℕ → Bool) → ℕ → Type 0
Before test i = (j : ℕ) → j < i → test j ≡ true

module _ {A : Type 0} (test : ℕ → Bool) (bad : ℕ → A) (done : A) where
  pub search_on : (i n : ℕ) → i < n → test i ≡ true → first_bad test bad done i (n - i) ≡ first_bad test bad done (i + 1) (n - (i + 1))
  unfolding first_bad
  search_on i n h e = let m : n - i ≡ suc (n - (i + 1)) = omega arith in rw (m, e)

  pub search_stop : (i n : ℕ) → i < n → test i ≡ false → first_bad test bad done i (n - i) ≡ bad i
  unfolding first_bad
  search_stop i n h e = let m : n - i ≡ suc (n - (i + 1)) = omega arith in rw (m, e)

  pub search_end : (i n : ℕ) → n ≤ i → first_bad test bad done i (n - i) ≡ done
  unfolding first_bad
  search_end i n h = let m : n - i ≡ 0 = omega arith in rw m

  -- indices at which it holds are passed over
  passed_over_lem : (i n : ℕ) → i ≤ n → Before test i → first_bad test bad done 0 n ≡ first_bad test bad done i (n - i)
  passed_over_lem zero n u f = rw (sub-zero n)
  passed_over_lem (suc i) n u f =
      let one : i + 1 ≡ suc i = omega arith in
      passed_over_lem i n (omega arith) (λ j h. f j (omega arith))
      ∙ search_on i n (omega arith) (f i (omega arith))
      ∙ ap (λ (m : ℕ). first_bad test bad done m (n - m)) one

  pub first_found : (i n : ℕ) → i < n → test i ≡ false → Before test i → first_bad test bad done 0 n ≡ bad i
  first_found i n h e f = passed_over_lem i n (omega arith) f ∙ search_stop i n h e

  pub none_found : (n : ℕ) → Before test n → first_bad test bad done 0 n ≡ done
  none_found n f = passed_over_lem n n (omega arith) f ∙ search_end n n (omega arith)

-- tests that agree at the indices searched find the same
pub search_same : {A : Type 0} (test other : ℕ → Bool) (bad : ℕ → A) (done : A) (i n : ℕ) → ((j : ℕ) → j < i + n → test j ≡ other j)
    → first_bad test bad done i n ≡ first_bad other bad done i n
unfolding first_bad
search_same test other bad done i zero same = refl
search_same test other bad done i (suc n) same =
    rw (same i (omega arith), search_same test other bad done (i + 1) n (λ j h. same j (omega arith)))

-- it holds at all of n indices, or one is the first at which it does not
pub data Searched (test : ℕ → Bool) (n : ℕ) : Type 0 where
  all : Before test n → Searched test n
  first : (i : ℕ) → i < n → test i ≡ false → Before test i → Searched test n

one_more : (test : ℕ → Bool) (n : ℕ) → Before test n → test n ≡ true → Before test (suc n)
one_more test n f e j h = by_order n j (λ u. let same : n ≡ j = omega arith in rw (← same) e) (λ u. f j u)

next : (test : ℕ → Bool) (n : ℕ) → Searched test n → Searched test (suc n)
next test n (first i h bad f) = first i (omega arith) bad f
next test n (all f) = by_test (test n) (λ e. all (one_more test n f e)) (λ e. first n (omega arith) e f)

pub searched : (test : ℕ → Bool) (n : ℕ) → Searched test n
searched test zero = all (λ j h. absurd (omega arith))
searched test (suc n) = next test n (searched test n)
