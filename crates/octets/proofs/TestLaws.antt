-- Laws of computed tests: what they give at every number below n, and at every place of a list of tests.
use Rattle.std.proofs.Common.{◌≡◌, ℕ, zero, suc, ◌<◌, Bool, true, false, T, List, [], ◌∷◌, get_or, sym, refl, ◌∙◌, subst, ⊎_elim, le_of_suc-le-suc, not-suc-le-zero, eq-or-lt_of_le, arith}
use mathlib.Core.Bool.{false≢true}
use Rattle.octets.specs.Choice.{both}
use Rattle.octets.specs.Tests.{every, all_below, some_below}
use Rattle.octets.proofs.ChoiceLaws.{by_test, by_equal}

pub both_left : (a b : Bool) → T (both a b) → T a
both_left true b t = tt
both_left false b t = t

pub both_right : (a b : Bool) → T (both a b) → T b
both_right true b t = t
both_right false b t = absurd t

pub below : (test : ℕ → Bool) (n : ℕ) → T (all_below test n) → (k : ℕ) → k < n → T (test k)
below test zero t k h = absurd (not-suc-le-zero h)
below test (suc n) t k h =
    ⊎_elim (λ e. subst (λ (m : ℕ). T (test m)) (sym e) (both_left (test n) (all_below test n) t))
    (λ less. below test n (both_right (test n) (all_below test n) t) k less)
    (eq-or-lt_of_le (le_of_suc-le-suc h))

pub each : (ts : List Bool) → T (every ts) → (k : ℕ) → T (get_or ts k true)
each [] h k = tt
each (t ∷ ts) h zero = both_left t (every ts) h
each (t ∷ ts) h (suc k) = each ts (both_right t (every ts) h) k

-- the same, as equations
pub passes : (b : Bool) → T b → b ≡ true
passes true t = refl
passes false t = absurd t

pub each_true : (ts : List Bool) → every ts ≡ true → (k : ℕ) → get_or ts k true ≡ true
each_true ts e k = passes (get_or ts k true) (each ts (subst T (sym e) tt) k)

-- a test that holds at some number below n
pub record SomeAt (test : ℕ → Bool) (n : ℕ) : Type 0 where
  pub at : ℕ
  pub below : at < n
  pub holds : test at ≡ true

pub some_at : (test : ℕ → Bool) (n : ℕ) → some_below test n ≡ true → SomeAt test n
some_at test zero e = absurd (false≢true e)
some_at test (suc n) e =
    by_test (test n)
    (λ t. record { at = n; below = omega arith; holds = t })
    (λ t. let r = some_at test n (rw t at e) in record { at = r.at; below = omega (arith, r.below); holds = r.holds })

pub some_found : (test : ℕ → Bool) (n k : ℕ) → k < n → test k ≡ true → some_below test n ≡ true
some_found test zero k h e = absurd (omega arith)
some_found test (suc n) k h e =
    by_test (test n)
    (λ t. rw t)
    (λ t. rw t (by_equal k n (λ q. absurd (false≢true (sym t ∙ rw q at e))) (λ ne. some_found test n k (omega arith) e)))
