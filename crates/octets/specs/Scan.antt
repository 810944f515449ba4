-- Searches: n indices from i on.
use Rattle.std.specs.Prelude.{ℕ, zero, suc, ◌+◌, Bool}
use Rattle.octets.specs.Choice.{pick}

-- `f` is handed each index and what the rest gives
unfoldable pub scan : {A : Type 0} → (ℕ → A → A) → A → ℕ → ℕ → A
scan f done i zero = done
scan f done i (suc n) = f i (scan f done (i + 1) n)

-- what is said at the first index where a test fails, or at the end
unfoldable pub first_bad : {A : Type 0} → (ℕ → Bool) → (ℕ → A) → A → ℕ → ℕ → A
first_bad test bad done i zero = done
first_bad test bad done i (suc n) = pick (test i) (first_bad test bad done (i + 1) n) (bad i)
