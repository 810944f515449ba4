-- Tests over many things at once, for statements that are computed.
use Rattle.std.specs.Prelude.{ℕ, zero, suc, Bool, true, false, List, [], ◌∷◌}
use Rattle.octets.specs.Choice.{both, either}

-- every test of a list holds
abbrev pub every : List Bool → Bool
every [] = true
every (test ∷ tests) = both test (every tests)

-- a test holds at every number below n
abbrev pub all_below : (ℕ → Bool) → ℕ → Bool
all_below test zero = true
all_below test (suc n) = both (test n) (all_below test n)

-- and at one number below n at least
abbrev pub some_below : (ℕ → Bool) → ℕ → Bool
some_below test zero = false
some_below test (suc n) = either (test n) (some_below test n)
