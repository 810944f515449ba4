-- What the program finds on standard input (rule S7): a final answer that a step gives, or an error, as a failed read answers.
use Rattle.std.specs.Prelude.{◌≡◌, true, List, ℕ, ◌≤◌, length, Result, Ok, Err}
use Rattle.answers.specs.declared.Refusal.{Refusal}
use Rattle.answers.specs.declared.Verdict.{Verdict}
use Rattle.std.specs.declared.io.Error.{Error}
use Rattle.answers.specs.Told.{told, intake}
use Rattle.steps.specs.Steps.{said_of, wanted}
use Rattle.steps.specs.Turns.{is_final, Going}
use Rattle.steps.specs.declared.Phase.{Phase}

-- S7: the year that the program names
abbrev pub year_named : ℕ
year_named = 2

-- S5, S7: never "more", and what the step says of a piece, no longer than due, in a state that "more" led to from a new one with that year
pub record Last (answer : Result Verdict Refusal) : Type 0 where
  pub final : is_final answer ≡ true
  pub phase : Phase
  pub piece : List ℕ
  pub going : Going year_named phase
  pub said : told intake answer ≡ said_of phase piece
  pub within : length piece ≤ wanted phase

-- where a read that fails answers such an error
abbrev pub FilledUpTo : (Error → Type 0) → ℕ → Result ℕ Error → Type 0
FilledUpTo IsFailure wanted (Ok n) = n ≤ wanted
FilledUpTo IsFailure wanted (Err error) = IsFailure error

abbrev pub Settled : (Error → Type 0) → Result (Result Verdict Refusal) Error → Type 0
Settled IsFailure (Ok v) = Last v
Settled IsFailure (Err error) = IsFailure error
