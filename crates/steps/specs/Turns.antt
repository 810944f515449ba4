-- The turns of a caller who feeds steps until the answer is final (rules S1, S3, S5): the states met on the way, and the turns left.
use Rattle.std.specs.Prelude.{ℕ, ◌+◌, ◌-◌, ◌≤◌, ◌≡◌, Bool, true, false, List, length, Result, Ok, Err}
use Rattle.layout.specs.declared.NoGrid.TheVariants as none
use Rattle.layout.specs.declared.NoGrid.{NoGrid}
use Rattle.layout.specs.declared.Grid.{Grid}
use Rattle.answers.specs.declared.Refusal.{Refusal}
use Rattle.answers.specs.declared.Verdict.{Verdict}
use Rattle.answers.specs.Told.{more}
use Rattle.answers.specs.declared.Verdict.TheVariants.{More, Accepted}
use Rattle.layout.specs.Grid.{laid, columns_of}
use Rattle.steps.specs.Steps.{said_of, wanted, advanced}
use Rattle.steps.specs.declared.Phase.{Phase}
use Rattle.steps.specs.declared.Phase.TheVariants.{Headers, Columns, Over}

-- S5: every answer but "more" is final
abbrev pub is_final : Result Verdict Refusal → Bool
is_final (Ok More) = false
is_final (Ok (Accepted level columns posts)) = true
is_final (Err r) = true

-- S1 to S3: the states that "more" leads to, from a new one on for which this year was named, where no piece has bytes that would be passed over
pub data Going (n : ℕ) : Phase → Type 0 where
  new : Going n (Headers n)
  on : (phase : Phase) (piece : List ℕ) → Going n phase → length piece ≤ wanted phase → said_of phase piece ≡ more → Going n (advanced phase piece)

-- the columns that are left, and the end
abbrev pub turns_of : Result Grid NoGrid → ℕ → ℕ
turns_of (Ok g) k = g.columns - k + 1
turns_of (Err none.Level) k = 1
turns_of (Err none.Zone) k = 1

-- no grid has more columns than level 2 has in zone I
abbrev pub most_columns : ℕ
most_columns = columns_of 2 0

-- how many steps there are at most up to a final answer, the one that gives it among them
abbrev pub turns_left : Phase → ℕ
turns_left (Headers n) = 1 + most_columns + 1
turns_left (Columns d) = turns_of (laid d.level d.edge) d.next
turns_left (Over v) = 1
