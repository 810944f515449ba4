-- `measure`: the parts so far, and what is left, are the whole column.
use Rattle.std.proofs.Common.{◌≡◌, ℕ, ◌+◌, ◌-◌, ◌*◌, ◌≤◌, Bool, List, drop}
use Rattle.octets.specs.Choice.{both}
use Rattle.octets.specs.Sums.{sum_of}
use Rattle.posts.specs.Words.{words_allowed}
use Rattle.columns.proofs.measure.measure.Given as goal

pub record Measured (column : List ℕ) (posts : ℕ) (voids : Bool) (total : ℕ) (allowed : Bool) (i : ℕ) : Type 0 where
  pub due : i ≤ posts
  pub small : total ≤ 2040 + 510 * i
  pub summed : total + sum_of (drop (8 + 2 * i) column) ≡ sum_of column
  pub left : both allowed (words_allowed voids column (8 + 2 * i) (posts - i)) ≡ words_allowed voids column 8 posts

abbrev pub invariant-loop-part : goal.invariant-loop-part
invariant-loop-part l = Measured l.column l.posts l.voids l.total l.allowed (l.part * 256)
