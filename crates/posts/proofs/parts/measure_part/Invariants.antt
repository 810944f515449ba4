-- `measure_part`: what is summed and found so far, and what is left, are the whole.
use Rattle.std.proofs.Common.{◌≡◌, ℕ, ◌+◌, ◌-◌, ◌*◌, ◌<◌, ◌≤◌, Bool, List, drop, ℤ}
use Rattle.octets.specs.Choice.{both}
use Rattle.octets.specs.Sums.{sum_of, lows_of}
use Rattle.posts.specs.Parts.{extremes_allowed}
use Rattle.posts.specs.Words.{words_allowed}
use Rattle.posts.proofs.parts.measure_part.Given as goal

-- after i words: highest, deepest, and what is summed so far
pub record Measured (s : List ℕ) (at n : ℕ) (voids : Bool) (high deep : ℤ) (words highs i : ℕ) : Type 0 where
  pub kept : words < 0x10000
  pub high_bytes : highs ≤ 255 * i
  pub low_bytes : lows_of words highs ≤ 255 * i
  pub summed : highs + lows_of words highs + sum_of (drop (at + 2 * i) s) ≡ sum_of (drop at s)
  pub left : both (extremes_allowed voids high deep) (words_allowed voids s (at + 2 * i) (n - i)) ≡ words_allowed voids s at n

abbrev pub invariant-loop-i : goal.invariant-loop-i
invariant-loop-i l = Measured l.s l.at l.n l.voids l.highest l.deepest l.words l.highs l.i
