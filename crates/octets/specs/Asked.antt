-- What functions of this crate ask of their callers.
use Rattle.std.specs.Prelude.{ℕ, ◌+◌, ◌≤◌, List, length}

-- n bytes that are there, nine at most: their digits write a number below 10 ^ 9
pub record FewDigits (s : List ℕ) (at n : ℕ) : Type 0 where
  pub there : at + n ≤ length s
  pub few : n ≤ 9
