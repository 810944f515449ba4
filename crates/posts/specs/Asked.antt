-- What functions of this crate ask of their callers.
use Rattle.std.specs.Prelude.{ℕ, ◌+◌, ◌*◌, ◌≤◌, List, length}

-- n words of s from `at` on, so few that 16 bits hold the sum of their high bytes, and that of their low bytes
pub record FewWords (s : List ℕ) (at n : ℕ) : Type 0 where
  pub there : at + 2 * n ≤ length s
  pub few : n ≤ 256
