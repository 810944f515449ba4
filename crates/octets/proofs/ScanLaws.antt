-- Laws of `scan`, for loops that count up: what is left, one index on and at the end.
use Rattle.std.proofs.Common.{◌≡◌, ℕ, suc, ◌+◌, ◌-◌, ◌<◌, ◌≤◌, arith}
use Rattle.octets.specs.Scan.{scan}

module _ {A : Type 0} (f : ℕ → A → A) (done : A) (i n : ℕ) where
  pub scan_step : i < n → scan f done i (n - i) ≡ f i (scan f done (i + 1) (n - (i + 1)))
  unfolding scan
  scan_step h = let e : n - i ≡ suc (n - (i + 1)) = omega arith in rw e

  pub scan_done : n ≤ i → scan f done i (n - i) ≡ done
  unfolding scan
  scan_done h = let e : n - i ≡ 0 = omega arith in rw e
