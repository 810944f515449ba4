-- A column is judged good exactly where it is a good column: every part of the definition, and nothing else.
use Rattle.std.specs.Prelude.{Result, Ok, ⊤}
use Rattle.answers.specs.declared.Refusal.{Refusal}
use Rattle.std.proofs.Common.{◌≡◌, ℕ, Bool, List, length}
use Rattle.layout.specs.Levels.{column_bytes}
use Rattle.columns.specs.Column.{GoodColumn}
use Rattle.columns.specs.Judged.{judged_column}
use Rattle.columns.proofs.ColumnExactly.{Row, sentinel, block, longitude, latitude, checksum, word, good, row, given}

module _ (s : List ℕ) (k posts : ℕ) (voids : Bool) (base : ℕ) where
  -- only the last row answers good
  is_good : length s ≡ column_bytes posts → (j : Result ⊤ Refusal) → Row s k posts voids base j → j ≡ Ok tt → GoodColumn s k posts voids
  is_good long _ (sentinel n) e = cc
  is_good long _ (block a n) e = cc
  is_good long _ (longitude a b n) e = cc
  is_good long _ (latitude a b c n) e = cc
  is_good long _ (checksum p n) e = cc
  is_good long _ (word h i u bad f) e = cc
  is_good long _ (good h f) e = record { long = long; right = h; words = f }

  pub good_only : length s ≡ column_bytes posts → judged_column s k posts voids base ≡ Ok tt → GoodColumn s k posts voids
  good_only long e = is_good long _ (row s k posts voids base) e

  pub good_if : GoodColumn s k posts voids → judged_column s k posts voids base ≡ Ok tt
  good_if g = given s k posts voids base (Ok tt) (good g.right g.words)
