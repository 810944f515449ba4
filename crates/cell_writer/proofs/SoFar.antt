-- The output of a writer that puts column after column: what stands in it after k of them, whatever the words are.
use Prim.Native.Nat.{ℕ, ◌+◌, ◌*◌, ◌-◌, ◌<◌, ◌≤◌}
use native.Mathlib.Nat.{mul-le-mul_right}
use native.Mathlib.Omega.{arith}
use mathlib.Core.Path.{◌≡◌, refl, sym, ap, ◌∙◌}
use mathlib.Core.List.{List}
use lib.ListN.{length}
use borrow.Rule.Slice.PartMut.{put_mid}
use Rattle.octets.specs.Parts.{part, joined}
use Rattle.octets.specs.Pastes.{pasted}
use Rattle.octets.proofs.JoinedLaws.{length_part, length_joined, joined_put}
use Rattle.octets.proofs.PasteLaws.{paste_none, paste_all, length_paste, part_back}
use Rattle.layout.specs.Levels.{column_bytes}
use Rattle.columns.specs.Column.{column_of_words}
use Rattle.columns.proofs.ColumnWords.{length_column}
use Rattle.cells.specs.Words.{columns_of_words}

pub record SoFar (posts : ℕ) (ws out₀ out : List ℕ) (k : ℕ) : Type 0 where
  pub long : length out ≡ length out₀
  pub put : out ≡ pasted out₀ 0 (columns_of_words posts ws k)

pub none : (posts : ℕ) (ws out₀ : List ℕ) → SoFar posts ws out₀ out₀ 0
unfolding joined
none posts ws out₀ = record { long = refl; put = sym (paste_none out₀ 0) }

module _ (posts columns : ℕ) (ws : List ℕ) (all : length ws ≡ columns * posts) where
  -- column k, and that each has its length
  abbrev column : ℕ → List ℕ
  column k = column_of_words k (part posts ws k)

  each : (k : ℕ) → k < columns → length (column k) ≡ column_bytes posts
  each k h = length_column k (part posts ws k) ∙ omega (arith, length_part posts ws columns k all h)

  pub length_columns : (n : ℕ) → n ≤ columns → length (columns_of_words posts ws n) ≡ n * column_bytes posts
  length_columns n h = length_joined (column_bytes posts) column n (λ k u. each k (omega arith))

  module _ (out₀ : List ℕ) (room : length out₀ ≡ columns * column_bytes posts) (out : List ℕ) (k : ℕ) (s : SoFar posts ws out₀ out k) where
    -- one column more, as the part of the output that came back
    pub next : k < columns → (size : ℕ) → size ≡ column_bytes posts → (back : List ℕ) → back ≡ column_of_words k (part posts ws k)
        → SoFar posts ws out₀ (put_mid (k * size) (k * size + size - k * size) out back) (k + 1)
    next h size sized back c =
        let up : (k + 1) * column_bytes posts ≤ columns * column_bytes posts = mul-le-mul_right (column_bytes posts) (omega arith) in
        let put : put_mid (k * size) (k * size + size - k * size) out back ≡ pasted out₀ 0 (columns_of_words posts ws (k + 1)) =
        part_back out (k * size) (k * size + size - k * size) back (ap length c ∙ each k h ∙ omega (arith, sized))
        ∙ rw (c, s.put, sized) (joined_put (column_bytes posts) column columns each out₀ room k h)
        in
        record {
          long = ap length put ∙ length_paste out₀ 0 (columns_of_words posts ws (k + 1)) (rw room (omega (arith, length_columns (k + 1) (omega arith))));
          put = put;
        }

    -- after the last, the output is the columns
    pub every : k ≡ columns → out ≡ columns_of_words posts ws columns
    every e =
        s.put ∙ ap (λ (n : ℕ). pasted out₀ 0 (columns_of_words posts ws n)) e
        ∙ paste_all out₀ (columns_of_words posts ws columns) (length_columns columns (omega arith) ∙ sym room)
