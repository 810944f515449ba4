-- Y2: a cell under both years: one that follows year 2's rules follows year 1's; at level 2, complete or without voids, both years' or neither's.
use Prim.Native.Nat.{ℕ, ◌<◌}
use mathlib.Core.Path.{◌≡◌, refl, sym, subst, ◌∙◌}
use mathlib.Core.Bool.{Bool, true, false, true≢false}
use mathlib.Core.List.{List}
use Rattle.years.specs.declared.Year.{Year}
use Rattle.years.specs.declared.Year.TheVariants.{One, Two}
use Rattle.layout.specs.declared.Frame.{Frame}
use Rattle.posts.specs.Words.{word_allowed}
use Rattle.posts.proofs.PostWords.{other_word}
use Rattle.posts.proofs.RoundTrip.{voids_more}
use Rattle.headers.specs.Judged.{facts_in, frame_in}
use Rattle.headers.proofs.Voids.{lower_none, allowed_before, level_2_alike, complete_alike}
use Rattle.columns.specs.Column.{word_in, GoodColumn}
use Rattle.cells.specs.Cell.{column_at, Framed, Cell}

-- where more is allowed, a good column stays good
wider : (a b : Bool) → (a ≡ true → b ≡ true) → (w : ℕ) → word_allowed a w ≡ true → word_allowed b w ≡ true
wider true b more w e = rw (more refl) e
wider false true more w e = voids_more w e
wider false false more w e = e

-- no post of the bytes is void
abbrev pub NoVoids : List ℕ → Type 0
NoVoids s = (k i : ℕ) → k < (facts_in s).grid.columns → i < (facts_in s).grid.posts → word_in (column_at s (facts_in s).grid k) i ≡ 0xFFFF → ⊥

module _ (s : List ℕ) where
  pub column_before : (column : List ℕ) (k posts : ℕ) → GoodColumn column k posts (frame_in Two s).voids → GoodColumn column k posts (frame_in One s).voids
  column_before column k posts good = record {
    long = good.long;
    right = good.right;
    words = λ i h. wider (frame_in Two s).voids (frame_in One s).voids (allowed_before (facts_in s)) _ (good.words i h);
  }

  pub cell_before : Cell Two s → Cell One s
  cell_before cell = record {
    headers = cell.headers;
    framed = record { long = cell.framed.long; columns = λ k h. column_before _ k _ (cell.framed.columns k h) };
  }

  -- where no post is void, whatever the partial indicator says
  pub cell_without_voids : NoVoids s → (a b : Year) → Cell a s → Cell b s
  cell_without_voids none a b cell = record {
    headers = cell.headers;
    framed = record {
      long = cell.framed.long;
      columns = λ k h.
          let good = cell.framed.columns k h in
          record { long = good.long; right = good.right; words = λ i u. sym (other_word (frame_in a s).voids (frame_in b s).voids _ (none k i h u)) ∙ good.words i u };
    };
  }

  -- below level 2 that is all that year 2 takes away: its cells have no void, whatever the partial indicator says
  pub lower_without_voids : ((facts_in s).grid.level ≡ 2 → ⊥) → Cell Two s → NoVoids s
  unfolding word_allowed
  lower_without_voids other cell k i h u void =
      let allowed = rw (lower_none (facts_in s) other, void) at ((cell.framed.columns k h).words i u) in
      true≢false (sym allowed)

  -- where two years give one frame: at level 2, and of a complete cell
  one_frame : (a b : Year) → frame_in a s ≡ frame_in b s → Cell a s → Cell b s
  one_frame a b same cell = record { headers = cell.headers; framed = subst (λ (f : Frame). Framed f s) same cell.framed }

  pub level_2_cell : (facts_in s).grid.level ≡ 2 → (a b : Year) → Cell a s → Cell b s
  level_2_cell level a b = one_frame a b (level_2_alike (facts_in s) a b level)

  pub complete_cell : (facts_in s).partial ≡ 0 → (a b : Year) → Cell a s → Cell b s
  complete_cell none a b = one_frame a b (complete_alike (facts_in s) a b none)
