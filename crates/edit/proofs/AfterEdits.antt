-- Edits and heights, through the words (rule D3): the grid after edits; plain words stay plain, and are the columns written afresh from that grid.
use Prim.Native.Nat.{ℕ, ◌+◌, ◌*◌}
use mathlib.Core.Path.{◌≡◌, refl, sym, ap, subst, ◌∙◌}
use mathlib.Core.List.{List, [], ◌∷◌, map}
use lib.IntN.{ℤ}
use lib.ListN.{take, set}
use Rattle.octets.specs.Numbers.{Bytes}
use Rattle.octets.proofs.ChoiceLaws.{by_test}
use Rattle.octets.proofs.JoinedLaws.{each_set, map_set}
use Rattle.years.specs.declared.Year.{Year}
use Rattle.layout.specs.Grid.{header_bytes}
use Rattle.layout.specs.declared.Frame.{Frame}
use Rattle.posts.specs.Words.{negative_zero}
use Rattle.posts.specs.Heights.{word_of, said_by}
use Rattle.posts.proofs.RoundTrip.{never_negative_zero, height_back}
use Rattle.headers.specs.Judged.{frame_in, facts_in}
use Rattle.columns.specs.Column.{words_of, Plain}
use Rattle.cells.specs.Cell.{Cell}
use Rattle.cells.specs.Words.{cell_of_words, words_of_cell}
use Rattle.cells.specs.Grid.{afresh, grid_in}
use Rattle.cells.proofs.OwnGrid.{own_words}
use Rattle.edit.specs.Sequence.{Call, takes, after_edits, words_with, words_after, grid_with, grid_after}
use Rattle.edit.proofs.FrameEdits.{taken}
use Rattle.edit.proofs.EditWords.{edits_left, edits_own}

module _ (f : Frame) where
  -- the words of an edited grid are the edited words
  one_word : (zs : List ℤ) (e : Call) → words_of (grid_with f zs e) ≡ words_with f (words_of zs) e
  one_word zs e = by_test (takes f e) (λ t. rw t (map_set word_of zs _ e.height)) (λ t. rw t)

  pub words_of_after : (es : List Call) (zs : List ℤ) → words_of (grid_after f zs es) ≡ words_after f (words_of zs) es
  unfolding grid_after words_after
  words_of_after [] zs = refl
  words_of_after (e ∷ es) zs = words_of_after es (grid_with f zs e) ∙ ap (λ (ws : List ℕ). words_after f ws es) (one_word zs e)

  -- and edited words say the edited grid, whatever the words were
  one_said : (ws : List ℕ) (e : Call) → map said_by (words_with f ws e) ≡ grid_with f (map said_by ws) e
  one_said ws e =
      by_test (takes f e)
      (λ t.
      let i = e.column * f.grid.posts + e.post in
      rw t (map_set said_by ws i (word_of e.height) ∙ ap (set (map said_by ws) i) (height_back f.voids e.height (taken f e t).held)))
      (λ t. rw t)

  pub said_after : (es : List Call) (ws : List ℕ) → map said_by (words_after f ws es) ≡ grid_after f (map said_by ws) es
  unfolding grid_after words_after
  said_after [] ws = refl
  said_after (e ∷ es) ws = said_after es (words_with f ws e) ∙ ap (λ (zs : List ℤ). grid_after f zs es) (one_said ws e)

  -- an edit puts no second word of height 0
  one_plain : (ws : List ℕ) (e : Call) → Plain ws → Plain (words_with f ws e)
  one_plain ws e plain =
      by_test (takes f e)
      (λ t. rw t
      (each_set (λ w. w ≡ negative_zero → ⊥) ws (e.column * f.grid.posts + e.post) (word_of e.height) 0
      (never_negative_zero f.voids e.height (taken f e t).held) plain))
      (λ t. rw t plain)

  pub plain_after : (es : List Call) (ws : List ℕ) → Plain ws → Plain (words_after f ws es)
  unfolding words_after
  plain_after [] ws plain = plain
  plain_after (e ∷ es) ws plain = plain_after es (words_with f ws e) (one_plain ws e plain)

module _ {year : Year} (s : List ℕ) (cell : Cell year s) (bytes : Bytes s) (es : List Call) where
  pub edits_grid : grid_in (after_edits year s es) ≡ grid_after (frame_in year s) (grid_in s) es
  edits_grid = ap (map said_by) (edits_own s cell bytes es) ∙ said_after (frame_in year s) es (words_of_cell s)

  pub edits_plain : Plain (words_of_cell s) → Plain (words_of_cell (after_edits year s es))
  edits_plain plain = subst Plain (sym (edits_own s cell bytes es)) (plain_after (frame_in year s) es (words_of_cell s) plain)

  -- D3: where every word of the cell is the writer's
  pub edits_afresh : Plain (words_of_cell s) → after_edits year s es ≡ afresh (take header_bytes s) (facts_in s).grid (grid_after (frame_in year s) (grid_in s) es)
  edits_afresh plain =
      edits_left s cell bytes es
      ∙ ap (cell_of_words (take header_bytes s) (facts_in s).grid)
      (ap (λ (ws : List ℕ). words_after (frame_in year s) ws es) (sym (own_words s cell plain)) ∙ sym (words_of_after (frame_in year s) es (grid_in s)))
