-- D3 for any call that edits, whatever its answers are: a sequence of calls leaves the old bytes with the edited words and the checksums of their
-- columns replaced, which in a cell of plain words are the headers and the columns written afresh from the edited posts.
use Prim.Native.Nat.{ℕ}
use mathlib.Core.Path.{◌≡◌, refl, sym, ap, subst, ◌∙◌}
use mathlib.Core.Bool.{Bool, true, false}
use mathlib.Core.List.{List, [], ◌∷◌, map}
use lib.ListN.{take}
use Rattle.octets.specs.Numbers.{Bytes}
use Rattle.years.specs.declared.Year.{Year}
use Rattle.layout.specs.Grid.{header_bytes}
use Rattle.layout.specs.declared.Frame.{Frame}
use Rattle.headers.specs.Judged.{frame_in, facts_in}
use Rattle.columns.specs.Column.{Plain}
use Rattle.cells.specs.Cell.{Cell}
use Rattle.cells.specs.Words.{cell_of_words, words_of_cell}
use Rattle.cells.specs.Grid.{afresh, grid_in}
use Rattle.cells.proofs.FramedWords.{Made}
use Rattle.cells.proofs.MadeCells.{Headed, made_cell, made_frame, cell_headed, cell_made, cell_remade}
use Rattle.edit.specs.Edit.{edited}
use Rattle.edit.specs.Sequence.{Call, takes, after_edits, words_with, words_after, grid_after}
use Rattle.edit.specs.Replaced.{done_among, with_replaced}
use Rattle.edit.proofs.FrameEdits.{with_made}
use Rattle.edit.proofs.EditWords.{edit_words, edits_left, edits_cell}
use Rattle.edit.proofs.EditsReplaced.{edits_replaced}
use Rattle.edit.proofs.AfterEdits.{edits_grid, edits_plain, edits_afresh}

module _ {A : Type 0} (is_done : A → Bool) (year : Year) where
  -- calls under one year take bytes to bytes with these answers: each leaves what an edit leaves, and of a cell answers done exactly where it takes
  pub data Chain : List ℕ → List Call → List A → List ℕ → Type 0 where
    empty : {l : List ℕ} → Chain l [] [] l
    call : {es : List Call} {rs : List A} {l' : List ℕ} (l m : List ℕ) (e : Call) (r : A)
        → m ≡ edited year l e.column e.post e.height → (Cell year l → is_done r ≡ takes (frame_in year l) e) → Chain m es rs l' → Chain l (e ∷ es) (r ∷ rs) l'

  -- what they leave and answer, done exactly where a call takes
  pub record Left (l : List ℕ) (es : List Call) (rs : List A) (l' : List ℕ) : Type 0 where
    -- the old bytes, with each edited word and its column's checksum replaced; the same as the headers and the columns of the edited words
    pub replaced : l' ≡ with_replaced (facts_in l).grid l (done_among es (map is_done rs))
    pub words : l' ≡ cell_of_words (take header_bytes l) (facts_in l).grid (words_after (frame_in year l) (words_of_cell l) es)
    pub grid : grid_in l' ≡ grid_after (frame_in year l) (grid_in l) es
    -- of plain words: the columns written afresh from the edited posts, and the words are plain again
    pub bytes : Plain (words_of_cell l) → l' ≡ afresh (take header_bytes l) (facts_in l).grid (grid_after (frame_in year l) (grid_in l) es)
    pub plain : Plain (words_of_cell l) → Plain (words_of_cell l')
    pub cell : Cell year l'
    pub answers : map is_done rs ≡ map (takes (frame_in year l)) es

module _ {A : Type 0} {is_done : A → Bool} {year : Year} where
  -- a refused call, and then one that was done: the old bytes with the one word replaced
  pub one_done : (l l' : List ℕ) (e e' : Call) (r r' : A) → Left is_done year l (e ∷ e' ∷ []) (r ∷ r' ∷ []) l' → is_done r ≡ false → is_done r' ≡ true
      → l' ≡ with_replaced (facts_in l).grid l (e' ∷ [])
  unfolding done_among
  one_done l l' e e' r r' left refused done = left.replaced ∙ rw (refused, done)

  -- under headers h that give the frame f, call after call moves the words alone
  chain_answered : (f : Frame) (h : List ℕ) → Headed year f h → {l l' : List ℕ} {es : List Call} {rs : List A} → Chain is_done year l es rs l'
      → (ws : List ℕ) → Made f h ws → l ≡ cell_of_words h f.grid ws → map is_done rs ≡ map (takes f) es
  chain_answered f h headed empty ws made is = refl
  chain_answered f h headed (call l m e r left answered rest) ws made is =
      let first : is_done r ≡ takes f e =
      answered (rw is (made_cell f h ws headed made)) ∙ ap (λ (x : Frame). takes x e) (ap (frame_in year) is ∙ made_frame f h ws headed made)
      in
      let next = left ∙ ap (λ (s : List ℕ). edited year s e.column e.post e.height) is ∙ edit_words f h headed ws made e in
      let later = chain_answered f h headed rest (words_with f ws e) (with_made f h ws made e) next in
      λ k. first k ∷ later k

  -- the bytes are those of the definition
  chain_bytes : {l l' : List ℕ} {es : List Call} {rs : List A} → Chain is_done year l es rs l' → l' ≡ after_edits year l es
  unfolding after_edits
  chain_bytes empty = refl
  chain_bytes (call {es = es} l m e r left answered rest) = chain_bytes rest ∙ ap (λ (x : List ℕ). after_edits year x es) left

  pub chain_left : (l l' : List ℕ) (es : List Call) (rs : List A) → Chain is_done year l es rs l' → Cell year l → Bytes l → Left is_done year l es rs l'
  chain_left l l' es rs chain cell bytes =
      let same = chain_bytes chain in
      let answered =
      chain_answered (frame_in year l) (take header_bytes l) (cell_headed l cell) chain (words_of_cell l) (cell_made l cell) (sym (cell_remade l cell bytes))
      in
      record {
        replaced = same ∙ edits_replaced l cell bytes es ∙ ap (λ (ds : List Bool). with_replaced (facts_in l).grid l (done_among es ds)) (sym answered);
        words = same ∙ edits_left l cell bytes es;
        grid = ap grid_in same ∙ edits_grid l cell bytes es;
        bytes = λ plain. same ∙ edits_afresh l cell bytes es plain;
        plain = λ plain. subst (λ (x : List ℕ). Plain (words_of_cell x)) (sym same) (edits_plain l cell bytes es plain);
        cell = rw same (edits_cell l cell bytes es);
        answers = answered;
      }
