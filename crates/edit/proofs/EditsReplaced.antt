-- Edits leave the old bytes with the edited words and their columns' checksums replaced (rule D3): the words after a sequence, post by post.
use Prim.Native.Nat.{ℕ, ◌+◌, ◌*◌, ◌<◌}
use native.Mathlib.Omega.{arith}
use mathlib.Core.Path.{◌≡◌, refl, sym, ap, ◌∙◌}
use mathlib.Core.Bool.{true, false}
use mathlib.Core.List.{List, [], ◌∷◌, ◌++◌, map}
use lib.Dec.{eqb}
use lib.ListN.{length, get_or, take, drop, set}
use lib.Seq.{take_at, get_or-set_same, get_or-set_other}
use borrow.Author.Tests.{eqb-true, eq-eqb}
use Rattle.octets.specs.Choice.{pick, both}
use Rattle.octets.specs.Numbers.{Bytes, bytes_of, bytes_of_words}
use Rattle.octets.specs.Parts.{part, joined}
use Rattle.octets.proofs.ChoiceLaws.{by_test, both_true, both_is, either_first, clash}
use Rattle.octets.proofs.JoinedLaws.{part_within, places_apart, length_part, get_or_part, joined_same}
use Rattle.octets.proofs.WordLaws.{words_joined}
use Rattle.years.specs.declared.Year.{Year}
use Rattle.layout.specs.Grid.{header_bytes}
use Rattle.layout.specs.declared.Frame.{Frame}
use Rattle.layout.specs.declared.Grid.{Grid}
use Rattle.posts.specs.Heights.{word_of}
use Rattle.headers.specs.Judged.{frame_in, facts_in}
use Rattle.columns.specs.Column.{sealed, column_of_words, word_at}
use Rattle.columns.proofs.ColumnWords.{preamble_front, post_bytes}
use Rattle.cells.specs.Cell.{column_at, Cell}
use Rattle.cells.specs.Words.{columns_of_words, cell_of_words, words_of_cell}
use Rattle.cells.proofs.ColumnParts.{by_columns, column_there}
use Rattle.cells.proofs.FramedWords.{Made}
use Rattle.cells.proofs.MadeCells.{cell_made, cell_remade}
use Rattle.edit.specs.Sequence.{Call, takes, after_edits, words_after}
use Rattle.edit.specs.Replaced.{done_among, names_column, last_given, column_given, with_replaced}
use Rattle.edit.proofs.FrameEdits.{taken, with_made}
use Rattle.edit.proofs.EditWords.{edits_made, edits_left}

-- calls that do not name the column leave each of its posts
not_given : (c p : ℕ) (es : List Call) (old : List ℕ) → names_column c es ≡ false → last_given c p old es ≡ old
unfolding names_column last_given
not_given c p [] old none = refl
not_given c p (e ∷ es) old none =
    by_test (eqb e.column c)
    (λ t. clash (either_first (eqb e.column c) (names_column c es) t) none)
    (λ t. rw t (not_given c p es old (rw t at none)))

module _ (f : Frame) (h : List ℕ) where
  -- what one call leaves of post p of column c
  one_given : (c p : ℕ) → c < f.grid.columns → p < f.grid.posts → (ws old : List ℕ) → Made f h ws → (e : Call) → takes f e ≡ true
      → bytes_of 2 (get_or ws (c * f.grid.posts + p) 0) ≡ old
      → bytes_of 2 (get_or (set ws (e.column * f.grid.posts + e.post) (word_of e.height)) (c * f.grid.posts + p) 0)
      ≡ pick (both (eqb e.column c) (eqb e.post p)) (bytes_of 2 (word_of e.height)) old
  one_given c p hc hp ws old made e t same =
      let w = word_of e.height in
      let posts = f.grid.posts in
      let named = taken f e t in
      by_test (both (eqb e.column c) (eqb e.post p))
      (λ b.
      let is = both_true (eqb e.column c) (eqb e.post p) b in
      let column = eqb-true e.column c is.0 in
      let post = eqb-true e.post p is.1 in
      let within = part_within c f.grid.columns posts hc in
      rw (b, column, post) (ap (bytes_of 2) (get_or-set_same ws (c * posts + p) w 0 (omega (arith, made.all)))))
      (λ b.
      let apart : c ≡ e.column → p ≡ e.post → ⊥ = λ u v.
      clash (both_is (eqb e.column c) (eqb e.post p) (eq-eqb e.column c (sym u)) (eq-eqb e.post p (sym v))) b
      in
      rw b (ap (bytes_of 2) (get_or-set_other ws (e.column * posts + e.post) (c * posts + p) w 0
      (places_apart e.column e.post c p posts named.post hp apart)) ∙ same))

  -- and what a sequence leaves of it
  post_given : (c p : ℕ) → c < f.grid.columns → p < f.grid.posts → (es : List Call) (ws old : List ℕ) → Made f h ws
      → bytes_of 2 (get_or ws (c * f.grid.posts + p) 0) ≡ old
      → bytes_of 2 (get_or (words_after f ws es) (c * f.grid.posts + p) 0) ≡ last_given c p old (done_among es (map (takes f) es))
  unfolding words_after done_among last_given
  post_given c p hc hp [] ws old made same = same
  post_given c p hc hp (e ∷ es) ws old made same =
      by_test (takes f e)
      (λ t. rw t
      (post_given c p hc hp es (set ws (e.column * f.grid.posts + e.post) (word_of e.height))
      (pick (both (eqb e.column c) (eqb e.post p)) (bytes_of 2 (word_of e.height)) old) (rw t at (with_made f h ws made e))
      (one_given c p hc hp ws old made e t same)))
      (λ t. rw t (post_given c p hc hp es ws old made same))

-- a column by the bytes of its posts
column_by_posts : (posts k : ℕ) (vs us : List ℕ) (given : ℕ → List ℕ) → length us ≡ posts → ((p : ℕ) → p < posts → bytes_of 2 (get_or us p 0) ≡ given p)
    → column_of_words k us ≡ sealed (take (word_at 0) (column_of_words k vs) ++ joined given posts)
unfolding column_of_words
column_by_posts posts k vs us given long same =
    let words : bytes_of_words us ≡ joined given posts =
    sym (words_joined us) ∙ ap (joined (λ (i : ℕ). bytes_of 2 (get_or us i 0))) long ∙ joined_same (λ (i : ℕ). bytes_of 2 (get_or us i 0)) given posts same
    in
    let front = sym (preamble_front k vs) in
    λ i. sealed (front i ++ words i)

module _ (f : Frame) (h ws : List ℕ) (made : Made f h ws) (es : List Call) where
  abbrev ds : List Call
  ds = done_among es (map (takes f) es)

  abbrev us : List ℕ
  us = words_after f ws es

  column_after : (k : ℕ) → k < f.grid.columns
      → column_of_words k (part f.grid.posts us k) ≡ column_given f.grid.posts k (column_of_words k (part f.grid.posts ws k)) ds
  unfolding column_given
  column_after k u =
      let posts = f.grid.posts in
      let columns = f.grid.columns in
      let vs = part posts ws k in
      let stood : ℕ → List ℕ = λ p. take 2 (drop (word_at p) (column_of_words k vs)) in
      let given : ℕ → List ℕ = λ p. last_given k p (stood p) ds in
      let long = length_part posts ws columns k made.all u in
      let old : (p : ℕ) → p < posts → bytes_of 2 (get_or vs p 0) ≡ stood p = λ p v. sym (post_bytes k vs p (omega arith)) in
      let all =
      column_by_posts posts k vs (part posts us k) given (length_part posts us columns k (edits_made f h es ws made).all u)
      (λ p v.
      ap (bytes_of 2) (get_or_part posts us k p 0 v)
      ∙ post_given f h k p u v es ws (stood p) made (ap (bytes_of 2) (sym (get_or_part posts ws k p 0 v)) ∙ old p v))
      in
      by_test (names_column k ds)
      (λ t. rw t all)
      (λ t. rw t (all ∙ sym (column_by_posts posts k vs vs given long (λ p v. old p v ∙ sym (not_given k p ds (stood p) t)))))

  pub words_replaced : cell_of_words h f.grid us ≡ with_replaced f.grid (cell_of_words h f.grid ws) ds
  unfolding with_replaced
  words_replaced =
      let g = f.grid in
      let s = cell_of_words h g ws in
      let front = sym (take_at h (columns_of_words g.posts ws g.columns) header_bytes made.front) in
      let columns = joined_same (λ (k : ℕ). column_of_words k (part g.posts us k)) (λ (k : ℕ). column_given g.posts k (column_at s g k) ds) g.columns
      (λ k u. column_after k u ∙ ap (λ (c : List ℕ). column_given g.posts k c ds) (sym (column_there g made.range h ws made.front made.all k u)))
      in
      λ i. front i ++ columns i

-- D3: whatever the calls were, the bytes are the old ones with the words of the edited posts, and the checksums of their columns, replaced
pub edits_replaced : {year : Year} (s : List ℕ) → Cell year s → Bytes s → (es : List Call)
    → after_edits year s es ≡ with_replaced (facts_in s).grid s (done_among es (map (takes (frame_in year s)) es))
edits_replaced {year} s cell bytes es =
    let f = frame_in year s in
    edits_left s cell bytes es
    ∙ words_replaced f (take header_bytes s) (words_of_cell s) (cell_made s cell) es
    ∙ ap (λ (l : List ℕ). with_replaced f.grid l (done_among es (map (takes f) es))) (cell_remade s cell bytes)

-- where no call was done nothing is replaced, whatever the bytes are
pub none_replaced : (g : Grid) (s : List ℕ) → length s ≡ header_bytes + g.columns * g.bytes.column → with_replaced g s [] ≡ s
unfolding with_replaced column_given names_column
none_replaced g s long = by_columns g s long (column_at s g) (λ k h. refl)
