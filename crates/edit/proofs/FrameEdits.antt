-- An edit under any frame is one word set: done exactly where the call takes, and nothing else is changed. No word about headers.
use Rattle.std.specs.Prelude.{Result, Ok, Err, ⊤}
use Rattle.answers.specs.declared.Refusal.{Refusal}
use Prim.Native.Nat.{ℕ, ◌+◌, ◌*◌, ◌<◌}
use native.Mathlib.Omega.{arith}
use mathlib.Core.Path.{◌≡◌, refl, sym, ap, ◌∙◌}
use mathlib.Core.Bool.{Bool, true, false}
use mathlib.Core.List.{List}
use lib.Dec.{ltb}
use lib.IntN.{ℤ}
use lib.ListN.{take, drop, set, length-set}
use borrow.Author.Tests.{ltb-true}
use Rattle.octets.specs.Choice.{pick, both}
use Rattle.octets.specs.Parts.{part}
use Rattle.octets.specs.Pastes.{pasted}
use Rattle.octets.proofs.ChoiceLaws.{both_true, by_test}
use Rattle.octets.proofs.JoinedLaws.{length_part, set_in_part}
use Rattle.answers.specs.declared.Refusal.TheVariants.{OffGrid, Height}
use Rattle.layout.specs.Ranges.{Ranged}
use Rattle.layout.specs.declared.Frame.{Frame}
use Rattle.posts.specs.Heights.{height_allowed, word_of}
use Rattle.posts.proofs.RoundTrip.{word_allowed_lem}
use Rattle.columns.specs.Column.{column_of_words}
use Rattle.column_edit.specs.Stored.{stored}
use Rattle.column_edit.proofs.StoredWords.{stored_set}
use Rattle.cells.specs.Cell.{start_of, Framed}
use Rattle.cells.specs.Words.{cell_of_words}
use Rattle.cells.proofs.ColumnParts.{column_there, column_replaced}
use Rattle.cells.proofs.FramedWords.{Made, made_framed, set_made}
use Rattle.lookup.specs.Reach.{spot_in}
use Rattle.lookup.specs.declared.reach.Spot.{Spot}
use Rattle.lookup.proofs.PostReached.{framed_reached}
use Rattle.edit.specs.Edit.{judged_at, stored_in, edited_at, judged_in, edited_in}
use Rattle.edit.specs.Sequence.{Call, takes, words_with}

-- what a call that takes names
pub record Taken (f : Frame) (e : Call) : Type 0 where
  pub column : e.column < f.grid.columns
  pub post : e.post < f.grid.posts
  pub held : height_allowed f.voids e.height ≡ true

pub taken : (f : Frame) (e : Call) → takes f e ≡ true → Taken f e
taken f e t =
    let on = both_true (ltb e.column f.grid.columns) (both (ltb e.post f.grid.posts) (height_allowed f.voids e.height)) t in
    let at = both_true (ltb e.post f.grid.posts) (height_allowed f.voids e.height) on.1 in
    record { column = ltb-true _ _ on.0; post = ltb-true _ _ at.0; held = at.1 }

-- done is answered exactly where the test passes
abbrev pub DoneExactly : Result ⊤ Refusal → Bool → Type 0
DoneExactly x t = (x ≡ Ok tt → t ≡ true) × (t ≡ true → x ≡ Ok tt)

held_done : (h : Bool) → DoneExactly (pick h (Ok tt) (Err (Height 0))) h
held_done true = (λ e. refl, λ e. refl)
held_done false = (λ e. cc, λ e. cc)

-- by whether both numbers are on the grid
module _ (s : List ℕ) (spot : Spot) (p : ℕ) (z : ℤ) where
  abbrev found : Bool → Bool → Result Spot Refusal
  found a b = pick (both a b) (Ok spot) (Err OffGrid)

  left_by_lem : (a b : Bool) → edited_at (found a b) s p z ≡ pick (both a (both b (height_allowed spot.voids z))) (stored_in s spot p z) s
  left_by_lem true true = refl
  left_by_lem true false = refl
  left_by_lem false b = refl

  done_by : (a b : Bool) → DoneExactly (judged_at (found a b) z) (both a (both b (height_allowed spot.voids z)))
  done_by true true = held_done (height_allowed spot.voids z)
  done_by true false = (λ e. cc, λ e. cc)
  done_by false b = (λ e. cc, λ e. cc)

-- of bytes that follow a frame
module _ (f : Frame) (in_range_lem : Ranged f.grid) (s : List ℕ) (framed : Framed f s) (e : Call) where
  -- E1
  pub in_answered : DoneExactly (judged_in s f e.column e.post e.height) (takes f e)
  in_answered =
      rw (framed_reached s f e.column e.post in_range_lem framed)
      (done_by s (spot_in s f e.column e.post) e.post e.height (ltb e.column f.grid.columns) (ltb e.post f.grid.posts))

  pub in_left : edited_in s f e.column e.post e.height
      ≡ pick (takes f e) (stored_in s (spot_in s f e.column e.post) e.post e.height) s
  in_left =
      rw (framed_reached s f e.column e.post in_range_lem framed)
      (left_by_lem s (spot_in s f e.column e.post) e.post e.height (ltb e.column f.grid.columns) (ltb e.post f.grid.posts))

-- of columns made of words
module _ (f : Frame) (h ws : List ℕ) (made : Made f h ws) where
  abbrev s : List ℕ
  s = cell_of_words h f.grid ws

  -- E2: a word stored in its column is one word set
  pub word_stored : (c p : ℕ) (z : ℤ) → c < f.grid.columns → p < f.grid.posts
      → stored_in (cell_of_words h f.grid ws) (spot_in (cell_of_words h f.grid ws) f c p) p z ≡ cell_of_words h f.grid (set ws (c * f.grid.posts + p) (word_of z))
  unfolding stored_in
  word_stored c p z u v =
      let g = f.grid in
      let vs = part g.posts ws c in
      let n = length_part g.posts ws g.columns c made.all u in
      let column =
      ap (λ (m : ℕ). stored (take m (drop (start_of g c) s)) g.posts p (word_of z)) (sym made.range.column)
      ∙ ap (λ (x : List ℕ). stored x g.posts p (word_of z)) (column_there g made.range h ws made.front made.all c u)
      ∙ ap (λ (m : ℕ). stored (column_of_words c vs) m p (word_of z)) (sym n) ∙ stored_set c vs p (omega arith) (word_of z)
      in
      ap (pasted s (start_of g c)) column
      ∙ column_replaced g made.range h ws made.front made.all c u (set vs p (word_of z)) (length-set vs p (word_of z) ∙ n)
      ∙ ap (cell_of_words h g) (sym (set_in_part g.posts ws g.columns c p made.all u v (word_of z)))

  module _ (e : Call) where
    pub with_made : Made f h (words_with f ws e)
    with_made =
        by_test (takes f e)
        (λ t. rw t (set_made f h ws made _ (word_of e.height) (word_allowed_lem f.voids e.height (taken f e t).held)))
        (λ t. rw t made)

    -- E2, D3: one word set, or nothing
    pub in_words : edited_in (cell_of_words h f.grid ws) f e.column e.post e.height ≡ cell_of_words h f.grid (words_with f ws e)
    in_words =
        in_left f made.range s (made_framed f h ws made) e
        ∙ by_test (takes f e) (λ t. let n = taken f e t in rw t (word_stored e.column e.post e.height n.column n.post)) (λ t. rw t)
