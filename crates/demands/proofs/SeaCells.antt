-- A cell may have 8000 hex for every post, and is then not its columns written afresh: what D3 and X2 say of those needs its condition. Lookups
-- answer 0 everywhere on it, and a call of the edit that was done, inner or exported, replaces its own word alone.
use Rattle.std.specs.Prelude.{Result, ⊤}
use Rattle.answers.specs.declared.Refusal.{Refusal}
use Prim.Native.Nat.{ℕ, zero, suc, ◌+◌, ◌*◌, ◌<◌}
use native.Mathlib.Omega.{arith}
use mathlib.Core.Path.{◌≡◌, sym, ap, subst, ◌∙◌}
use mathlib.Core.Bool.{true, false}
use mathlib.Core.List.{List, [], ◌∷◌}
use lib.IntN.{pos}
use lib.ListN.{length, get_or, take}
use contract.Lifetimes as L
use borrow.Fn.Kinds as K
use Rattle.octets.specs.Numbers.{Bytes}
use Rattle.octets.proofs.JoinedLaws.{length_listed, get_or_listed, part_within}
use Rattle.answers.specs.Told.{Told, height, height_at}
use Rattle.years.specs.declared.Year.{Year}
use Rattle.years.specs.Years.{Names}
use Rattle.layout.specs.Grid.{header_bytes}
use Rattle.posts.specs.Words.{word_allowed, negative_zero}
use Rattle.posts.proofs.PostWords.{negative_zero_lem}
use Rattle.headers.specs.Judged.{facts_in}
use Rattle.description.specs.Items.{in_range}
use Rattle.description.specs.declared.Description.{Description}
use Rattle.description.specs.Facts.{facts_for}
use Rattle.header_writer.specs.Written.{headers_for}
use Rattle.header_writer.proofs.WrittenLength.{length_headers}
use Rattle.columns.specs.Column.{Plain}
use Rattle.cells.specs.Cell.{Cell}
use Rattle.cells.specs.Words.{words_of_cell}
use Rattle.cells.specs.Grid.{afresh, grid_in}
use Rattle.cells.proofs.ColumnParts.{length_under, word_under}
use Rattle.cells.proofs.FramedWords.{Made}
use Rattle.cells.proofs.MadeCells.{headed_range, made_cell, made_words}
use Rattle.cells.proofs.OwnGrid.{afresh_plain}
use Rattle.cell_writer.specs.Cell.{posts_due, frame_for}
use Rattle.cell_writer.proofs.WrittenCell.{written_headed}
use Rattle.edit.specs.Replaced.{with_replaced}
use Rattle.edit.proofs.edit.Reads as edit
use Rattle.edit.proofs.edit.Kinds as kinds
use Rattle.dted.proofs.cell_calls.dted_edit.Reads as host-edit
use Rattle.dted.proofs.cell_calls.dted_edit.Kinds as host-kinds
use Rattle.demands.specs.Sea.{sea_words, sea_cell}
use Rattle.demands.proofs.PostsAnswered.{stored_at, Answered, AnsweredNear}
use Rattle.demands.proofs.EditedCells as inner
use Rattle.demands.proofs.HostEdits as host

module _ (year : Year) (d : Description) (e : in_range d ≡ true) where
  abbrev posts : ℕ
  posts = posts_due (facts_for d).grid

  word_at_lem : (i : ℕ) → i < posts → get_or (sea_words d) i 0 ≡ negative_zero
  word_at_lem i h = get_or_listed (λ (j : ℕ). negative_zero) posts i 0 h

  made : Made (frame_for year d) (headers_for d) (sea_words d)
  made = record {
    range = headed_range (frame_for year d) (headers_for d) (written_headed year d e);
    front = length_headers d;
    all = length_listed (λ (i : ℕ). negative_zero) posts;
    allowed = λ i h.
        let u : i < posts = subst (λ (n : ℕ). i < n) (length_listed (λ (j : ℕ). negative_zero) posts) h in
        subst (λ (w : ℕ). word_allowed (frame_for year d).voids w ≡ true) (sym (word_at_lem i u)) (negative_zero_lem (frame_for year d).voids).0;
  }

  pub sea_accepted : Cell year (sea_cell d)
  sea_accepted = made_cell (frame_for year d) (headers_for d) (sea_words d) (written_headed year d e) made

  some_post : (c p : ℕ) → 0 < c → 0 < p → 0 < c * p
  some_post zero p h k = absurd (omega arith)
  some_post (suc c) p h k = omega arith

  pub sea_not_plain : Plain (words_of_cell (sea_cell d)) → ⊥
  sea_not_plain plain =
      let g = (facts_for d).grid in
      let u : 0 < posts = some_post g.columns g.posts (omega (arith, made.range.columns_low)) (omega (arith, made.range.posts_low)) in
      subst Plain (made_words (frame_for year d) (headers_for d) (sea_words d) (written_headed year d e) made) plain 0 (subst (λ (n : ℕ). 0 < n) (sym made.all) u) (word_at_lem 0 u)

  pub sea_not_afresh : afresh (take header_bytes (sea_cell d)) (facts_in (sea_cell d)).grid (grid_in (sea_cell d)) ≡ sea_cell d → ⊥
  sea_not_afresh same = sea_not_plain (afresh_plain (sea_cell d) sea_accepted same)

  sea_stored : (c p : ℕ) → c < (facts_in (sea_cell d)).grid.columns → p < (facts_in (sea_cell d)).grid.posts → stored_at (sea_cell d) c p ≡ negative_zero
  sea_stored c p u v =
      let s = sea_cell d in
      let g = (facts_in s).grid in
      let words = made_words (frame_for year d) (headers_for d) (sea_words d) (written_headed year d e) made in
      let i = c * g.posts + p in
      let within = part_within c g.columns g.posts u in
      let all : length (words_of_cell s) ≡ posts = ap length words ∙ made.all in
      sym (word_under g s c p u v) ∙ ap (λ (ws : List ℕ). get_or ws i 0) words ∙ word_at_lem i (omega (arith, all, length_under g s))

  -- P4: whatever a lookup is asked for there, by column and number or by position
  pub sea_post : (c p : ℕ) (t : Told) → c < (facts_in (sea_cell d)).grid.columns → p < (facts_in (sea_cell d)).grid.posts → Answered year (sea_cell d) c p t
      → t ≡ height (pos 0)
  sea_post c p t u v answered = answered.zero (sea_stored c p u v)

  pub sea_position : (north east : ℕ) (t : Told) (near : AnsweredNear year (sea_cell d) north east t) → t ≡ height_at near.column near.number (pos 0)
  sea_position north east t near = near.zero (sea_stored near.column near.number near.on_grid.0 near.on_grid.1)

  -- D3: a refused call and then one that was done, which leaves 8000 hex in every post but its own
  pub sea_edited : (κs κs' : L.Lfts 1) (a : K.Dens κs kinds.ps) (b : K.Dens κs' kinds.ps) (r q : Result ⊤ Refusal) (s t : _)
      → edit.Post κs a r s → edit.Post κs' b q t → Names a.0 year → Names b.0 year → a.1.0.now ≡ sea_cell d → b.1.0.now ≡ s.1.0.now → Bytes (sea_cell d)
      → inner.is_done r ≡ false → inner.is_done q ≡ true
      → t.1.0.now ≡ with_replaced (facts_in (sea_cell d)).grid (sea_cell d) (inner.call_of κs' b ∷ [])
  sea_edited κs κs' a b r q s t kept kept' names names' sea same bytes refused done =
      inner.refused_then_done year κs κs' a b r q s t kept kept' names names' same (subst (Cell year) (sym sea) sea_accepted) (subst Bytes (sym sea) bytes) refused done
      ∙ ap (λ (l : List ℕ). with_replaced (facts_in l).grid l (inner.call_of κs' b ∷ [])) sea

  pub host_sea_edited : (κs κs' : L.Lfts 1) (a : K.Dens κs host-kinds.ps) (b : K.Dens κs' host-kinds.ps) (r q : ℕ) (s t : _)
      → host-edit.Post κs a r s → host-edit.Post κs' b q t → Names a.0 year → Names b.0 year → a.1.0.now ≡ sea_cell d → b.1.0.now ≡ s.1.0.now
      → Bytes (sea_cell d) → host.is_done r ≡ false → host.is_done q ≡ true
      → t.1.0.now ≡ with_replaced (facts_in (sea_cell d)).grid (sea_cell d) (host.call_of κs' b ∷ [])
  host_sea_edited κs κs' a b r q s t kept kept' names names' sea same bytes refused done =
      host.refused_then_done year κs κs' a b r q s t kept kept' names names' same (subst (Cell year) (sym sea) sea_accepted) (subst Bytes (sym sea) bytes) refused done
      ∙ ap (λ (l : List ℕ). with_replaced (facts_in l).grid l (host.call_of κs' b ∷ [])) sea
