-- Lookup on an accepted cell: what each post says, and that it hangs on the headers and one column alone (rules D2 and L2).
use Rattle.std.specs.Prelude.{Result, Ok, Err}
use Rattle.lookup.specs.declared.reach.Spot.{Spot}
use Rattle.answers.specs.declared.Refusal.{Refusal}
use Rattle.headers.specs.declared.Facts.{Facts}
use Prim.Native.Nat.{ℕ, ◌+◌, ◌*◌, ◌≤◌, ◌<◌}
use native.Mathlib.Omega.{arith}
use mathlib.Core.Path.{◌≡◌, refl, sym, ap, ◌∙◌}
use mathlib.Core.List.{List}
use lib.ListN.{length, get_or, take}
use borrow.Author.Tests.{le-leb}
use Rattle.octets.proofs.ChoiceLaws.{by_order}
use Rattle.answers.specs.Told.{told, post}
use Rattle.answers.specs.declared.Refusal.TheVariants.{OffGrid}
use Rattle.years.specs.declared.Year.{Year}
use Rattle.layout.specs.Grid.{header_bytes}
use Rattle.layout.specs.declared.Frame.{Frame}
use Rattle.headers.specs.Judged.{judged, frame_in, facts_in}
use Rattle.headers.proofs.Exactly.{good_follows}
use Rattle.headers.proofs.SameHeaders.{same_headers}
use Rattle.posts.specs.Words.{post_of}
use Rattle.posts.specs.Heights.{said_by}
use Rattle.columns.specs.Column.{word_in}
use Rattle.cells.specs.Cell.{start_of, column_at, Cell}
use Rattle.cells.specs.Words.{cell_of_words}
use Rattle.cells.proofs.ColumnParts.{word_under}
use Rattle.cells.proofs.FramedWords.{Made, made_framed, words_there}
use Rattle.cells.proofs.MadeCells.{Headed, made_cell, made_frame, cell_facts}
use Rattle.lookup.specs.Reach.{reached_in, reached_under, reached}
use Rattle.lookup.specs.Lookup.{reading_of, height_said, looked_up}
use Rattle.lookup.proofs.PostReached.{off_grid, framed_at}
use Rattle.lookup.proofs.PostSaid.{said}
use Rattle.lookup.proofs.ReachedExactly.{end_in, reached_under_lem}

-- D2: every post of an accepted cell is what the word says that stands there
pub post_found : (year : Year) (s : List ℕ) → Cell year s → (c p : ℕ) → c < (facts_in s).grid.columns → p < (facts_in s).grid.posts
    → looked_up year s c p ≡ told post (Ok (post_of (word_in (column_at s (facts_in s).grid c) p)))
unfolding looked_up
post_found year s cell c p hc hp = rw (reached_under_lem year s c p cell.headers, framed_at s (frame_in year s) c p hc hp (cell_facts s cell).grid cell.framed)

-- a cell made of headers and words
module _ {year : Year} (f : Frame) (h ws : List ℕ) (headed : Headed year f h) (made : Made f h ws) where
  abbrev s : List ℕ
  s = cell_of_words h f.grid ws

  -- what follows the headers is reached under their frame
  pub reached_made : (c p : ℕ) → reached year (cell_of_words h f.grid ws) c p ≡ reached_in (cell_of_words h f.grid ws) f c p
  reached_made c p =
      reached_under_lem year s c p (made_cell f h ws headed made).headers ∙ ap (λ (x : Frame). reached_in s x c p) (made_frame f h ws headed made)

  -- each post says what its word says
  pub said_there : (c p : ℕ) → c < f.grid.columns → p < f.grid.posts
      → looked_up year (cell_of_words h f.grid ws) c p ≡ height_said (said_by (get_or ws (c * f.grid.posts + p) 0))
  unfolding looked_up
  said_there c p hc hp =
      rw (reached_made c p, framed_at s f c p hc hp made.range (made_framed f h ws made))
      (said (word_in (column_at s f.grid c) p)
      ∙ ap (λ (w : ℕ). height_said (said_by w))
      (sym (word_under f.grid s c p hc hp) ∙ ap (λ (us : List ℕ). get_or us (c * f.grid.posts + p) 0) (words_there f h ws made)))

  -- and no other numbers name one
  pub said_off : (c p : ℕ) → (c < f.grid.columns → p < f.grid.posts → ⊥) → looked_up year (cell_of_words h f.grid ws) c p ≡ told post (Err OffGrid)
  unfolding looked_up
  said_off c p away = rw (reached_made c p, off_grid s f c p away)

-- under the same headers a post of one word says one thing, and so do numbers that name none
module _ {year : Year} (f : Frame) (h ws us : List ℕ) (headed : Headed year f h) (made : Made f h ws) (other : Made f h us) (c p : ℕ) where
  alike_off : (c < f.grid.columns → p < f.grid.posts → ⊥) → looked_up year (cell_of_words h f.grid ws) c p ≡ looked_up year (cell_of_words h f.grid us) c p
  alike_off away = said_off f h ws headed made c p away ∙ sym (said_off f h us headed other c p away)

  pub alike_said : (c < f.grid.columns → p < f.grid.posts → get_or ws (c * f.grid.posts + p) 0 ≡ get_or us (c * f.grid.posts + p) 0)
      → looked_up year (cell_of_words h f.grid ws) c p ≡ looked_up year (cell_of_words h f.grid us) c p
  alike_said same =
      by_order f.grid.columns c
      (λ past. alike_off (λ hc hp. absurd (omega arith)))
      (λ hc.
      by_order f.grid.posts p
      (λ past. alike_off (λ on hp. absurd (omega arith)))
      (λ hp.
      said_there f h ws headed made c p hc hp
      ∙ ap (λ (w : ℕ). height_said (said_by w)) (same hc hp) ∙ sym (said_there f h us headed other c p hc hp)))

module _ (year : Year) (s t : List ℕ) (c p : ℕ) where
  -- under one frame, both hold the column whole and alike
  alike_under : (f : Frame) → start_of f.grid c + f.grid.bytes.column ≤ length s → start_of f.grid c + f.grid.bytes.column ≤ length t
      → column_at s f.grid c ≡ column_at t f.grid c → reached_in s f c p ≡ reached_in t f c p
  unfolding reached_in
  alike_under f hs ht e = rw (le-leb (start_of f.grid c + f.grid.bytes.column) (length s) hs, le-leb (start_of f.grid c + f.grid.bytes.column) (length t) ht, e)

  by_judged : (x : Result Facts Refusal) → judged s ≡ x → end_in s c ≤ length s → end_in s c ≤ length t
      → column_at s (facts_in s).grid c ≡ column_at t (facts_in s).grid c → reached_under year s x c p ≡ reached_under year t x c p
  by_judged (Err r) j hs ht e = refl
  by_judged (Ok f) j hs ht e = rw (good_follows s f j).1 (alike_under (frame_in year s) hs ht e)

  -- L2: bytes that agree in the headers and in one column, both holding it whole, give one answer for each of its posts
  pub same_post : header_bytes ≤ length s → header_bytes ≤ length t → take header_bytes s ≡ take header_bytes t → end_in s c ≤ length s → end_in s c ≤ length t
      → column_at s (facts_in s).grid c ≡ column_at t (facts_in s).grid c → looked_up year s c p ≡ looked_up year t c p
  unfolding looked_up reached
  same_post ls lt same hs ht e =
      ap (λ (x : Result Spot Refusal). told post (reading_of x))
      (by_judged (judged s) refl hs ht e ∙ ap (λ (x : Result Facts Refusal). reached_under year t x c p) (same_headers s t ls lt same))
