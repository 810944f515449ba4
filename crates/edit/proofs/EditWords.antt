-- An edit of a cell is one word set among its words; a sequence of edits, refused ones among them, is the same words set one after the other.
use Prim.Native.Nat.{ℕ}
use mathlib.Core.Path.{◌≡◌, refl, sym, ap, subst, ◌∙◌}
use mathlib.Core.List.{List, [], ◌∷◌}
use lib.ListN.{take}
use Rattle.octets.specs.Numbers.{Bytes}
use Rattle.years.specs.declared.Year.{Year}
use Rattle.layout.specs.Grid.{header_bytes}
use Rattle.layout.specs.declared.Frame.{Frame}
use Rattle.headers.specs.Judged.{frame_in, facts_in}
use Rattle.cells.specs.Cell.{Cell}
use Rattle.cells.specs.Words.{cell_of_words, words_of_cell}
use Rattle.cells.proofs.FramedWords.{Made}
use Rattle.cells.proofs.MadeCells.{Headed, made_cell, made_frame, made_words, cell_facts, cell_headed, cell_made, cell_remade}
use Rattle.lookup.proofs.ReachedExactly.{reached_under_lem}
use Rattle.lookup.proofs.LookupLaws.{reached_made}
use Rattle.edit.specs.Edit.{judged_edit, edited}
use Rattle.edit.specs.Sequence.{Call, takes, after_edits, words_with, words_after}
use Rattle.edit.proofs.FrameEdits.{DoneExactly, in_answered, with_made, in_words}

-- E1: of any cell done is answered exactly where the call takes
pub edit_answered : {year : Year} (s : List ℕ) → Cell year s → (e : Call) → DoneExactly (judged_edit year s e.column e.post e.height) (takes (frame_in year s) e)
unfolding judged_edit
edit_answered {year} s cell e =
    rw (reached_under_lem year s e.column e.post cell.headers) (in_answered (frame_in year s) (cell_facts s cell).grid s cell.framed e)

-- under headers that give the frame
module _ {year : Year} (f : Frame) (h : List ℕ) (headed : Headed year f h) where
  pub edit_words : (ws : List ℕ) → Made f h ws → (e : Call)
      → edited year (cell_of_words h f.grid ws) e.column e.post e.height ≡ cell_of_words h f.grid (words_with f ws e)
  unfolding edited
  edit_words ws made e = rw (reached_made f h ws headed made e.column e.post) (in_words f h ws made e)

  -- call after call
  pub edits_words : (es : List Call) (ws : List ℕ) → Made f h ws → after_edits year (cell_of_words h f.grid ws) es ≡ cell_of_words h f.grid (words_after f ws es)
  unfolding after_edits words_after
  edits_words [] ws made = refl
  edits_words (e ∷ es) ws made =
      ap (λ (s : List ℕ). after_edits year s es) (edit_words ws made e) ∙ edits_words es (words_with f ws e) (with_made f h ws made e)

pub edits_made : (f : Frame) (h : List ℕ) (es : List Call) (ws : List ℕ) → Made f h ws → Made f h (words_after f ws es)
unfolding words_after
edits_made f h [] ws made = made
edits_made f h (e ∷ es) ws made = edits_made f h es (words_with f ws e) (with_made f h ws made e)

-- D3 in words: whatever the calls were, the bytes are the headers as they were and the columns of the edited words
module _ {year : Year} (s : List ℕ) (cell : Cell year s) (bytes : Bytes s) (es : List Call) where
  after_made : Made (frame_in year s) (take header_bytes s) (words_after (frame_in year s) (words_of_cell s) es)
  after_made = edits_made (frame_in year s) (take header_bytes s) es (words_of_cell s) (cell_made s cell)

  pub edits_left : after_edits year s es ≡ cell_of_words (take header_bytes s) (facts_in s).grid (words_after (frame_in year s) (words_of_cell s) es)
  edits_left =
      ap (λ (l : List ℕ). after_edits year l es) (sym (cell_remade s cell bytes))
      ∙ edits_words (frame_in year s) (take header_bytes s) (cell_headed s cell) es (words_of_cell s) (cell_made s cell)

  pub edits_cell : Cell year (after_edits year s es)
  edits_cell = rw edits_left (made_cell (frame_in year s) (take header_bytes s) _ (cell_headed s cell) after_made)

  pub edits_frame : frame_in year (after_edits year s es) ≡ frame_in year s
  edits_frame = ap (frame_in year) edits_left ∙ made_frame (frame_in year s) (take header_bytes s) _ (cell_headed s cell) after_made

  pub edits_own : words_of_cell (after_edits year s es) ≡ words_after (frame_in year s) (words_of_cell s) es
  edits_own = ap words_of_cell edits_left ∙ made_words (frame_in year s) (take header_bytes s) _ (cell_headed s cell) after_made

  -- a further call is answered as the headers say
  pub edits_answered : (e : Call) → DoneExactly (judged_edit year (after_edits year s es) e.column e.post e.height) (takes (frame_in year s) e)
  edits_answered e =
      subst (λ (f : Frame). DoneExactly (judged_edit year (after_edits year s es) e.column e.post e.height) (takes f e)) edits_frame
      (edit_answered (after_edits year s es) edits_cell e)
