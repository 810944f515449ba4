-- Lookup after an edit (rule E2): the edited post says its new height or void, every other post what it said before.
use Prim.Native.Nat.{ℕ, ◌+◌, ◌*◌, ◌<◌}
use native.Mathlib.Omega.{arith}
use mathlib.Core.Path.{◌≡◌, sym, ap, ◌∙◌}
use mathlib.Core.Bool.{true}
use mathlib.Core.List.{List}
use lib.IntN.{ℤ}
use lib.ListN.{take, set}
use lib.Seq.{get_or-set_same, get_or-set_other}
use borrow.Author.Tests.{lt-ltb}
use Rattle.octets.specs.Numbers.{Bytes}
use Rattle.octets.proofs.JoinedLaws.{part_within, places_apart}
use Rattle.years.specs.declared.Year.{Year}
use Rattle.layout.specs.Grid.{header_bytes}
use Rattle.layout.specs.declared.Frame.{Frame}
use Rattle.posts.specs.Heights.{height_allowed, said_by, word_of}
use Rattle.posts.proofs.RoundTrip.{height_back, word_allowed_lem}
use Rattle.headers.specs.Judged.{frame_in, facts_in}
use Rattle.cells.specs.Cell.{Cell}
use Rattle.cells.specs.Words.{cell_of_words, words_of_cell}
use Rattle.cells.proofs.FramedWords.{Made, set_made}
use Rattle.cells.proofs.MadeCells.{cell_headed, cell_made, cell_remade}
use Rattle.lookup.specs.Lookup.{height_said, looked_up}
use Rattle.lookup.proofs.LookupLaws.{said_there, alike_said}
use Rattle.edit.specs.Edit.{edited}
use Rattle.edit.proofs.EditWords.{edit_words}

module _ {year : Year} (s : List ℕ) (cell : Cell year s) (bytes : Bytes s) (c p : ℕ) (hc : c < (facts_in s).grid.columns)
    (hp : p < (facts_in s).grid.posts) (z : ℤ) (a : height_allowed (frame_in year s).voids z ≡ true) where
  abbrev f : Frame
  f = frame_in year s

  abbrev h : List ℕ
  h = take header_bytes s

  -- the words, one of them set
  abbrev new : List ℕ
  new = set (words_of_cell s) (c * f.grid.posts + p) (word_of z)

  made : Made f h new
  made = set_made f h (words_of_cell s) (cell_made s cell) (c * f.grid.posts + p) (word_of z) (word_allowed_lem f.voids z a)

  changed : edited year s c p z ≡ cell_of_words h f.grid new
  changed =
      ap (λ (l : List ℕ). edited year l c p z) (sym (cell_remade s cell bytes))
      ∙ edit_words f h (cell_headed s cell) (words_of_cell s) (cell_made s cell) (record { column = c; post = p; height = z })
      ∙ rw (lt-ltb c f.grid.columns hc, lt-ltb p f.grid.posts hp, a)

  pub edited_post : looked_up year (edited year s c p z) c p ≡ height_said z
  edited_post =
      let i = c * f.grid.posts + p in
      let w = part_within c f.grid.columns f.grid.posts hc in
      rw changed
      (said_there f h new (cell_headed s cell) made c p hc hp
      ∙ ap (λ (u : ℕ). height_said (said_by u)) (get_or-set_same (words_of_cell s) i (word_of z) 0 (omega (arith, (cell_made s cell).all)))
      ∙ ap height_said (height_back f.voids z a))

  -- any other column or post, on the grid or off it
  pub other_post : (k i : ℕ) → (k ≡ c → i ≡ p → ⊥) → looked_up year (edited year s c p z) k i ≡ looked_up year s k i
  other_post k i other =
      ap (λ (l : List ℕ). looked_up year l k i) changed
      ∙ alike_said f h new (words_of_cell s) (cell_headed s cell) made (cell_made s cell) k i
      (λ hk hi.
      get_or-set_other (words_of_cell s) (c * f.grid.posts + p) (k * f.grid.posts + i) (word_of z) 0 (places_apart c p k i f.grid.posts hp hi other))
      ∙ ap (λ (l : List ℕ). looked_up year l k i) (cell_remade s cell bytes)
