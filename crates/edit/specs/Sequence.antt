-- A sequence of edits (rule D3): its calls, the bytes after them, and what they make of a cell's words and of a grid.
use Rattle.std.specs.Prelude.{ℕ, ◌+◌, ◌*◌, Bool, List, [], ◌∷◌, ltb, ℤ, set}
use Rattle.octets.specs.Choice.{pick, both}
use Rattle.years.specs.declared.Year.{Year}
use Rattle.layout.specs.declared.Frame.{Frame}
use Rattle.posts.specs.Heights.{height_allowed, word_of}
use Rattle.edit.specs.Edit.{edited}

pub record Call : Type 0 where
  pub column : ℕ
  pub post : ℕ
  pub height : ℤ

-- it names a post of the grid, and a height or void that the cell may hold
abbrev pub takes : Frame → Call → Bool
takes f e = both (ltb e.column f.grid.columns) (both (ltb e.post f.grid.posts) (height_allowed f.voids e.height))

-- the bytes, call after call, all under one year
unfoldable pub after_edits : Year → List ℕ → List Call → List ℕ
after_edits year s [] = s
after_edits year s (e ∷ es) = after_edits year (edited year s e.column e.post e.height) es

-- the words, with the post's word replaced where the call takes, else as they were
abbrev pub words_with : Frame → List ℕ → Call → List ℕ
words_with f ws e = pick (takes f e) (set ws (e.column * f.grid.posts + e.post) (word_of e.height)) ws

unfoldable pub words_after : Frame → List ℕ → List Call → List ℕ
words_after f ws [] = ws
words_after f ws (e ∷ es) = words_after f (words_with f ws e) es

-- the grid, with the post replaced where the call takes, else as it was
abbrev pub grid_with : Frame → List ℤ → Call → List ℤ
grid_with f zs e = pick (takes f e) (set zs (e.column * f.grid.posts + e.post) e.height) zs

unfoldable pub grid_after : Frame → List ℤ → List Call → List ℤ
grid_after f zs [] = zs
grid_after f zs (e ∷ es) = grid_after f (grid_with f zs e) es
