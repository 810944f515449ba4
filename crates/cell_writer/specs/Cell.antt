-- The writer of a whole cell under a year (rules W1 and W4): 9 with the lowest item, then 10, 11 and 12.
use Rattle.std.specs.Prelude.{ℕ, ◌*◌, List, ℤ, length, Option, Some, None, Result, Err, ⊤}
use Rattle.answers.specs.declared.Refusal.{Refusal}
use Rattle.answers.specs.Told.{Told, told, act}
use Rattle.answers.specs.declared.Refusal.TheVariants.{Item}
use Rattle.years.specs.declared.Year.{Year}
use Rattle.layout.specs.declared.Grid.{Grid}
use Rattle.layout.specs.declared.Frame.{Frame}
use Rattle.description.specs.Items.{bad_item}
use Rattle.headers.specs.Judged.{frame_of}
use Rattle.description.specs.Facts.{facts_for}
use Rattle.header_writer.specs.Written.{headers_for}
use Rattle.description.specs.declared.Description.{Description}
use Rattle.sources.specs.Heights.{Heights, numbers, heights_of}
use Rattle.column_writer.specs.Judged.{judged_posts, output_after}
use Rattle.cells.specs.Grid.{afresh}

-- the posts of a grid, all its columns together
abbrev pub posts_due : Grid → ℕ
posts_due g = g.columns * g.posts

-- W1, N9: 9 with the lowest item out of range; the rest where none is
abbrev pub after_item : Option ℕ → Result ⊤ Refusal → Result ⊤ Refusal
after_item None rest = rest
after_item (Some item) rest = Err (Item item)

-- the frame that headers written from a description give under a year
abbrev pub frame_for : Year → Description → Frame
frame_for year d = frame_of year (facts_for d)

-- N10, N11, N12: under a frame, for an output of so many bytes
unfoldable pub judged_under : Frame → Heights → ℕ → Result ⊤ Refusal
judged_under f g room = judged_posts (posts_due f.grid) f.grid.bytes.cell f.voids g room

-- W1: the order of the call
unfoldable pub judged_cell_write : Year → Description → Heights → ℕ → Result ⊤ Refusal
judged_cell_write year d g room = after_item (bad_item d) (judged_under (frame_for year d) g room)

-- the cell of a description and a grid
unfoldable pub cell_of : Description → List ℤ → List ℕ
cell_of d zs = afresh (headers_for d) (facts_for d).grid zs

-- W4, N15: the output at the end of a call whose items are in range
abbrev pub output_under : Year → Description → Heights → List ℕ → List ℕ
output_under year d g out = output_after (judged_under (frame_for year d) g (length out)) (cell_of d (heights_of g)) out

-- what is told of the call, and the output at its end
unfoldable pub cell_told : Year → Description → List ℤ → List ℕ → Told
cell_told year d zs out = told act (judged_cell_write year d (numbers zs) (length out))

unfoldable pub cell_output : Year → Description → List ℤ → List ℕ → List ℕ
cell_output year d zs out = output_after (judged_cell_write year d (numbers zs) (length out)) (cell_of d zs) out
