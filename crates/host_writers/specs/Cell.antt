-- The writer of a whole cell for a C host, under a year (rules W1, W4 and B2): items are numbers, and the grid is bytes.
use Rattle.std.specs.Prelude.{ℕ, List, ℤ, length, Result, ⊤}
use Rattle.answers.specs.declared.Refusal.{Refusal}
use Rattle.answers.specs.Told.{Told, told, act}
use Rattle.years.specs.declared.Year.{Year}
use Rattle.sources.specs.Heights.{in_bytes, heights_in_bytes}
use Rattle.column_writer.specs.Judged.{output_after}
use Rattle.cell_writer.specs.Cell.{frame_for, after_item, judged_under, cell_of}
use Rattle.host_items.specs.Items.{bad_number, description_of}

-- W1: the order of the call, for an output of so many bytes: 9 with the lowest item comes first
unfoldable pub judged_bytes : Year → List ℤ → List ℕ → ℕ → Result ⊤ Refusal
judged_bytes year items grid room = after_item (bad_number items) (judged_under (frame_for year (description_of items)) (in_bytes grid) room)

-- W4, N15: what is told of the call, and the output at its end
unfoldable pub bytes_told : Year → List ℤ → List ℕ → List ℕ → Told
bytes_told year items grid out = told act (judged_bytes year items grid (length out))

unfoldable pub bytes_output : Year → List ℤ → List ℕ → List ℕ → List ℕ
bytes_output year items grid out = output_after (judged_bytes year items grid (length out)) (cell_of (description_of items) (heights_in_bytes grid)) out
