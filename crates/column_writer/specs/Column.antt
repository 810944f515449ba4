-- The column writer (rule X1): 9 for the level, 8 for the number, then 10, 11 and 12. Voids are allowed.
use Rattle.std.specs.Prelude.{ℕ, true, List, ℤ, length, ltb, Result, Ok, Err, ⊤}
use Rattle.layout.specs.declared.Grid.{Grid}
use Rattle.answers.specs.declared.Refusal.{Refusal}
use Rattle.octets.specs.Choice.{pick}
use Rattle.answers.specs.Told.{Told, told, act}
use Rattle.answers.specs.declared.Refusal.TheVariants.{Item, OffGrid}
use Rattle.layout.specs.Levels.{posts_of, column_bytes}
use Rattle.layout.specs.Grid.{columns_of, grid_of}
use Rattle.sources.specs.Heights.{Heights, numbers, heights_of}
use Rattle.columns.specs.Column.{column_of}
use Rattle.column_writer.specs.Judged.{judged_posts, output_after}

-- the columns of a level in zone I, whose near edges begin at 0
abbrev pub zone_one_columns : ℕ → ℕ
zone_one_columns level = columns_of level 0

-- X1, N9, N8: the level's zone I grid, which has a column of this number; else 9 for the level, 8 for the number
unfoldable pub placed : ℕ → ℕ → Result Grid Refusal
placed level number =
    pick (ltb level 3)
    (pick (ltb number (zone_one_columns level)) (Ok (grid_of level 0)) (Err OffGrid))
    (Err (Item 1))

-- that refusal, else the rest
abbrev pub placed_then : Result Grid Refusal → Result ⊤ Refusal → Result ⊤ Refusal
placed_then (Ok g) rest = rest
placed_then (Err r) rest = Err r

unfoldable pub after_number : ℕ → ℕ → Result ⊤ Refusal → Result ⊤ Refusal
after_number level number rest = placed_then (placed level number) rest

-- X1: the order of the call, for an output of so many bytes
unfoldable pub judged_column_write : ℕ → ℕ → Heights → ℕ → Result ⊤ Refusal
judged_column_write level number g room = after_number level number (judged_posts (posts_of level) (column_bytes (posts_of level)) true g room)

-- what is told of the call, and the output at its end: from any source
unfoldable pub column_told_from : ℕ → ℕ → Heights → List ℕ → Told
column_told_from level number g out = told act (judged_column_write level number g (length out))

unfoldable pub column_output_from : ℕ → ℕ → Heights → List ℕ → List ℕ
column_output_from level number g out = output_after (judged_column_write level number g (length out)) (column_of number (heights_of g)) out

-- and from heights
unfoldable pub column_told : ℕ → ℕ → List ℤ → List ℕ → Told
column_told level number zs out = told act (judged_column_write level number (numbers zs) (length out))

unfoldable pub column_output : ℕ → ℕ → List ℤ → List ℕ → List ℕ
column_output level number zs out = output_after (judged_column_write level number (numbers zs) (length out)) (column_of number zs) out
