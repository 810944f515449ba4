-- X1, N14: the column writer answers exactly the first row of its order that holds.
use Rattle.std.specs.Prelude.{Result, Ok, ⊤}
use Rattle.answers.specs.declared.Refusal.{Refusal}
use Prim.Native.Nat.{ℕ, ◌<◌}
use mathlib.Core.Path.{◌≡◌}
use mathlib.Core.Bool.{true}
use Rattle.layout.specs.Levels.{posts_of, column_bytes}
use Rattle.layout.specs.Grid.{grid_of}
use Rattle.layout.specs.declared.Grid.{Grid}
use Rattle.sources.specs.Heights.{Heights}
use Rattle.column_writer.specs.Judged.{judged_posts}
use Rattle.column_writer.specs.Column.{zone_one_columns, placed, after_number, judged_column_write}
use Rattle.column_writer.proofs.PostsExactly.{PostsRow, posts_given, posts_row, Fine, posts_fine}
use Rattle.column_writer.proofs.NumberExactly.{NumberRow, placed_on}
use Rattle.column_writer.proofs.NumberExactly as by_number

module _ (level number : ℕ) (g : Heights) (room : ℕ) where
  -- 9 for the level, 8 for the number, then 10, 11, 12, or done
  abbrev pub ColumnRow : Result ⊤ Refusal → Type 0
  ColumnRow = NumberRow level number (PostsRow (posts_of level) (column_bytes (posts_of level)) true g room)

  -- every row's answer is given
  pub given : (x : Result ⊤ Refusal) → ColumnRow x → judged_column_write level number g room ≡ x
  unfolding judged_column_write
  given = by_number.given level number _ _ (posts_given (posts_of level) (column_bytes (posts_of level)) true g room)

  -- and every answer is a row's
  pub row : ColumnRow (judged_column_write level number g room)
  unfolding judged_column_write
  row = by_number.row level number _ _ (posts_row (posts_of level) (column_bytes (posts_of level)) true g room)

  -- by the grid that the column was placed on
  pub judged_on : (on-it : Grid) → placed level number ≡ Ok on-it → judged_posts on-it.posts on-it.bytes.column true g room ≡ judged_column_write level number g room
  unfolding judged_column_write after_number grid_of
  judged_on on-it on = rw (on, (placed_on level number on-it on).1.1)

-- what an accepted call was given
pub record Ready (level number : ℕ) (g : Heights) (room : ℕ) : Type 0 where
  pub level_there : level < 3
  pub number_there : number < zone_one_columns level
  pub fine : Fine (posts_of level) (column_bytes (posts_of level)) true g room

pub ready : (level number : ℕ) (g : Heights) (room : ℕ) → judged_column_write level number g room ≡ Ok tt → Ready level number g room
unfolding judged_column_write
ready level number g room done =
    let r = by_number.ready level number _ done in
    record { level_there = r.0; number_there = r.1.0; fine = posts_fine _ _ true g room r.1.1 }
