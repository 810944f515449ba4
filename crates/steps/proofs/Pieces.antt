-- What a piece says where columns are due: after the last one, too short, or as its column is judged.
use Rattle.std.specs.Prelude.{Result, Ok, Err, ⊤}
use Rattle.answers.specs.declared.Refusal.{Refusal}
use Rattle.layout.specs.declared.NoGrid.TheVariants as none
use Rattle.layout.specs.declared.NoGrid.{NoGrid}
use Prim.Native.Nat.{ℕ, ◌+◌, ◌≤◌, ◌<◌}
use mathlib.Core.Path.{◌≡◌, refl}
use mathlib.Core.List.{List}
use lib.ListN.{length, take}
use borrow.Author.Tests.{le-leb, lt-leb, lt-ltb, le-ltb}
use Rattle.answers.specs.Told.{refused, more}
use Rattle.layout.specs.Grid.{laid}
use Rattle.layout.specs.declared.Grid.{Grid}
use Rattle.layout.specs.declared.Frame.{Frame}
use Rattle.layout.specs.Ranges.{Ranged}
use Rattle.layout.proofs.Ranges.{ranged, laid_out}
use Rattle.columns.specs.Judged.{judged_column}
use Rattle.cells.specs.Cell.{start_of}
use Rattle.intake.specs.Intake.{or_rest, ended}
use Rattle.steps.specs.Steps.{said_of_column, said_of_laid, said_of}
use Rattle.steps.specs.declared.ColumnsDue.{ColumnsDue}
use Rattle.steps.specs.declared.Phase.TheVariants.{Columns}

module _ (f : Frame) (k : ℕ) (piece : List ℕ) where
  pub piece_past : f.grid.columns ≤ k → said_of_column f k piece ≡ ended (f.grid.bytes.cell + length piece) f.grid
  unfolding said_of_column
  piece_past h = rw (le-ltb k f.grid.columns h)

  pub piece_short : k < f.grid.columns → length piece < f.grid.bytes.column → said_of_column f k piece ≡ refused 3 (start_of f.grid k)
  unfolding said_of_column
  piece_short h u = rw (lt-ltb k f.grid.columns h, lt-leb f.grid.bytes.column (length piece) u)

  pub piece_judged : k < f.grid.columns → f.grid.bytes.column ≤ length piece → (x : Result ⊤ Refusal)
      → judged_column (take f.grid.bytes.column piece) k f.grid.posts f.voids (start_of f.grid k) ≡ x → said_of_column f k piece ≡ or_rest x more
  unfolding said_of_column
  piece_judged h u x e = rw (lt-ltb k f.grid.columns h, le-leb f.grid.bytes.column (length piece) u, e)

-- what is laid out is in range
pub laid_ranged : (level edge : ℕ) (g : Grid) → laid level edge ≡ Ok g → Ranged g
laid_ranged level edge g l = let out = laid_out level edge g l in rw out.1.1 (ranged level edge out.0 out.1.0)

-- a state whose level or edge there is not, which no step makes, is answered as off the grid
pub no_grid : (d : ColumnsDue) (piece : List ℕ) → ((g : Grid) → laid d.level d.edge ≡ Ok g → ⊥) → said_of (Columns d) piece ≡ refused 8 0
no_grid d piece not-laid = by_laid (laid d.level d.edge) not-laid
  where
    by_laid : (x : Result Grid NoGrid) → ((g : Grid) → x ≡ Ok g → ⊥) → said_of_laid x d.voids d.next piece ≡ refused 8 0
    by_laid (Ok g) not-laid = absurd (not-laid g refl)
    by_laid (Err none.Level) not-laid = refl
    by_laid (Err none.Zone) not-laid = refl
