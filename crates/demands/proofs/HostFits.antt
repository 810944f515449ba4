-- What a C host's writers, description reader and grid tell fits the bits of a packed answer too (rule B1).
use Rattle.std.specs.Prelude.{Result, Ok, Err, ⊤}
use Rattle.layout.specs.declared.NoGrid.TheVariants as none
use Rattle.layout.specs.declared.NoGrid.{NoGrid}
use Rattle.layout.specs.declared.Grid.{Grid}
use Rattle.headers.specs.declared.Facts.{Facts}
use Rattle.answers.specs.declared.Refusal.{Refusal}
use Prim.Native.Nat.{ℕ, suc}
use native.Mathlib.Omega.{arith}
use mathlib.Core.Path.{◌≡◌, refl}
use mathlib.Core.Bool.{true}
use mathlib.Core.List.{List}
use lib.Dec.{lit<}
use lib.IntN.{ℤ}
use lib.ListN.{length}
use Rattle.answers.specs.Told.{told, act}
use Rattle.host_answers.specs.Apart.{Fits}
use Rattle.host_answers.specs.Apart as fits
use Rattle.headers.specs.Judged.{judged}
use Rattle.layout.specs.Levels.{posts_of, column_bytes}
use Rattle.layout.specs.Grid.{laid}
use Rattle.layout.specs.Zones.{near_edge}
use Rattle.layout.proofs.Ranges.{ranged, laid_out}
use Rattle.description.specs.Described.{described_by, described}
use Rattle.description.proofs.RangedItems.{failed_below}
use Rattle.cell_writer.specs.Cell.{posts_due, frame_for}
use Rattle.cell_writer.proofs.GridDue.{due_ranged}
use Rattle.octets.proofs.JoinedLaws.{parts_small}
use Rattle.years.specs.declared.Year.{Year}
use Rattle.description.specs.Facts.{facts_for}
use Rattle.cell_writer.proofs.ItemExactly.{item, then_rest}
use Rattle.host_items.specs.Items.{number_tests, description_of}
use Rattle.host_writers.specs.Cell.{judged_bytes, bytes_told}
use Rattle.host_writers.specs.Column.{column_bytes_told}
use Rattle.sources.specs.Heights.{in_bytes}
use Rattle.host_writers.proofs.BytesExactly as cell
use Rattle.column_writer.specs.Column.{column_told_from}
use Rattle.column_writer.proofs.ColumnExactly as column
use Rattle.host_items.proofs.ItemNumbers.{number_exactly, in_range_lem}
use Rattle.dted.specs.Grid.{said_of_laid, grid_told}
use Rattle.dted.specs.Description.{said_of_described}
use Rattle.demands.proofs.PlacesFit.{small_fits, ranged_fits, headers_fit, posts_fits, number_fits}

cell_by : (year : Year) (items : List ℤ) (grid : List ℕ) (room : ℕ) (x : Result ⊤ Refusal) → cell.CellRow year items grid room x → Fits (told act x)
unfolding number_tests
cell_by year items grid room _ (item n low) =
    small_fits 9 (suc n) (lit< tt) (lit< tt) (omega (arith, failed_below (number_tests items) n low.0))
cell_by year items grid room x (then_rest _ e r) =
    let d = description_of items in
    let g = due_ranged d (in_range_lem items ((number_exactly items).0.1 e)) (facts_for d).grid refl in
    let posts = parts_small (facts_for d).grid.columns (facts_for d).grid.posts g.columns_high (omega (arith, g.posts_high)) in
    posts_fits (posts_due (facts_for d).grid) (facts_for d).grid.bytes.cell (frame_for year d).voids (in_bytes grid) room (omega (arith, posts)) g.cell_high x r

-- the writer
pub write_fits : (year : Year) (items : List ℤ) (grid out : List ℕ) → Fits (bytes_told year items grid out)
unfolding bytes_told
write_fits year items grid out = cell_by year items grid (length out) (judged_bytes year items grid (length out)) (cell.row year items grid (length out))

-- the column writer
pub write_column_fits : (level number : ℕ) (posts out : List ℕ) → Fits (column_bytes_told level number posts out)
unfolding column_told_from
write_column_fits level number posts out =
    number_fits level number _ (posts_fits (posts_of level) (column_bytes (posts_of level)) true (in_bytes posts) (length out)) _ (column.row level number (in_bytes posts) (length out))

-- the grid
grid_by_lem : (level edge : ℕ) (x : Result Grid NoGrid) → laid level edge ≡ x → Fits (said_of_laid x)
grid_by_lem level edge (Ok g) e =
    let o = laid_out level edge g e in
    rw o.1.1 (ranged_fits _ (ranged level edge o.0 o.1.0))
grid_by_lem level edge (Err none.Level) e = fits.refused 9 1 (lit< tt) (lit< tt) (lit< tt)
grid_by_lem level edge (Err none.Zone) e = fits.refused 9 2 (lit< tt) (lit< tt) (lit< tt)

pub grid_fits : (level : ℕ) (latitude : ℤ) → Fits (grid_told level latitude)
unfolding grid_told
grid_fits level latitude = grid_by_lem level (near_edge latitude) (laid level (near_edge latitude)) refl

-- the description reader
describe_by : (s : List ℕ) (x : Result Facts Refusal) → judged s ≡ x → Fits (said_of_described (described_by s x))
describe_by s (Ok f) e = fits.done
describe_by s (Err r) e = headers_fit s r e

pub describe_fits : (s : List ℕ) → Fits (said_of_described (described s))
unfolding described
describe_fits s = describe_by s (judged s) refl
