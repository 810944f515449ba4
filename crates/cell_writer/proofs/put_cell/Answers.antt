-- `put_cell`: the headers at the front, and the columns behind them.
use Rattle.std.specs.Prelude.{Ok}
use Rattle.layout.specs.Grid.{header_bytes}
use Rattle.cells.specs.Grid.{columns_written, afresh}
use Rattle.columns.specs.Column.{words_of}
use Rattle.header_writer.proofs.WrittenLength.{length_headers}
use Rattle.header_writer.specs.Written.{headers_for}
use Rattle.description.specs.Facts.{facts_for}
use Rattle.layout.specs.declared.Grid.{Grid}
use Rattle.layout.specs.Ranges.{Ranged}
use Rattle.octets.proofs.PasteLaws.{length_part}
use Rattle.sources.specs.Heights.{Heights, heights_of}
use Rattle.sources.proofs.HeightLaws.{words_counted}
use Rattle.column_writer.proofs.OutputPut.{behind_put}
use Rattle.column_writer.specs.Judged.{output_after}
use Rattle.cell_writer.proofs.GridDue.{due_ranged, columns_bytes}
use Rattle.cell_writer.proofs.SoFar.{length_columns}
use Rattle.cell_writer.specs.Cell.{cell_of}
use mathlib.Core.Path.{ap, ◌∙◌}
use native.Mathlib.Omega.{arith}
use Rattle.cell_writer.proofs.put_cell.Given.{Over}
use Rattle.cell_writer.proofs.put_cell.Goals as goal
use Rattle.cell_writer.proofs.put_cell.Goals.{Start}

-- what is given
abbrev source : (g : Over) → Start g → Heights
source g c = g.H.Heights.given c.args.heights

within : (g : Over) (c : Start g) → Ranged c.args.grid
within g c = due_ranged c.args.d c.requires.ranged c.args.grid c.requires.due

pub put_headers-requires : goal.put_headers-requires
unfolding facts_for
put_headers-requires g c =
    let r = within g (goal.at.put_headers-requires g c).Start in
    record { room = omega (arith, r.cell, c.requires.room); ranged = c.requires.ranged; grid = c.requires.due }

pub slice_bounds-put_columns-count : goal.slice_bounds-put_columns-count
slice_bounds-put_columns-count g c = omega (arith, (within g (goal.at.slice_bounds-put_columns-count g c).Start).cell)

pub slice_bounds-put_columns-start : goal.slice_bounds-put_columns-start
slice_bounds-put_columns-start g c = omega (arith, (within g (goal.at.slice_bounds-put_columns-start g c).Start).cell)

pub put_columns-requires : goal.put_columns-requires
put_columns-requires g c =
    let r = within g (goal.at.put_columns-requires g c).Start in
    let kept = c.put_headers.auto.out in
    let part = length_part c.put_headers.new.out header_bytes c.args.grid.bytes.cell (omega (arith, r.cell)) (omega (arith, kept, c.requires.room)) in
    record {
      long = part ∙ omega (arith, columns_bytes c.args.grid r);
      all = c.requires.all;
      columns_high = r.columns_high;
      posts_high = r.posts_high;
    }

pub returns : goal.returns
unfolding cell_of
returns g c =
    let s = (goal.at.returns g c).Start in
    let grid = c.args.grid in
    let zs = heights_of (source g s) in
    let r = within g s in
    let long = length_columns grid.posts grid.columns (words_of zs) (words_counted (source g s) ∙ c.requires.all) grid.columns (omega arith) in
    let out = c.args.out.now in
    behind_put out (headers_for c.args.d) c.put_headers.new.out (columns_written grid.posts zs grid.columns) c.put_columns.new.out header_bytes grid.bytes.cell
    (length_headers c.args.d) (omega (arith, r.cell, c.requires.room)) (omega (arith, long, columns_bytes grid r))
    c.put_headers.ensures c.put_columns.ensures
    ∙ ap (λ (x : Grid). output_after (Ok tt) (afresh (headers_for c.args.d) x zs) out) c.requires.due
