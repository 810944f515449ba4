-- B4 over the exported calls' own promises: what a C host takes out of an answer is what the call tells. So nothing is cut, heights
-- among it, and two answers that tell something else are two numbers, of whatever calls: void is apart from every height, a height from
-- a grid.
use Prim.Native.Nat.{ℕ, ◌<◌}
use native.Mathlib.Omega.{arith}
use mathlib.Core.Path.{◌≡◌, ap, ◌∙◌}
use contract.Lifetimes as L
use borrow.Fn.Kinds as K
use Rattle.answers.specs.Told.{Told}
use Rattle.years.specs.declared.Year.{Year}
use Rattle.years.specs.Years.{Names, under}
use Rattle.years.proofs.YearLaws.{named_low, under_named}
use Rattle.host_answers.specs.Packed.{packed}
use Rattle.host_answers.specs.Apart.{told_in, Fits}
use Rattle.host_answers.proofs.TakenApart.{told_back}
use Rattle.description.specs.Described.{described}
use Rattle.intake.specs.Intake.{taken}
use Rattle.lookup.specs.Lookup.{looked_up}
use Rattle.position.specs.Position.{located}
use Rattle.edit.specs.Edit.{edit_told}
use Rattle.host_writers.specs.Cell.{bytes_told}
use Rattle.host_writers.specs.Column.{column_bytes_told}
use Rattle.dted.specs.Grid.{grid_told}
use Rattle.dted.specs.Description.{said_of_described}
use Rattle.dted.proofs.cell_calls.dted_intake.Reads as intake-call
use Rattle.dted.proofs.cell_calls.dted_intake.Kinds as intake-kinds
use Rattle.dted.proofs.cell_calls.dted_post.Reads as post-call
use Rattle.dted.proofs.cell_calls.dted_post.Kinds as post-kinds
use Rattle.dted.proofs.cell_calls.dted_position.Reads as position-call
use Rattle.dted.proofs.cell_calls.dted_position.Kinds as position-kinds
use Rattle.dted.proofs.cell_calls.dted_edit.Reads as edit-call
use Rattle.dted.proofs.cell_calls.dted_edit.Kinds as edit-kinds
use Rattle.dted.proofs.descriptions.dted_describe.Reads as describe-call
use Rattle.dted.proofs.descriptions.dted_describe.Kinds as describe-kinds
use Rattle.dted.proofs.grids.dted_grid.Reads as grid-call
use Rattle.dted.proofs.grids.dted_grid.Kinds as grid-kinds
use Rattle.dted.proofs.writers.dted_write.Reads as write-call
use Rattle.dted.proofs.writers.dted_write.Kinds as write-kinds
use Rattle.dted.proofs.writers.dted_write_column.Reads as write-column-call
use Rattle.dted.proofs.writers.dted_write_column.Kinds as write-column-kinds
use Rattle.demands.proofs.PlacesFit.{intake_fits, post_fits, position_fits, edit_fits, under_fits}
use Rattle.demands.proofs.HostFits.{write_fits, write_column_fits, grid_fits, describe_fits}

-- an answer that was packed from what fits
out_of : (t : Told) (r : ℕ) → Fits t → r ≡ packed t → told_in r ≡ t
out_of t r f p = ap told_in p ∙ told_back t f

pub intake_told : (κs : L.Lfts 1) (a : K.Dens κs intake-kinds.ps) (r : _) (s : _) → intake-call.Post κs a r s → a.0 < 4294967296
    → told_in r ≡ under a.0 (λ (year : Year). taken year a.1.0.now)
intake_told κs a r s kept small = out_of _ r (under_fits a.0 small _ (λ year. intake_fits year a.1.0.now)) kept

pub post_told : (κs : L.Lfts 1) (a : K.Dens κs post-kinds.ps) (r : _) (s : _) → post-call.Post κs a r s
    → a.0 < 4294967296 → told_in r ≡ under a.0 (λ (year : Year). looked_up year a.1.0.now a.1.1.0 a.1.1.1.0)
post_told κs a r s kept small = out_of _ r (under_fits a.0 small _ (λ year. post_fits year a.1.0.now a.1.1.0 a.1.1.1.0)) kept

pub position_told : (κs : L.Lfts 1) (a : K.Dens κs position-kinds.ps) (r : _) (s : _) → position-call.Post κs a r s
    → a.0 < 4294967296 → told_in r ≡ under a.0 (λ (year : Year). located year a.1.0.now a.1.1.0 a.1.1.1.0)
position_told κs a r s kept small = out_of _ r (under_fits a.0 small _ (λ year. position_fits year a.1.0.now a.1.1.0 a.1.1.1.0)) kept

pub edit_told_lem : (κs : L.Lfts 1) (a : K.Dens κs edit-kinds.ps) (r : _) (s : _) → edit-call.Post κs a r s
    → a.0 < 4294967296 → told_in r ≡ under a.0 (λ (year : Year). edit_told year a.1.0.now a.1.1.0 a.1.1.1.0 a.1.1.1.1.0)
edit_told_lem κs a r s kept small = out_of _ r (under_fits a.0 small _ (λ year. edit_fits year a.1.0.now a.1.1.0 a.1.1.1.0 a.1.1.1.1.0)) kept.0

pub describe_told : (κs : L.Lfts 2) (a : K.Dens κs describe-kinds.ps) (r : _) (s : _) → describe-call.Post κs a r s
    → told_in r ≡ said_of_described (described a.0.now)
describe_told κs a r s kept = out_of _ r (describe_fits a.0.now) kept.0

pub grid_told_lem : (κs : L.Lfts 0) (a : K.Dens κs grid-kinds.ps) (r : _) (s : _) → grid-call.Post κs a r s → told_in r ≡ grid_told a.0 a.1.0
grid_told_lem κs a r s kept = out_of _ r (grid_fits a.0 a.1.0) kept

pub write_told : (κs : L.Lfts 3) (a : K.Dens κs write-kinds.ps) (r : _) (s : _) → write-call.Post κs a r s
    → a.0 < 4294967296 → told_in r ≡ under a.0 (λ (year : Year). bytes_told year a.1.1.0.now a.1.1.1.0.now a.1.0.now)
write_told κs a r s kept small = out_of _ r (under_fits a.0 small _ (λ year. write_fits year a.1.1.0.now a.1.1.1.0.now a.1.0.now)) kept.0

pub write_column_told : (κs : L.Lfts 2) (a : K.Dens κs write-column-kinds.ps) (r : _) (s : _) → write-column-call.Post κs a r s
    → told_in r ≡ column_bytes_told a.1.0 a.1.1.0 a.1.1.1.0.now a.0.now
write_column_told κs a r s kept = out_of _ r (write_column_fits a.1.0 a.1.1.0 a.1.1.1.0.now a.0.now) kept.0

-- under a year that was named, whose number is small
small : (n : ℕ) (year : Year) → Names n year → n < 4294967296
small n year names = omega (arith, named_low n year names)

pub intake_told_in : (κs : L.Lfts 1) (a : K.Dens κs intake-kinds.ps) (r : _) (s : _) → intake-call.Post κs a r s → (year : Year) → Names a.0 year
    → told_in r ≡ taken year a.1.0.now
intake_told_in κs a r s kept year names =
    intake_told κs a r s kept (small a.0 year names) ∙ under_named a.0 (λ (y : Year). taken y a.1.0.now) year names

pub post_told_in : (κs : L.Lfts 1) (a : K.Dens κs post-kinds.ps) (r : _) (s : _) → post-call.Post κs a r s → (year : Year) → Names a.0 year
    → told_in r ≡ looked_up year a.1.0.now a.1.1.0 a.1.1.1.0
post_told_in κs a r s kept year names =
    post_told κs a r s kept (small a.0 year names)
    ∙ under_named a.0 (λ (y : Year). looked_up y a.1.0.now a.1.1.0 a.1.1.1.0) year names

pub position_told_in : (κs : L.Lfts 1) (a : K.Dens κs position-kinds.ps) (r : _) (s : _) → position-call.Post κs a r s → (year : Year) → Names a.0 year
    → told_in r ≡ located year a.1.0.now a.1.1.0 a.1.1.1.0
position_told_in κs a r s kept year names =
    position_told κs a r s kept (small a.0 year names)
    ∙ under_named a.0 (λ (y : Year). located y a.1.0.now a.1.1.0 a.1.1.1.0) year names

pub edit_told_in : (κs : L.Lfts 1) (a : K.Dens κs edit-kinds.ps) (r : _) (s : _) → edit-call.Post κs a r s → (year : Year) → Names a.0 year
    → told_in r ≡ edit_told year a.1.0.now a.1.1.0 a.1.1.1.0 a.1.1.1.1.0
edit_told_in κs a r s kept year names =
    edit_told_lem κs a r s kept (small a.0 year names)
    ∙ under_named a.0 (λ (y : Year). edit_told y a.1.0.now a.1.1.0 a.1.1.1.0 a.1.1.1.1.0) year names
