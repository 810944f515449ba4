-- D1: no entry point asks anything of its caller: whatever it is given, what its claim asks holds.
use contract.Lifetimes as L
use borrow.Fn.Kinds as K
use Rattle.headers.proofs.judge.judge.Reads as judge
use Rattle.headers.proofs.judge.judge.Kinds as judge-kinds
use Rattle.description.proofs.describe.describe.Reads as describe
use Rattle.description.proofs.describe.describe.Kinds as describe-kinds
use Rattle.description.proofs.items.bad_item.Reads as items
use Rattle.description.proofs.items.bad_item.Kinds as items-kinds
use Rattle.intake.proofs.intake.Reads as intake
use Rattle.intake.proofs.intake.Kinds as intake-kinds
use Rattle.lookup.proofs.look_up.Reads as post
use Rattle.lookup.proofs.look_up.Kinds as post-kinds
use Rattle.position.proofs.locate.Reads as position
use Rattle.position.proofs.locate.Kinds as position-kinds
use Rattle.steps.proofs.Steps.new.Reads as new
use Rattle.steps.proofs.Steps.new.Kinds as new-kinds
use Rattle.steps.proofs.Steps.step.Reads as step
use Rattle.steps.proofs.Steps.step.Kinds as step-kinds
use Rattle.steps.proofs.Steps.wanted.Reads as wanted
use Rattle.steps.proofs.Steps.wanted.Kinds as wanted-kinds
use Rattle.edit.proofs.edit.Reads as edit
use Rattle.edit.proofs.edit.Kinds as edit-kinds
use Rattle.cell_writer.proofs.write.Reads as write
use Rattle.cell_writer.proofs.write.Kinds as write-kinds
use Rattle.column_writer.proofs.write.Reads as write-column
use Rattle.column_writer.proofs.write.Kinds as write-column-kinds
use Rattle.host_writers.proofs.cell.write.Reads as write_bytes
use Rattle.host_writers.proofs.cell.write.Kinds as write-bytes-kinds
use Rattle.host_writers.proofs.column.write.Reads as write-column-bytes
use Rattle.host_writers.proofs.column.write.Kinds as write-column-bytes-kinds
use Rattle.dted.proofs.cell_calls.dted_intake.Reads as host-intake
use Rattle.dted.proofs.cell_calls.dted_intake.Kinds as host-intake-kinds
use Rattle.dted.proofs.descriptions.dted_describe.Reads as host-describe
use Rattle.dted.proofs.descriptions.dted_describe.Kinds as host-describe-kinds
use Rattle.dted.proofs.cell_calls.dted_post.Reads as host-post
use Rattle.dted.proofs.cell_calls.dted_post.Kinds as host-post-kinds
use Rattle.dted.proofs.cell_calls.dted_position.Reads as host-position
use Rattle.dted.proofs.cell_calls.dted_position.Kinds as host-position-kinds
use Rattle.dted.proofs.cell_calls.dted_edit.Reads as host-edit
use Rattle.dted.proofs.cell_calls.dted_edit.Kinds as host-edit-kinds
use Rattle.dted.proofs.grids.dted_grid.Reads as host-grid
use Rattle.dted.proofs.grids.dted_grid.Kinds as host-grid-kinds
use Rattle.dted.proofs.writers.dted_write.Reads as host-write
use Rattle.dted.proofs.writers.dted_write.Kinds as host-write-kinds
use Rattle.dted.proofs.writers.dted_write_column.Reads as host-write-column
use Rattle.dted.proofs.writers.dted_write_column.Kinds as host-write-column-kinds

-- the inner entry points
pub judge_asks_nothing : (κs : L.Lfts 1) (a : K.Dens κs judge-kinds.ps) → judge.Pre κs a
judge_asks_nothing κs a = tt

pub describe_asks_nothing : (κs : L.Lfts 1) (a : K.Dens κs describe-kinds.ps) → describe.Pre κs a
describe_asks_nothing κs a = tt

pub items_asks_nothing : (κs : L.Lfts 0) (a : K.Dens κs items-kinds.ps) → items.Pre κs a
items_asks_nothing κs a = tt

pub intake_asks_nothing : (κs : L.Lfts 1) (a : K.Dens κs intake-kinds.ps) → intake.Pre κs a
intake_asks_nothing κs a = tt

pub post_asks_nothing : (κs : L.Lfts 1) (a : K.Dens κs post-kinds.ps) → post.Pre κs a
post_asks_nothing κs a = tt

pub position_asks_nothing : (κs : L.Lfts 1) (a : K.Dens κs position-kinds.ps) → position.Pre κs a
position_asks_nothing κs a = tt

pub new_asks_nothing : (κs : L.Lfts 0) (a : K.Dens κs new-kinds.ps) → new.Pre κs a
new_asks_nothing κs a = tt

pub step_asks_nothing : (κs : L.Lfts 1) (a : K.Dens κs step-kinds.ps) → step.Pre κs a
step_asks_nothing κs a = tt

pub wanted_asks_nothing : (κs : L.Lfts 0) (a : K.Dens κs wanted-kinds.ps) → wanted.Pre κs a
wanted_asks_nothing κs a = tt

pub edit_asks_nothing : (κs : L.Lfts 1) (a : K.Dens κs edit-kinds.ps) → edit.Pre κs a
edit_asks_nothing κs a = tt

pub write_asks_nothing : (κs : L.Lfts 2) (a : K.Dens κs write-kinds.ps) → write.Pre κs a
write_asks_nothing κs a = tt

pub write_column_asks_nothing : (κs : L.Lfts 2) (a : K.Dens κs write-column-kinds.ps) → write-column.Pre κs a
write_column_asks_nothing κs a = tt

pub write_bytes_asks_nothing : (κs : L.Lfts 3) (a : K.Dens κs write-bytes-kinds.ps) → write_bytes.Pre κs a
write_bytes_asks_nothing κs a = tt

pub write_column_bytes_asks_nothing : (κs : L.Lfts 2) (a : K.Dens κs write-column-bytes-kinds.ps) → write-column-bytes.Pre κs a
write_column_bytes_asks_nothing κs a = tt

-- the exported calls
pub host_intake_asks_nothing : (κs : L.Lfts 1) (a : K.Dens κs host-intake-kinds.ps) → host-intake.Pre κs a
host_intake_asks_nothing κs a = tt

pub host_describe_asks_nothing : (κs : L.Lfts 2) (a : K.Dens κs host-describe-kinds.ps) → host-describe.Pre κs a
host_describe_asks_nothing κs a = tt

pub host_post_asks_nothing : (κs : L.Lfts 1) (a : K.Dens κs host-post-kinds.ps) → host-post.Pre κs a
host_post_asks_nothing κs a = tt

pub host_position_asks_nothing : (κs : L.Lfts 1) (a : K.Dens κs host-position-kinds.ps) → host-position.Pre κs a
host_position_asks_nothing κs a = tt

pub host_edit_asks_nothing : (κs : L.Lfts 1) (a : K.Dens κs host-edit-kinds.ps) → host-edit.Pre κs a
host_edit_asks_nothing κs a = tt

pub host_grid_asks_nothing : (κs : L.Lfts 0) (a : K.Dens κs host-grid-kinds.ps) → host-grid.Pre κs a
host_grid_asks_nothing κs a = tt

pub host_write_asks_nothing : (κs : L.Lfts 3) (a : K.Dens κs host-write-kinds.ps) → host-write.Pre κs a
host_write_asks_nothing κs a = tt

pub host_write_column_asks_nothing : (κs : L.Lfts 2) (a : K.Dens κs host-write-column-kinds.ps) → host-write-column.Pre κs a
host_write_column_asks_nothing κs a = tt
