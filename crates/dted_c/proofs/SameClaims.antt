-- Each exported call promises what the call of `dted` does that has its name, and asks no more: so what the theorems of `demands` say of those
-- calls holds of what a C host links.
use contract.Lifetimes as L
use borrow.Fn.Kinds as K
use Rattle.dted.proofs.cell_calls.dted_intake.Reads as intake
use Rattle.dted_c.proofs.dted_intake.Reads as exported_intake
use Rattle.dted_c.proofs.dted_intake.Kinds as intake_kinds
use Rattle.dted.proofs.descriptions.dted_describe.Reads as describe
use Rattle.dted_c.proofs.dted_describe.Reads as exported_describe
use Rattle.dted_c.proofs.dted_describe.Kinds as describe_kinds
use Rattle.dted.proofs.cell_calls.dted_post.Reads as post
use Rattle.dted_c.proofs.dted_post.Reads as exported_post
use Rattle.dted_c.proofs.dted_post.Kinds as post_kinds
use Rattle.dted.proofs.cell_calls.dted_position.Reads as position
use Rattle.dted_c.proofs.dted_position.Reads as exported_position
use Rattle.dted_c.proofs.dted_position.Kinds as position_kinds
use Rattle.dted.proofs.cell_calls.dted_edit.Reads as edit
use Rattle.dted_c.proofs.dted_edit.Reads as exported_edit
use Rattle.dted_c.proofs.dted_edit.Kinds as edit_kinds
use Rattle.dted.proofs.grids.dted_grid.Reads as grid
use Rattle.dted_c.proofs.dted_grid.Reads as exported_grid
use Rattle.dted_c.proofs.dted_grid.Kinds as grid_kinds
use Rattle.dted.proofs.writers.dted_write.Reads as write
use Rattle.dted_c.proofs.dted_write.Reads as exported_write
use Rattle.dted_c.proofs.dted_write.Kinds as write_kinds
use Rattle.dted.proofs.writers.dted_write_column.Reads as write_column
use Rattle.dted_c.proofs.dted_write_column.Reads as exported_write_column
use Rattle.dted_c.proofs.dted_write_column.Kinds as write_column_kinds

pub intake_exported : (κs : L.Lfts 1) (a : K.Dens κs intake_kinds.ps) (r : _) (s : _) → exported_intake.Post κs a r s → intake.Post κs a r s
intake_exported κs a r s p = p

pub intake_asks_no_more : (κs : L.Lfts 1) (a : K.Dens κs intake_kinds.ps) → intake.Pre κs a → exported_intake.Pre κs a
intake_asks_no_more κs a p = p

pub describe_exported : (κs : L.Lfts 2) (a : K.Dens κs describe_kinds.ps) (r : _) (s : _) → exported_describe.Post κs a r s → describe.Post κs a r s
describe_exported κs a r s p = p

pub describe_asks_no_more : (κs : L.Lfts 2) (a : K.Dens κs describe_kinds.ps) → describe.Pre κs a → exported_describe.Pre κs a
describe_asks_no_more κs a p = p

pub post_exported : (κs : L.Lfts 1) (a : K.Dens κs post_kinds.ps) (r : _) (s : _) → exported_post.Post κs a r s → post.Post κs a r s
post_exported κs a r s p = p

pub post_asks_no_more : (κs : L.Lfts 1) (a : K.Dens κs post_kinds.ps) → post.Pre κs a → exported_post.Pre κs a
post_asks_no_more κs a p = p

pub position_exported : (κs : L.Lfts 1) (a : K.Dens κs position_kinds.ps) (r : _) (s : _) → exported_position.Post κs a r s → position.Post κs a r s
position_exported κs a r s p = p

pub position_asks_no_more : (κs : L.Lfts 1) (a : K.Dens κs position_kinds.ps) → position.Pre κs a → exported_position.Pre κs a
position_asks_no_more κs a p = p

pub edit_exported : (κs : L.Lfts 1) (a : K.Dens κs edit_kinds.ps) (r : _) (s : _) → exported_edit.Post κs a r s → edit.Post κs a r s
edit_exported κs a r s p = p

pub edit_asks_no_more : (κs : L.Lfts 1) (a : K.Dens κs edit_kinds.ps) → edit.Pre κs a → exported_edit.Pre κs a
edit_asks_no_more κs a p = p

pub grid_exported : (κs : L.Lfts 0) (a : K.Dens κs grid_kinds.ps) (r : _) (s : _) → exported_grid.Post κs a r s → grid.Post κs a r s
grid_exported κs a r s p = p

pub grid_asks_no_more : (κs : L.Lfts 0) (a : K.Dens κs grid_kinds.ps) → grid.Pre κs a → exported_grid.Pre κs a
grid_asks_no_more κs a p = p

pub write_exported : (κs : L.Lfts 3) (a : K.Dens κs write_kinds.ps) (r : _) (s : _) → exported_write.Post κs a r s → write.Post κs a r s
write_exported κs a r s p = p

pub write_asks_no_more : (κs : L.Lfts 3) (a : K.Dens κs write_kinds.ps) → write.Pre κs a → exported_write.Pre κs a
write_asks_no_more κs a p = p

pub write_column_exported : (κs : L.Lfts 2) (a : K.Dens κs write_column_kinds.ps) (r : _) (s : _) → exported_write_column.Post κs a r s → write_column.Post κs a r s
write_column_exported κs a r s p = p

pub write_column_asks_no_more : (κs : L.Lfts 2) (a : K.Dens κs write_column_kinds.ps) → write_column.Pre κs a → exported_write_column.Pre κs a
write_column_asks_no_more κs a p = p
