-- D4 for a C host: any two results that a call's own promise allows are equal, the answer and each lent byte.
use mathlib.Core.Path.{◌≡◌, sym, ◌∙◌}
use contract.Lifetimes as L
use borrow.Fn.Kinds as K
use Rattle.dted.proofs.cell_calls.dted_intake.Reads as intake
use Rattle.dted.proofs.cell_calls.dted_intake.Kinds as intake-kinds
use Rattle.dted.proofs.cell_calls.dted_post.Reads as post
use Rattle.dted.proofs.cell_calls.dted_post.Kinds as post-kinds
use Rattle.dted.proofs.cell_calls.dted_position.Reads as position
use Rattle.dted.proofs.cell_calls.dted_position.Kinds as position-kinds
use Rattle.dted.proofs.cell_calls.dted_edit.Reads as edit
use Rattle.dted.proofs.cell_calls.dted_edit.Kinds as edit-kinds
use Rattle.dted.proofs.descriptions.dted_describe.Reads as describe
use Rattle.dted.proofs.descriptions.dted_describe.Kinds as describe-kinds
use Rattle.dted.proofs.grids.dted_grid.Reads as grid
use Rattle.dted.proofs.grids.dted_grid.Kinds as grid-kinds
use Rattle.dted.proofs.writers.dted_write.Reads as write
use Rattle.dted.proofs.writers.dted_write.Kinds as write-kinds
use Rattle.dted.proofs.writers.dted_write_column.Reads as write-column
use Rattle.dted.proofs.writers.dted_write_column.Kinds as write-column-kinds

pub intake_settled : (κs : L.Lfts 1) (a : K.Dens κs intake-kinds.ps) (r r' : _) (s s' : _) → intake.Post κs a r s → intake.Post κs a r' s' → r ≡ r'
intake_settled κs a r r' s s' p q = p ∙ sym q

pub post_settled : (κs : L.Lfts 1) (a : K.Dens κs post-kinds.ps) (r r' : _) (s s' : _) → post.Post κs a r s → post.Post κs a r' s' → r ≡ r'
post_settled κs a r r' s s' p q = p ∙ sym q

pub position_settled : (κs : L.Lfts 1) (a : K.Dens κs position-kinds.ps) (r r' : _) (s s' : _) → position.Post κs a r s → position.Post κs a r' s' → r ≡ r'
position_settled κs a r r' s s' p q = p ∙ sym q

pub grid_settled : (κs : L.Lfts 0) (a : K.Dens κs grid-kinds.ps) (r r' : _) (s s' : _) → grid.Post κs a r s → grid.Post κs a r' s' → r ≡ r'
grid_settled κs a r r' s s' p q = p ∙ sym q

pub describe_settled : (κs : L.Lfts 2) (a : K.Dens κs describe-kinds.ps) (r r' : _) (s s' : _) → describe.Post κs a r s → describe.Post κs a r' s'
    → (r ≡ r') × (s.1.0.now ≡ s'.1.0.now)
describe_settled κs a r r' s s' p q = (p.0 ∙ sym q.0, p.1 ∙ sym q.1)

pub edit_settled : (κs : L.Lfts 1) (a : K.Dens κs edit-kinds.ps) (r r' : _) (s s' : _) → edit.Post κs a r s → edit.Post κs a r' s'
    → (r ≡ r') × (s.1.0.now ≡ s'.1.0.now)
edit_settled κs a r r' s s' p q = (p.0 ∙ sym q.0, p.1 ∙ sym q.1)

pub write_settled : (κs : L.Lfts 3) (a : K.Dens κs write-kinds.ps) (r r' : _) (s s' : _) → write.Post κs a r s → write.Post κs a r' s'
    → (r ≡ r') × (s.1.0.now ≡ s'.1.0.now)
write_settled κs a r r' s s' p q = (p.0 ∙ sym q.0, p.1 ∙ sym q.1)

pub write_column_settled : (κs : L.Lfts 2) (a : K.Dens κs write-column-kinds.ps) (r r' : _) (s s' : _)
    → write-column.Post κs a r s → write-column.Post κs a r' s' → (r ≡ r') × (s.0.now ≡ s'.0.now)
write_column_settled κs a r r' s s' p q = (p.0 ∙ sym q.0, p.1 ∙ sym q.1)
