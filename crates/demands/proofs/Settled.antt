-- D4: any two results that an entry point's own promise allows are equal: the answer, and each byte that it was lent.
use Rattle.std.specs.Prelude.{Result}
use Rattle.answers.specs.declared.Refusal.{Refusal}
use Rattle.answers.specs.declared.Verdict.{Verdict}
use mathlib.Core.Path.{◌≡◌, sym, ap, ◌∙◌}
use contract.Lifetimes as L
use borrow.Fn.Kinds as K
use Rattle.answers.specs.Told.{intake, post, position, act}
use Rattle.answers.specs.Told as telling
use Rattle.answers.proofs.Injective.{told_injective}
use Rattle.answers.proofs.number.Reads as number
use Rattle.answers.proofs.number.Kinds as number-kinds
use Rattle.layout.proofs.lay.Reads as lay
use Rattle.layout.proofs.lay.Kinds as lay-kinds
use Rattle.headers.proofs.judge.judge.Reads as judge
use Rattle.headers.proofs.judge.judge.Kinds as judge-kinds
use Rattle.description.proofs.describe.describe.Reads as describe
use Rattle.description.proofs.describe.describe.Kinds as describe-kinds
use Rattle.description.proofs.items.bad_item.Reads as bad-item
use Rattle.description.proofs.items.bad_item.Kinds as bad-item-kinds
use Rattle.intake.proofs.intake.Reads as taking
use Rattle.intake.proofs.intake.Kinds as taking-kinds
use Rattle.intake.proofs.end.Reads as ending
use Rattle.intake.proofs.end.Kinds as ending-kinds
use Rattle.lookup.proofs.reach.reach.Reads as reach-call
use Rattle.lookup.proofs.reach.reach.Kinds as reach-kinds
use Rattle.lookup.proofs.look_up.Reads as looking
use Rattle.lookup.proofs.look_up.Kinds as looking-kinds
use Rattle.position.proofs.locate.Reads as locate-call
use Rattle.position.proofs.locate.Kinds as locate-kinds
use Rattle.steps.specs.Steps.{after}
use Rattle.steps.proofs.Steps.new.Reads as new
use Rattle.steps.proofs.Steps.new.Kinds as new-kinds
use Rattle.steps.proofs.Steps.step.Reads as step
use Rattle.steps.proofs.Steps.step.Kinds as step-kinds
use Rattle.steps.proofs.Steps.wanted.Reads as wanted
use Rattle.steps.proofs.Steps.wanted.Kinds as wanted-kinds
use Rattle.cell_writer.proofs.write.Reads as write_cell
use Rattle.cell_writer.proofs.write.Kinds as write-cell-kinds
use Rattle.column_writer.proofs.write.Reads as write-column
use Rattle.column_writer.proofs.write.Kinds as write-column-kinds
use Rattle.host_writers.proofs.cell.write.Reads as write_bytes
use Rattle.host_writers.proofs.cell.write.Kinds as write-bytes-kinds
use Rattle.host_writers.proofs.column.write.Reads as write-column-bytes
use Rattle.host_writers.proofs.column.write.Kinds as write-column-bytes-kinds
use Rattle.edit.proofs.edit.Reads as edit-call
use Rattle.edit.proofs.edit.Kinds as edit-kinds

-- the number and place of a refusal, and the grid of a level and an edge
pub number_settled : (κs : L.Lfts 0) (a : K.Dens κs number-kinds.ps) (r r' : _) (s s' : _) → number.Post κs a r s → number.Post κs a r' s' → r ≡ r'
number_settled κs a r r' s s' p q = λ k. record { 0 = telling.number_told ((p ∙ sym q) k); 1 = telling.place_told ((p ∙ sym q) k) }

pub lay_settled : (κs : L.Lfts 0) (a : K.Dens κs lay-kinds.ps) (r r' : _) (s s' : _) → lay.Post κs a r s → lay.Post κs a r' s' → r ≡ r'
lay_settled κs a r r' s s' p q = p ∙ sym q

-- headers, judged and described, and the items of a description
pub judge_settled : (κs : L.Lfts 1) (a : K.Dens κs judge-kinds.ps) (r r' : _) (s s' : _) → judge.Post κs a r s → judge.Post κs a r' s' → r ≡ r'
judge_settled κs a r r' s s' p q = p ∙ sym q

pub describe_settled : (κs : L.Lfts 1) (a : K.Dens κs describe-kinds.ps) (r r' : _) (s s' : _) → describe.Post κs a r s → describe.Post κs a r' s' → r ≡ r'
describe_settled κs a r r' s s' p q = p ∙ sym q

pub items_settled : (κs : L.Lfts 0) (a : K.Dens κs bad-item-kinds.ps) (r r' : _) (s s' : _) → bad-item.Post κs a r s → bad-item.Post κs a r' s' → r ≡ r'
items_settled κs a r r' s s' p q = p ∙ sym q

-- intake and the lookups: what is told decides the answer
pub intake_settled : (κs : L.Lfts 1) (a : K.Dens κs taking-kinds.ps) (r r' : _) (s s' : _) → taking.Post κs a r s → taking.Post κs a r' s' → r ≡ r'
intake_settled κs a r r' s s' p q = told_injective intake r r' (p ∙ sym q)

pub end_settled : (κs : L.Lfts 0) (a : K.Dens κs ending-kinds.ps) (r r' : _) (s s' : _) → ending.Post κs a r s → ending.Post κs a r' s' → r ≡ r'
end_settled κs a r r' s s' p q = told_injective intake r r' (p ∙ sym q)

pub reach_settled : (κs : L.Lfts 1) (a : K.Dens κs reach-kinds.ps) (r r' : _) (s s' : _) → reach-call.Post κs a r s → reach-call.Post κs a r' s' → r ≡ r'
reach_settled κs a r r' s s' p q = p ∙ sym q

pub post_settled : (κs : L.Lfts 1) (a : K.Dens κs looking-kinds.ps) (r r' : _) (s s' : _) → looking.Post κs a r s → looking.Post κs a r' s' → r ≡ r'
post_settled κs a r r' s s' p q = told_injective post r r' (p ∙ sym q)

pub position_settled : (κs : L.Lfts 1) (a : K.Dens κs locate-kinds.ps) (r r' : _) (s s' : _) → locate-call.Post κs a r s → locate-call.Post κs a r' s' → r ≡ r'
position_settled κs a r r' s s' p q = told_injective position r r' (p ∙ sym q)

-- stepwise intake: the answer decides the state
pub new_settled : (κs : L.Lfts 0) (a : K.Dens κs new-kinds.ps) (r r' : _) (s s' : _) → new.Post κs a r s → new.Post κs a r' s' → r ≡ r'
new_settled κs a r r' s s' p q = λ k. record { phase = (p ∙ sym q) k }

pub wanted_settled : (κs : L.Lfts 0) (a : K.Dens κs wanted-kinds.ps) (r r' : _) (s s' : _) → wanted.Post κs a r s → wanted.Post κs a r' s' → r ≡ r'
wanted_settled κs a r r' s s' p q = p.0 ∙ sym q.0

pub step_settled : (κs : L.Lfts 1) (a : K.Dens κs step-kinds.ps) (r r' : _) (s s' : _) → step.Post κs a r s → step.Post κs a r' s' → r ≡ r'
step_settled κs a r r' s s' p q =
    let same : r.answer ≡ r'.answer = told_injective intake r.answer r'.answer (p.said ∙ sym q.said) in
    let state : r.steps.phase ≡ r'.steps.phase = p.state ∙ ap (λ (v : Result Verdict Refusal). after a.0.phase a.1.0.now v) same ∙ sym q.state in
    λ k. record { steps = record { phase = state k }; answer = same k }

-- the writers and the edit: the answer, and every byte of what was lent
pub write_settled : (κs : L.Lfts 2) (a : K.Dens κs write-cell-kinds.ps) (r r' : _) (s s' : _) → write_cell.Post κs a r s → write_cell.Post κs a r' s'
    → (r ≡ r') × (s.1.0.now ≡ s'.1.0.now)
write_settled κs a r r' s s' p q = (told_injective act r r' (p.0 ∙ sym q.0), p.1 ∙ sym q.1)

pub write_column_settled : (κs : L.Lfts 2) (a : K.Dens κs write-column-kinds.ps) (r r' : _) (s s' : _)
    → write-column.Post κs a r s → write-column.Post κs a r' s' → (r ≡ r') × (s.0.now ≡ s'.0.now)
write_column_settled κs a r r' s s' p q = (told_injective act r r' (p.0 ∙ sym q.0), p.1 ∙ sym q.1)

pub write_bytes_settled : (κs : L.Lfts 3) (a : K.Dens κs write-bytes-kinds.ps) (r r' : _) (s s' : _)
    → write_bytes.Post κs a r s → write_bytes.Post κs a r' s' → (r ≡ r') × (s.1.0.now ≡ s'.1.0.now)
write_bytes_settled κs a r r' s s' p q = (told_injective act r r' (p.0 ∙ sym q.0), p.1 ∙ sym q.1)

pub write_column_bytes_settled : (κs : L.Lfts 2) (a : K.Dens κs write-column-bytes-kinds.ps) (r r' : _) (s s' : _)
    → write-column-bytes.Post κs a r s → write-column-bytes.Post κs a r' s' → (r ≡ r') × (s.0.now ≡ s'.0.now)
write_column_bytes_settled κs a r r' s s' p q = (told_injective act r r' (p.0 ∙ sym q.0), p.1 ∙ sym q.1)

pub edit_settled : (κs : L.Lfts 1) (a : K.Dens κs edit-kinds.ps) (r r' : _) (s s' : _) → edit-call.Post κs a r s → edit-call.Post κs a r' s'
    → (r ≡ r') × (s.1.0.now ≡ s'.1.0.now)
edit_settled κs a r r' s s' p q = (told_injective act r r' (p.0 ∙ sym q.0), p.1 ∙ sym q.1)
