-- N17 over the calls' own promises, inner and exported: a number that names no year is refused as 17, its place that number, whatever else was
-- given; and no lent byte changes. Of an exported call it is so in the bits of its answer, for every number of 32 bits.
use Rattle.std.specs.Prelude.{Err}
use Prim.Native.Nat.{ℕ, ◌<◌}
use native.Mathlib.Omega.{arith}
use mathlib.Core.Path.{◌≡◌, ap, ◌∙◌}
use mathlib.Core.List.{List}
use lib.Dec.{lit<}
use contract.Lifetimes as L
use borrow.Fn.Kinds as K
use Rattle.answers.specs.Told.{Told, refused, told, intake, post, position, act}
use Rattle.answers.specs.declared.Refusal.TheVariants as because
use Rattle.answers.proofs.Injective.{told_injective}
use Rattle.years.specs.Years.{NamesNone, under}
use Rattle.years.specs.declared.Year.{Year}
use Rattle.years.proofs.YearLaws.{under_none, left_none}
use Rattle.host_answers.specs.Packed.{packed}
use Rattle.host_answers.specs.Apart.{told_in}
use Rattle.host_answers.specs.Apart as fits
use Rattle.host_answers.proofs.TakenApart.{told_back}
use Rattle.steps.specs.Steps.{after}
use Rattle.steps.specs.declared.Phase.TheVariants.{Headers, Over}
use Rattle.steps.proofs.Kept.{said_none}
use Rattle.intake.proofs.intake.Reads as intake-call
use Rattle.intake.proofs.intake.Kinds as intake-kinds
use Rattle.lookup.proofs.look_up.Reads as post-call
use Rattle.lookup.proofs.look_up.Kinds as post-kinds
use Rattle.position.proofs.locate.Reads as position-call
use Rattle.position.proofs.locate.Kinds as position-kinds
use Rattle.steps.proofs.Steps.step.Reads as step_call
use Rattle.steps.proofs.Steps.step.Kinds as step-kinds
use Rattle.edit.proofs.edit.Reads as edit-call
use Rattle.edit.proofs.edit.Kinds as edit-kinds
use Rattle.cell_writer.proofs.write.Reads as write-call
use Rattle.cell_writer.proofs.write.Kinds as write-kinds
use Rattle.host_writers.proofs.cell.write.Reads as bytes-call
use Rattle.host_writers.proofs.cell.write.Kinds as bytes-kinds
use Rattle.dted.proofs.cell_calls.dted_intake.Reads as host-intake-call
use Rattle.dted.proofs.cell_calls.dted_intake.Kinds as host-intake-kinds
use Rattle.dted.proofs.cell_calls.dted_post.Reads as host-post-call
use Rattle.dted.proofs.cell_calls.dted_post.Kinds as host-post-kinds
use Rattle.dted.proofs.cell_calls.dted_position.Reads as host-position-call
use Rattle.dted.proofs.cell_calls.dted_position.Kinds as host-position-kinds
use Rattle.dted.proofs.cell_calls.dted_edit.Reads as host-edit-call
use Rattle.dted.proofs.cell_calls.dted_edit.Kinds as host-edit-kinds
use Rattle.dted.proofs.writers.dted_write.Reads as host-write-call
use Rattle.dted.proofs.writers.dted_write.Kinds as host-write-kinds

-- the calls that change nothing
pub intake_unknown : (κs : L.Lfts 1) (a : K.Dens κs intake-kinds.ps) (r : _) (s : _) → intake-call.Post κs a r s → NamesNone a.0
    → told intake r ≡ refused 17 a.0
intake_unknown κs a r s kept none = kept ∙ under_none a.0 _ none

pub post_unknown : (κs : L.Lfts 1) (a : K.Dens κs post-kinds.ps) (r : _) (s : _) → post-call.Post κs a r s → NamesNone a.0
    → told post r ≡ refused 17 a.0
post_unknown κs a r s kept none = kept ∙ under_none a.0 _ none

pub position_unknown : (κs : L.Lfts 1) (a : K.Dens κs position-kinds.ps) (r : _) (s : _) → position-call.Post κs a r s → NamesNone a.0
    → told position r ≡ refused 17 a.0
position_unknown κs a r s kept none = kept ∙ under_none a.0 _ none

-- a call that tells 17 and leaves what it was lent
abbrev Unchanged : ℕ → Told → List ℕ → List ℕ → Type 0
Unchanged n t before after = (t ≡ refused 17 n) × (after ≡ before)

pub edit_unknown : (κs : L.Lfts 1) (a : K.Dens κs edit-kinds.ps) (r : _) (s : _) → edit-call.Post κs a r s → NamesNone a.0
    → Unchanged a.0 (told act r) a.1.0.now s.1.0.now
edit_unknown κs a r s kept none = (kept.0 ∙ under_none a.0 _ none, kept.1 ∙ left_none a.0 _ _ none)

pub write_unknown : (κs : L.Lfts 2) (a : K.Dens κs write-kinds.ps) (r : _) (s : _) → write-call.Post κs a r s → NamesNone a.0
    → Unchanged a.0 (told act r) a.1.0.now s.1.0.now
write_unknown κs a r s kept none = (kept.0 ∙ under_none a.0 _ none, kept.1 ∙ left_none a.0 _ _ none)

pub bytes_unknown : (κs : L.Lfts 3) (a : K.Dens κs bytes-kinds.ps) (r : _) (s : _) → bytes-call.Post κs a r s → NamesNone a.0
    → Unchanged a.0 (told act r) a.1.0.now s.1.0.now
bytes_unknown κs a r s kept none = (kept.0 ∙ under_none a.0 _ none, kept.1 ∙ left_none a.0 _ _ none)

-- the first step answers it, and hands back the state in which every later one does
pub step_unknown : (κs : L.Lfts 1) (a : K.Dens κs step-kinds.ps) (r : _) (s : _) → step_call.Post κs a r s
    → (n : ℕ) → a.0.phase ≡ Headers n → NamesNone n → (r.answer ≡ Err (because.Year n)) × (r.steps.phase ≡ Over (Err (because.Year n)))
step_unknown κs a r s kept n first none =
    let piece = a.1.0.now in
    let v = Err (because.Year n) in
    let answer : r.answer ≡ v = told_injective intake r.answer v (rw first at kept.said ∙ said_none n none piece) in
    (answer, rw first at kept.state ∙ ap (after (Headers n) piece) answer)

-- the exported calls
packed_unknown : (n : ℕ) (tells : Year → Told) (r : ℕ) → r ≡ packed (under n tells) → n < 4294967296 → NamesNone n → told_in r ≡ refused 17 n
packed_unknown n tells r kept small none =
    ap told_in (kept ∙ ap packed (under_none n tells none)) ∙ told_back (refused 17 n) (fits.refused 17 n (lit< tt) (lit< tt) (omega arith))

pub host_intake_unknown : (κs : L.Lfts 1) (a : K.Dens κs host-intake-kinds.ps) (r : _) (s : _) → host-intake-call.Post κs a r s → a.0 < 4294967296 → NamesNone a.0
    → told_in r ≡ refused 17 a.0
host_intake_unknown κs a r s kept small none = packed_unknown a.0 _ r kept small none

pub host_post_unknown : (κs : L.Lfts 1) (a : K.Dens κs host-post-kinds.ps) (r : _) (s : _) → host-post-call.Post κs a r s → a.0 < 4294967296 → NamesNone a.0
    → told_in r ≡ refused 17 a.0
host_post_unknown κs a r s kept small none = packed_unknown a.0 _ r kept small none

pub host_position_unknown : (κs : L.Lfts 1) (a : K.Dens κs host-position-kinds.ps) (r : _) (s : _) → host-position-call.Post κs a r s → a.0 < 4294967296 → NamesNone a.0
    → told_in r ≡ refused 17 a.0
host_position_unknown κs a r s kept small none = packed_unknown a.0 _ r kept small none

pub host_edit_unknown : (κs : L.Lfts 1) (a : K.Dens κs host-edit-kinds.ps) (r : _) (s : _) → host-edit-call.Post κs a r s → a.0 < 4294967296 → NamesNone a.0
    → Unchanged a.0 (told_in r) a.1.0.now s.1.0.now
host_edit_unknown κs a r s kept small none = (packed_unknown a.0 _ r kept.0 small none, kept.1 ∙ left_none a.0 _ _ none)

pub host_write_unknown : (κs : L.Lfts 3) (a : K.Dens κs host-write-kinds.ps) (r : _) (s : _) → host-write-call.Post κs a r s → a.0 < 4294967296 → NamesNone a.0
    → Unchanged a.0 (told_in r) a.1.0.now s.1.0.now
host_write_unknown κs a r s kept small none = (packed_unknown a.0 _ r kept.0 small none, kept.1 ∙ left_none a.0 _ _ none)
