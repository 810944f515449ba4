-- What a call that keeps its promise tells and leaves under the year that it names, inner and exported.
use Prim.Native.Nat.{ℕ}
use mathlib.Core.Path.{◌≡◌, ap, ◌∙◌}
use contract.Lifetimes as L
use borrow.Fn.Kinds as K
use Rattle.answers.specs.Told.{Told, told, intake, post, position, act}
use Rattle.years.specs.Years.{Names, under}
use Rattle.years.specs.declared.Year.{Year}
use Rattle.years.proofs.YearLaws.{under_named, left_named}
use Rattle.host_answers.specs.Packed.{packed}
use Rattle.intake.specs.Intake.{taken}
use Rattle.lookup.specs.Lookup.{looked_up}
use Rattle.position.specs.Position.{located}
use Rattle.edit.specs.Edit.{edit_told, edited}
use Rattle.cell_writer.specs.Cell.{cell_told, cell_output}
use Rattle.host_writers.specs.Cell.{bytes_told, bytes_output}
use Rattle.intake.proofs.intake.Reads as intake-call
use Rattle.intake.proofs.intake.Kinds as intake-kinds
use Rattle.lookup.proofs.look_up.Reads as post-call
use Rattle.lookup.proofs.look_up.Kinds as post-kinds
use Rattle.position.proofs.locate.Reads as position-call
use Rattle.position.proofs.locate.Kinds as position-kinds
use Rattle.edit.proofs.edit.Reads as edit-call
use Rattle.edit.proofs.edit.Kinds as edit-kinds
use Rattle.cell_writer.proofs.write.Reads as write-call
use Rattle.cell_writer.proofs.write.Kinds as write-kinds
use Rattle.host_writers.proofs.cell.write.Reads as bytes-call
use Rattle.host_writers.proofs.cell.write.Kinds as bytes-kinds
use Rattle.dted.proofs.cell_calls.dted_intake.Reads as host-intake-call
use Rattle.dted.proofs.cell_calls.dted_intake.Kinds as host-intake-kinds
use Rattle.dted.proofs.cell_calls.dted_post.Reads as host-post-call
use Rattle.dted.proofs.cell_calls.dted_post.Kinds as host-post-kinds
use Rattle.dted.proofs.cell_calls.dted_position.Reads as host-position-call
use Rattle.dted.proofs.cell_calls.dted_position.Kinds as host-position-kinds
use Rattle.dted.proofs.cell_calls.dted_edit.Reads as host-edit-call
use Rattle.dted.proofs.cell_calls.dted_edit.Kinds as host-edit-kinds
use Rattle.dted.proofs.writers.dted_write.Reads as host-write-call
use Rattle.dted.proofs.writers.dted_write.Kinds as host-write-kinds

-- the inner calls
pub intake_named : (κs : L.Lfts 1) (a : K.Dens κs intake-kinds.ps) (r : _) (s : _) → intake-call.Post κs a r s → (year : Year) → Names a.0 year
    → told intake r ≡ taken year a.1.0.now
intake_named κs a r s kept year names = kept ∙ under_named a.0 (λ (y : Year). taken y a.1.0.now) year names

pub post_named : (κs : L.Lfts 1) (a : K.Dens κs post-kinds.ps) (r : _) (s : _) → post-call.Post κs a r s → (year : Year) → Names a.0 year
    → told post r ≡ looked_up year a.1.0.now a.1.1.0 a.1.1.1.0
post_named κs a r s kept year names = kept ∙ under_named a.0 (λ (y : Year). looked_up y a.1.0.now a.1.1.0 a.1.1.1.0) year names

pub position_named : (κs : L.Lfts 1) (a : K.Dens κs position-kinds.ps) (r : _) (s : _) → position-call.Post κs a r s → (year : Year) → Names a.0 year
    → told position r ≡ located year a.1.0.now a.1.1.0 a.1.1.1.0
position_named κs a r s kept year names = kept ∙ under_named a.0 (λ (y : Year). located y a.1.0.now a.1.1.0 a.1.1.1.0) year names

pub edit_named : (κs : L.Lfts 1) (a : K.Dens κs edit-kinds.ps) (r : _) (s : _) → edit-call.Post κs a r s → (year : Year) → Names a.0 year
    → (told act r ≡ edit_told year a.1.0.now a.1.1.0 a.1.1.1.0 a.1.1.1.1.0)
    × (s.1.0.now ≡ edited year a.1.0.now a.1.1.0 a.1.1.1.0 a.1.1.1.1.0)
edit_named κs a r s kept year names =
    let l = a.1.0.now in
    let c = a.1.1.0 in
    let p = a.1.1.1.0 in
    let z = a.1.1.1.1.0 in
    (kept.0 ∙ under_named a.0 (λ (y : Year). edit_told y l c p z) year names, kept.1 ∙ left_named a.0 l (λ (y : Year). edited y l c p z) year names)

pub write_named : (κs : L.Lfts 2) (a : K.Dens κs write-kinds.ps) (r : _) (s : _) → write-call.Post κs a r s → (year : Year) → Names a.0 year
    → (told act r ≡ cell_told year a.1.1.0 a.1.1.1.0.now a.1.0.now)
    × (s.1.0.now ≡ cell_output year a.1.1.0 a.1.1.1.0.now a.1.0.now)
write_named κs a r s kept year names =
    let out = a.1.0.now in
    let d = a.1.1.0 in
    let zs = a.1.1.1.0.now in
    (kept.0 ∙ under_named a.0 (λ (y : Year). cell_told y d zs out) year names, kept.1 ∙ left_named a.0 out (λ (y : Year). cell_output y d zs out) year names)

pub bytes_named : (κs : L.Lfts 3) (a : K.Dens κs bytes-kinds.ps) (r : _) (s : _) → bytes-call.Post κs a r s → (year : Year) → Names a.0 year
    → (told act r ≡ bytes_told year a.1.1.0.now a.1.1.1.0.now a.1.0.now)
    × (s.1.0.now ≡ bytes_output year a.1.1.0.now a.1.1.1.0.now a.1.0.now)
bytes_named κs a r s kept year names =
    let out = a.1.0.now in
    let items = a.1.1.0.now in
    let grid = a.1.1.1.0.now in
    (kept.0 ∙ under_named a.0 (λ (y : Year). bytes_told y items grid out) year names, kept.1 ∙ left_named a.0 out (λ (y : Year). bytes_output y items grid out) year names)

-- the exported calls: what is packed
packed_named : (n : ℕ) (tells : Year → Told) (r : ℕ) → r ≡ packed (under n tells) → (year : Year) → Names n year → r ≡ packed (tells year)
packed_named n tells r kept year names = kept ∙ ap packed (under_named n tells year names)

pub host_intake_named : (κs : L.Lfts 1) (a : K.Dens κs host-intake-kinds.ps) (r : _) (s : _) → host-intake-call.Post κs a r s → (year : Year) → Names a.0 year
    → r ≡ packed (taken year a.1.0.now)
host_intake_named κs a r s kept year names = packed_named a.0 (λ (y : Year). taken y a.1.0.now) r kept year names

pub host_post_named : (κs : L.Lfts 1) (a : K.Dens κs host-post-kinds.ps) (r : _) (s : _) → host-post-call.Post κs a r s → (year : Year) → Names a.0 year
    → r ≡ packed (looked_up year a.1.0.now a.1.1.0 a.1.1.1.0)
host_post_named κs a r s kept year names = packed_named a.0 (λ (y : Year). looked_up y a.1.0.now a.1.1.0 a.1.1.1.0) r kept year names

pub host_position_named : (κs : L.Lfts 1) (a : K.Dens κs host-position-kinds.ps) (r : _) (s : _) → host-position-call.Post κs a r s → (year : Year) → Names a.0 year
    → r ≡ packed (located year a.1.0.now a.1.1.0 a.1.1.1.0)
host_position_named κs a r s kept year names = packed_named a.0 (λ (y : Year). located y a.1.0.now a.1.1.0 a.1.1.1.0) r kept year names

pub host_edit_named : (κs : L.Lfts 1) (a : K.Dens κs host-edit-kinds.ps) (r : _) (s : _) → host-edit-call.Post κs a r s → (year : Year) → Names a.0 year
    → (r ≡ packed (edit_told year a.1.0.now a.1.1.0 a.1.1.1.0 a.1.1.1.1.0))
    × (s.1.0.now ≡ edited year a.1.0.now a.1.1.0 a.1.1.1.0 a.1.1.1.1.0)
host_edit_named κs a r s kept year names =
    let l = a.1.0.now in
    let c = a.1.1.0 in
    let p = a.1.1.1.0 in
    let z = a.1.1.1.1.0 in
    (packed_named a.0 (λ (y : Year). edit_told y l c p z) r kept.0 year names, kept.1 ∙ left_named a.0 l (λ (y : Year). edited y l c p z) year names)

pub host_write_named : (κs : L.Lfts 3) (a : K.Dens κs host-write-kinds.ps) (r : _) (s : _) → host-write-call.Post κs a r s → (year : Year) → Names a.0 year
    → (r ≡ packed (bytes_told year a.1.1.0.now a.1.1.1.0.now a.1.0.now))
    × (s.1.0.now ≡ bytes_output year a.1.1.0.now a.1.1.1.0.now a.1.0.now)
host_write_named κs a r s kept year names =
    let out = a.1.0.now in
    let items = a.1.1.0.now in
    let grid = a.1.1.1.0.now in
    (packed_named a.0 (λ (y : Year). bytes_told y items grid out) r kept.0 year names, kept.1 ∙ left_named a.0 out (λ (y : Year). bytes_output y items grid out) year names)
