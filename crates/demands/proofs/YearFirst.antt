-- N14, N17 over the calls' own promises, inner and exported: what a call tells is a row of its order, 17 first and then the rows under the year
-- named; and it is the only one.
use Rattle.std.specs.Prelude.{Result}
use Rattle.answers.specs.declared.Refusal.{Refusal}
use Rattle.lookup.specs.declared.reach.Spot.{Spot}
use Prim.Native.Nat.{ℕ, ◌<◌}
use mathlib.Core.Path.{◌≡◌, refl, sym, ap, subst, ◌∙◌}
use mathlib.Core.List.{List}
use lib.IntN.{ℤ}
use lib.ListN.{length}
use contract.Lifetimes as L
use borrow.Fn.Kinds as K
use Rattle.answers.specs.Told.{Told, told, intake, post, position, act}
use Rattle.years.specs.Years.{under}
use Rattle.years.specs.declared.Year.{Year}
use Rattle.years.proofs.YearLaws.{Rows, row, given}
use Rattle.host_answers.specs.Apart.{told_in}
use Rattle.intake.specs.Intake.{taken}
use Rattle.intake.proofs.IntakeExactly as intake-rows
use Rattle.lookup.specs.Reach.{reached}
use Rattle.lookup.specs.Lookup.{reading_of, looked_up}
use Rattle.lookup.proofs.ReachedExactly as post-rows
use Rattle.position.specs.Position.{located}
use Rattle.position.proofs.PositionExactly as position-rows
use Rattle.edit.specs.Edit.{judged_edit, edit_told}
use Rattle.edit.proofs.EditExactly as edit-rows
use Rattle.description.specs.declared.Description.{Description}
use Rattle.sources.specs.Heights.{numbers}
use Rattle.cell_writer.specs.Cell.{judged_cell_write, cell_told}
use Rattle.cell_writer.proofs.CellExactly as write-rows
use Rattle.host_writers.specs.Cell.{judged_bytes, bytes_told}
use Rattle.host_writers.proofs.BytesExactly as bytes-rows
use Rattle.intake.proofs.intake.Reads as intake-call
use Rattle.intake.proofs.intake.Kinds as intake-kinds
use Rattle.lookup.proofs.look_up.Reads as post-call
use Rattle.lookup.proofs.look_up.Kinds as post-kinds
use Rattle.position.proofs.locate.Reads as position-call
use Rattle.position.proofs.locate.Kinds as position-kinds
use Rattle.edit.proofs.edit.Reads as edit-call
use Rattle.edit.proofs.edit.Kinds as edit-kinds
use Rattle.cell_writer.proofs.write.Reads as write-call
use Rattle.cell_writer.proofs.write.Kinds as write-kinds
use Rattle.host_writers.proofs.cell.write.Reads as bytes-call
use Rattle.host_writers.proofs.cell.write.Kinds as bytes-kinds
use Rattle.dted.proofs.cell_calls.dted_intake.Reads as host-intake-call
use Rattle.dted.proofs.cell_calls.dted_intake.Kinds as host-intake-kinds
use Rattle.dted.proofs.cell_calls.dted_post.Reads as host-post-call
use Rattle.dted.proofs.cell_calls.dted_post.Kinds as host-post-kinds
use Rattle.dted.proofs.cell_calls.dted_position.Reads as host-position-call
use Rattle.dted.proofs.cell_calls.dted_position.Kinds as host-position-kinds
use Rattle.dted.proofs.cell_calls.dted_edit.Reads as host-edit-call
use Rattle.dted.proofs.cell_calls.dted_edit.Kinds as host-edit-kinds
use Rattle.dted.proofs.writers.dted_write.Reads as host-write-call
use Rattle.dted.proofs.writers.dted_write.Kinds as host-write-kinds
use Rattle.demands.proofs.HostTold.{intake_told, post_told, position_told, edit_told_lem, write_told}

-- what was told is a row's, and every row tells it
pub record InOrder (Row : Told → Type 0) (t : Told) : Type 0 where
  pub is : Row t
  pub only : (u : Told) → Row u → t ≡ u

-- rows of what is judged, by what they tell
pub record Tells {A : Type 0} (Row : A → Type 0) (tell : A → Told) (t : Told) : Type 0 where
  pub judged : A
  pub row : Row judged
  pub told : tell judged ≡ t

-- the rows under each year, behind 17
in_order_lem : (n : ℕ) (tells : Year → Told) (Row : Year → Told → Type 0) → ((year : Year) → Row year (tells year))
    → ((year : Year) (t : Told) → Row year t → tells year ≡ t) → InOrder (Rows n Row) (under n tells)
in_order_lem n tells Row is gives = record { is = row n tells Row is; only = given n tells Row gives }

judged_in_order : {A : Type 0} (n : ℕ) (judged : Year → A) (tell : A → Told) (Row : Year → A → Type 0) → ((year : Year) → Row year (judged year))
    → ((year : Year) (x : A) → Row year x → judged year ≡ x) → InOrder (Rows n (λ (year : Year). Tells (Row year) tell)) (under n (λ (year : Year). tell (judged year)))
judged_in_order n judged tell Row is gives =
    in_order_lem n (λ (year : Year). tell (judged year)) (λ (year : Year). Tells (Row year) tell)
    (λ year. record { judged = judged year; row = is year; told = refl })
    (λ year t r. ap tell (gives year r.judged r.row) ∙ r.told)

-- the orders
abbrev pub IntakeRows : ℕ → List ℕ → Told → Type 0
IntakeRows n s = Rows n (λ (year : Year). intake-rows.IntakeRow year s)

abbrev pub PostRows : ℕ → List ℕ → ℕ → ℕ → Told → Type 0
PostRows n s c p = Rows n (λ (year : Year). Tells (post-rows.Row year s c p) (λ (x : Result Spot Refusal). told post (reading_of x)))

abbrev pub PositionRows : ℕ → List ℕ → ℤ → ℤ → Told → Type 0
PositionRows n s latitude longitude = Rows n (λ (year : Year). position-rows.Row year s latitude longitude)

abbrev pub EditRows : ℕ → List ℕ → ℕ → ℕ → ℤ → Told → Type 0
EditRows n s c p z = Rows n (λ (year : Year). Tells (edit-rows.EditRow year s c p z) (told act))

abbrev pub WriteRows : ℕ → Description → List ℤ → List ℕ → Told → Type 0
WriteRows n d zs out = Rows n (λ (year : Year). Tells (write-rows.CellRow year d (numbers zs) (length out)) (told act))

abbrev pub BytesRows : ℕ → List ℤ → List ℕ → List ℕ → Told → Type 0
BytesRows n items grid out = Rows n (λ (year : Year). Tells (bytes-rows.CellRow year items grid (length out)) (told act))

-- by the rows that each has under a year
intake_in : (n : ℕ) (s : List ℕ) → InOrder (IntakeRows n s) (under n (λ (year : Year). taken year s))
intake_in n s = in_order_lem n (λ (year : Year). taken year s) (λ (year : Year). intake-rows.IntakeRow year s) (λ year. intake-rows.row year s) (λ year. intake-rows.given year s)

post_in_lem : (n : ℕ) (s : List ℕ) (c p : ℕ) → InOrder (PostRows n s c p) (under n (λ (year : Year). looked_up year s c p))
unfolding looked_up
post_in_lem n s c p =
    judged_in_order n (λ (year : Year). reached year s c p) (λ (x : Result Spot Refusal). told post (reading_of x)) (λ (year : Year). post-rows.Row year s c p)
    (λ year. post-rows.row year s c p) (λ year. post-rows.given year s c p)

position_in : (n : ℕ) (s : List ℕ) (latitude longitude : ℤ) → InOrder (PositionRows n s latitude longitude) (under n (λ (year : Year). located year s latitude longitude))
position_in n s latitude longitude =
    in_order_lem n (λ (year : Year). located year s latitude longitude) (λ (year : Year). position-rows.Row year s latitude longitude)
    (λ year. position-rows.row year s latitude longitude) (λ year. position-rows.given year s latitude longitude)

edit_in : (n : ℕ) (s : List ℕ) (c p : ℕ) (z : ℤ) → InOrder (EditRows n s c p z) (under n (λ (year : Year). edit_told year s c p z))
unfolding edit_told
edit_in n s c p z =
    judged_in_order n (λ (year : Year). judged_edit year s c p z) (told act) (λ (year : Year). edit-rows.EditRow year s c p z)
    (λ year. edit-rows.row year s c p z) (λ year. edit-rows.given year s c p z)

write_in : (n : ℕ) (d : Description) (zs : List ℤ) (out : List ℕ) → InOrder (WriteRows n d zs out) (under n (λ (year : Year). cell_told year d zs out))
unfolding cell_told
write_in n d zs out =
    judged_in_order n (λ (year : Year). judged_cell_write year d (numbers zs) (length out)) (told act) (λ (year : Year). write-rows.CellRow year d (numbers zs) (length out))
    (λ year. write-rows.row year d (numbers zs) (length out)) (λ year. write-rows.given year d (numbers zs) (length out))

bytes_in_lem : (n : ℕ) (items : List ℤ) (grid out : List ℕ) → InOrder (BytesRows n items grid out) (under n (λ (year : Year). bytes_told year items grid out))
unfolding bytes_told
bytes_in_lem n items grid out =
    judged_in_order n (λ (year : Year). judged_bytes year items grid (length out)) (told act) (λ (year : Year). bytes-rows.CellRow year items grid (length out))
    (λ year. bytes-rows.row year items grid (length out)) (λ year. bytes-rows.given year items grid (length out))

-- the inner calls
pub intake_order : (κs : L.Lfts 1) (a : K.Dens κs intake-kinds.ps) (r : _) (s : _) → intake-call.Post κs a r s
    → InOrder (IntakeRows a.0 a.1.0.now) (told intake r)
intake_order κs a r s kept = subst (InOrder (IntakeRows a.0 a.1.0.now)) (sym kept) (intake_in a.0 a.1.0.now)

pub post_order : (κs : L.Lfts 1) (a : K.Dens κs post-kinds.ps) (r : _) (s : _) → post-call.Post κs a r s
    → InOrder (PostRows a.0 a.1.0.now a.1.1.0 a.1.1.1.0) (told post r)
post_order κs a r s kept = subst (InOrder (PostRows a.0 a.1.0.now a.1.1.0 a.1.1.1.0)) (sym kept) (post_in_lem a.0 a.1.0.now a.1.1.0 a.1.1.1.0)

pub position_order : (κs : L.Lfts 1) (a : K.Dens κs position-kinds.ps) (r : _) (s : _) → position-call.Post κs a r s
    → InOrder (PositionRows a.0 a.1.0.now a.1.1.0 a.1.1.1.0) (told position r)
position_order κs a r s kept =
    subst (InOrder (PositionRows a.0 a.1.0.now a.1.1.0 a.1.1.1.0)) (sym kept) (position_in a.0 a.1.0.now a.1.1.0 a.1.1.1.0)

pub edit_order : (κs : L.Lfts 1) (a : K.Dens κs edit-kinds.ps) (r : _) (s : _) → edit-call.Post κs a r s
    → InOrder (EditRows a.0 a.1.0.now a.1.1.0 a.1.1.1.0 a.1.1.1.1.0) (told act r)
edit_order κs a r s kept =
    subst (InOrder (EditRows a.0 a.1.0.now a.1.1.0 a.1.1.1.0 a.1.1.1.1.0)) (sym kept.0)
    (edit_in a.0 a.1.0.now a.1.1.0 a.1.1.1.0 a.1.1.1.1.0)

pub write_order : (κs : L.Lfts 2) (a : K.Dens κs write-kinds.ps) (r : _) (s : _) → write-call.Post κs a r s
    → InOrder (WriteRows a.0 a.1.1.0 a.1.1.1.0.now a.1.0.now) (told act r)
write_order κs a r s kept =
    subst (InOrder (WriteRows a.0 a.1.1.0 a.1.1.1.0.now a.1.0.now)) (sym kept.0)
    (write_in a.0 a.1.1.0 a.1.1.1.0.now a.1.0.now)

pub bytes_order : (κs : L.Lfts 3) (a : K.Dens κs bytes-kinds.ps) (r : _) (s : _) → bytes-call.Post κs a r s
    → InOrder (BytesRows a.0 a.1.1.0.now a.1.1.1.0.now a.1.0.now) (told act r)
bytes_order κs a r s kept =
    subst (InOrder (BytesRows a.0 a.1.1.0.now a.1.1.1.0.now a.1.0.now)) (sym kept.0)
    (bytes_in_lem a.0 a.1.1.0.now a.1.1.1.0.now a.1.0.now)

-- and the exported ones: what the header takes out of an answer, for every number of 32 bits
pub host_intake_order : (κs : L.Lfts 1) (a : K.Dens κs host-intake-kinds.ps) (r : _) (s : _) → host-intake-call.Post κs a r s → a.0 < 4294967296
    → InOrder (IntakeRows a.0 a.1.0.now) (told_in r)
host_intake_order κs a r s kept small = subst (InOrder (IntakeRows a.0 a.1.0.now)) (sym (intake_told κs a r s kept small)) (intake_in a.0 a.1.0.now)

pub host_post_order : (κs : L.Lfts 1) (a : K.Dens κs host-post-kinds.ps) (r : _) (s : _) → host-post-call.Post κs a r s → a.0 < 4294967296
    → InOrder (PostRows a.0 a.1.0.now a.1.1.0 a.1.1.1.0) (told_in r)
host_post_order κs a r s kept small =
    subst (InOrder (PostRows a.0 a.1.0.now a.1.1.0 a.1.1.1.0)) (sym (post_told κs a r s kept small))
    (post_in_lem a.0 a.1.0.now a.1.1.0 a.1.1.1.0)

pub host_position_order : (κs : L.Lfts 1) (a : K.Dens κs host-position-kinds.ps) (r : _) (s : _) → host-position-call.Post κs a r s → a.0 < 4294967296
    → InOrder (PositionRows a.0 a.1.0.now a.1.1.0 a.1.1.1.0) (told_in r)
host_position_order κs a r s kept small =
    subst (InOrder (PositionRows a.0 a.1.0.now a.1.1.0 a.1.1.1.0)) (sym (position_told κs a r s kept small))
    (position_in a.0 a.1.0.now a.1.1.0 a.1.1.1.0)

pub host_edit_order : (κs : L.Lfts 1) (a : K.Dens κs host-edit-kinds.ps) (r : _) (s : _) → host-edit-call.Post κs a r s → a.0 < 4294967296
    → InOrder (EditRows a.0 a.1.0.now a.1.1.0 a.1.1.1.0 a.1.1.1.1.0) (told_in r)
host_edit_order κs a r s kept small =
    subst (InOrder (EditRows a.0 a.1.0.now a.1.1.0 a.1.1.1.0 a.1.1.1.1.0)) (sym (edit_told_lem κs a r s kept small))
    (edit_in a.0 a.1.0.now a.1.1.0 a.1.1.1.0 a.1.1.1.1.0)

pub host_write_order : (κs : L.Lfts 3) (a : K.Dens κs host-write-kinds.ps) (r : _) (s : _) → host-write-call.Post κs a r s → a.0 < 4294967296
    → InOrder (BytesRows a.0 a.1.1.0.now a.1.1.1.0.now a.1.0.now) (told_in r)
host_write_order κs a r s kept small =
    subst (InOrder (BytesRows a.0 a.1.1.0.now a.1.1.1.0.now a.1.0.now)) (sym (write_told κs a r s kept small))
    (bytes_in_lem a.0 a.1.1.0.now a.1.1.1.0.now a.1.0.now)
