-- Y2 over the calls' own promises, inner and exported: a cell that a call of intake accepts under year 2 is accepted under year 1 with the same
-- answer, and each lookup on it answers the same under both; where the headers are those of level 2, or of a complete cell, every call answers and
-- leaves the same under any two years, whatever the bytes are.
use Rattle.std.specs.Prelude.{Result, Ok, Err, ⊤}
use Rattle.lookup.specs.declared.reach.Spot.{Spot}
use Rattle.answers.specs.declared.Refusal.{Refusal}
use Prim.Native.Nat.{ℕ}
use mathlib.Core.Path.{◌≡◌, refl, sym, ap, ◌∙◌}
use mathlib.Core.List.{List}
use lib.IntN.{ℤ}
use contract.Lifetimes as L
use borrow.Fn.Kinds as K
use lib.ListN.{length}
use Rattle.answers.specs.Told.{told, intake, post, position, act, number_told}
use Rattle.answers.proofs.Injective.{told_injective}
use Rattle.years.specs.Years.{Names}
use Rattle.years.specs.declared.Year.{Year}
use Rattle.years.specs.declared.Year.TheVariants.{One, Two}
use Rattle.layout.specs.declared.Frame.{Frame}
use Rattle.layout.specs.Zones.{edge_of}
use Rattle.host_answers.specs.Packed.{packed}
use Rattle.headers.specs.Judged.{judged, frame_of, facts_in}
use Rattle.headers.specs.declared.Facts.{Facts}
use Rattle.headers.proofs.Voids.{level_2_alike, complete_alike}
use Rattle.description.specs.declared.Description.{Description}
use Rattle.description.specs.Facts.{facts_for}
use Rattle.description.specs.Items.{bad_item}
use Rattle.host_items.specs.Items.{bad_number, description_of}
use Rattle.sources.specs.Heights.{numbers, in_bytes, heights_in_bytes}
use Rattle.cells.specs.Cell.{Cell}
use Rattle.intake.specs.Intake.{taken}
use Rattle.intake.proofs.CellExactly.{cell_accepted}
use Rattle.intake.proofs.BothYears.{taken_alike}
use Rattle.cells.proofs.BothYears.{NoVoids, cell_before, cell_without_voids, lower_without_voids}
use Rattle.lookup.specs.Lookup.{reading_of, looked_up}
use Rattle.lookup.proofs.BothYears.{read_before, reached_alike}
use Rattle.position.specs.Position.{located}
use Rattle.position.proofs.BothYears.{located_alike}
use Rattle.edit.specs.Edit.{judged_at, edited_at, judged_edit, edit_told, edited}
use Rattle.steps.specs.Steps.{due_after, after_answer}
use Rattle.steps.specs.declared.Phase.{Phase}
use Rattle.steps.specs.declared.Phase.TheVariants.{Headers, Columns}
use Rattle.steps.proofs.Kept.{said_first, due_first}
use Rattle.intake.proofs.intake.Reads as intake-call
use Rattle.intake.proofs.intake.Kinds as intake-kinds
use Rattle.steps.proofs.Steps.step.Reads as step_call
use Rattle.steps.proofs.Steps.step.Kinds as step-kinds
use Rattle.lookup.proofs.look_up.Reads as post-call
use Rattle.lookup.proofs.look_up.Kinds as post-kinds
use Rattle.position.proofs.locate.Reads as position-call
use Rattle.position.proofs.locate.Kinds as position-kinds
use Rattle.column_writer.specs.Judged.{output_after}
use Rattle.cell_writer.specs.Cell.{frame_for, after_item, judged_under, judged_cell_write, cell_of, cell_told, cell_output}
use Rattle.host_writers.specs.Cell.{judged_bytes, bytes_told, bytes_output}
use Rattle.edit.proofs.edit.Reads as edit-call
use Rattle.edit.proofs.edit.Kinds as edit-kinds
use Rattle.cell_writer.proofs.write.Reads as write-call
use Rattle.cell_writer.proofs.write.Kinds as write-kinds
use Rattle.host_writers.proofs.cell.write.Reads as bytes-call
use Rattle.host_writers.proofs.cell.write.Kinds as bytes-kinds
use Rattle.host_answers.specs.Apart.{number_in}
use Rattle.dted.proofs.cell_calls.dted_intake.Reads as host-intake-call
use Rattle.dted.proofs.cell_calls.dted_intake.Kinds as host-intake-kinds
use Rattle.dted.proofs.cell_calls.dted_post.Reads as host-post-call
use Rattle.dted.proofs.cell_calls.dted_post.Kinds as host-post-kinds
use Rattle.dted.proofs.cell_calls.dted_position.Reads as host-position-call
use Rattle.dted.proofs.cell_calls.dted_position.Kinds as host-position-kinds
use Rattle.dted.proofs.cell_calls.dted_edit.Reads as host-edit-call
use Rattle.dted.proofs.cell_calls.dted_edit.Kinds as host-edit-kinds
use Rattle.dted.proofs.writers.dted_write.Reads as host-write-call
use Rattle.dted.proofs.writers.dted_write.Kinds as host-write-kinds
use Rattle.demands.proofs.CellsTaken.{accepted_cell, host_accepted_cell}
use Rattle.demands.proofs.NamedYears.{intake_named, post_named, position_named, edit_named, write_named, bytes_named, host_intake_named, host_post_named, host_position_named, host_edit_named, host_write_named}

-- the years are alike to these bytes: good headers of theirs give one frame under both
abbrev pub Alike : Year → Year → List ℕ → Type 0
Alike x y l = (f : Facts) → judged l ≡ Ok f → frame_of x f ≡ frame_of y f

-- so they are where good headers are of level 2, or complete
pub level_2 : (x y : Year) (l : List ℕ) → ((f : Facts) → judged l ≡ Ok f → f.grid.level ≡ 2) → Alike x y l
level_2 x y l level f e = level_2_alike f x y (level f e)

pub complete : (x y : Year) (l : List ℕ) → ((f : Facts) → judged l ≡ Ok f → f.partial ≡ 0) → Alike x y l
complete x y l none f e = complete_alike f x y (none f e)

-- what is read of some bytes is the same under two years
pub record SameRead (x y : Year) (l : List ℕ) : Type 0 where
  pub intake : taken x l ≡ taken y l
  pub post : (c p : ℕ) → looked_up x l c p ≡ looked_up y l c p
  pub position : (latitude longitude : ℤ) → located x l latitude longitude ≡ located y l latitude longitude

-- a cell that year 2 accepts
pub year_2_as_1 : (l : List ℕ) → Cell Two l → SameRead One Two l
unfolding looked_up
year_2_as_1 l cell = record {
  intake = cell_accepted One l (cell_before l cell) ∙ sym (cell_accepted Two l cell);
  post = λ c p. ap (told post) (read_before l cell c p);
  position = located_alike One Two l (read_before l cell);
}

-- as a call of intake has answered it, inner or exported; and below level 2 it has no void
module _ (κs : L.Lfts 1) (a : K.Dens κs intake-kinds.ps) (r : _) (s : _) (kept : intake-call.Post κs a r s) (names : Names a.0 Two)
    (fine : number_told (told intake r) ≡ 0) where
  pub accepted_read : SameRead One Two a.1.0.now
  accepted_read = year_2_as_1 a.1.0.now (accepted_cell κs a r s kept Two names fine)

  pub accepted_without_voids : ((facts_in a.1.0.now).grid.level ≡ 2 → ⊥) → NoVoids a.1.0.now
  accepted_without_voids other = lower_without_voids a.1.0.now other (accepted_cell κs a r s kept Two names fine)

module _ (κs : L.Lfts 1) (a : K.Dens κs host-intake-kinds.ps) (r : _) (s : _) (kept : host-intake-call.Post κs a r s) (names : Names a.0 Two)
    (fine : number_in r ≡ 0) where
  pub host_accepted_read : SameRead One Two a.1.0.now
  host_accepted_read = year_2_as_1 a.1.0.now (host_accepted_cell κs a r s kept Two names fine)

  pub host_accepted_without_voids : ((facts_in a.1.0.now).grid.level ≡ 2 → ⊥) → NoVoids a.1.0.now
  host_accepted_without_voids other = lower_without_voids a.1.0.now other (host_accepted_cell κs a r s kept Two names fine)

-- and one that either accepts and that has no void, whatever its partial indicator says
pub without_voids : (year : Year) (l : List ℕ) → NoVoids l → Cell year l → SameRead One Two l
without_voids year l none cell = year_2_as_1 l (cell_without_voids l none year Two cell)

pub alike_read : (x y : Year) (l : List ℕ) → Alike x y l → SameRead x y l
unfolding looked_up
alike_read x y l same = record {
  intake = taken_alike x y l same;
  post = λ c p. ap (λ (z : Result Spot Refusal). told post (reading_of z)) (reached_alike x y l same c p);
  position = located_alike x y l (λ c p. ap reading_of (reached_alike x y l same c p));
}

-- so over two calls that name the two years and were lent the same bytes
module _ (x y : Year) where
  pub intake_same : (κs κs' : L.Lfts 1) (a : K.Dens κs intake-kinds.ps) (b : K.Dens κs' intake-kinds.ps) (r q : _) (s t : _)
      → intake-call.Post κs a r s → intake-call.Post κs' b q t → Names a.0 x → Names b.0 y → a.1.0.now ≡ b.1.0.now
      → SameRead x y b.1.0.now → r ≡ q
  intake_same κs κs' a b r q s t kept kept' n n' lent same =
      told_injective intake r q
      (intake_named κs a r s kept x n ∙ ap (taken x) lent ∙ same.intake ∙ sym (intake_named κs' b q t kept' y n'))

  pub post_same : (κs κs' : L.Lfts 1) (a : K.Dens κs post-kinds.ps) (b : K.Dens κs' post-kinds.ps) (r q : _) (s t : _)
      → post-call.Post κs a r s → post-call.Post κs' b q t → Names a.0 x → Names b.0 y → a.1.0.now ≡ b.1.0.now
      → a.1.1.0 ≡ b.1.1.0 → a.1.1.1.0 ≡ b.1.1.1.0 → SameRead x y b.1.0.now → r ≡ q
  post_same κs κs' a b r q s t kept kept' n n' lent c p same =
      told_injective post r q
      (post_named κs a r s kept x n ∙ (λ k. looked_up x (lent k) (c k) (p k)) ∙ same.post b.1.1.0 b.1.1.1.0 ∙ sym (post_named κs' b q t kept' y n'))

  pub position_same : (κs κs' : L.Lfts 1) (a : K.Dens κs position-kinds.ps) (b : K.Dens κs' position-kinds.ps) (r q : _) (s t : _)
      → position-call.Post κs a r s → position-call.Post κs' b q t → Names a.0 x → Names b.0 y → a.1.0.now ≡ b.1.0.now
      → a.1.1.0 ≡ b.1.1.0 → a.1.1.1.0 ≡ b.1.1.1.0 → SameRead x y b.1.0.now → r ≡ q
  position_same κs κs' a b r q s t kept kept' n n' lent north east same =
      told_injective position r q
      (position_named κs a r s kept x n ∙ (λ k. located x (lent k) (north k) (east k)) ∙ same.position b.1.1.0 b.1.1.1.0
      ∙ sym (position_named κs' b q t kept' y n'))

  -- the exported ones
  pub host_intake_same : (κs κs' : L.Lfts 1) (a : K.Dens κs host-intake-kinds.ps) (b : K.Dens κs' host-intake-kinds.ps) (r q : _) (s t : _)
      → host-intake-call.Post κs a r s → host-intake-call.Post κs' b q t → Names a.0 x → Names b.0 y → a.1.0.now ≡ b.1.0.now
      → SameRead x y b.1.0.now → r ≡ q
  host_intake_same κs κs' a b r q s t kept kept' n n' lent same =
      host_intake_named κs a r s kept x n ∙ ap packed (ap (taken x) lent ∙ same.intake) ∙ sym (host_intake_named κs' b q t kept' y n')

  pub host_post_same : (κs κs' : L.Lfts 1) (a : K.Dens κs host-post-kinds.ps) (b : K.Dens κs' host-post-kinds.ps) (r q : _) (s t : _)
      → host-post-call.Post κs a r s → host-post-call.Post κs' b q t → Names a.0 x → Names b.0 y → a.1.0.now ≡ b.1.0.now
      → a.1.1.0 ≡ b.1.1.0 → a.1.1.1.0 ≡ b.1.1.1.0 → SameRead x y b.1.0.now → r ≡ q
  host_post_same κs κs' a b r q s t kept kept' n n' lent c p same =
      host_post_named κs a r s kept x n ∙ ap packed ((λ k. looked_up x (lent k) (c k) (p k)) ∙ same.post b.1.1.0 b.1.1.1.0)
      ∙ sym (host_post_named κs' b q t kept' y n')

  pub host_position_same : (κs κs' : L.Lfts 1) (a : K.Dens κs host-position-kinds.ps) (b : K.Dens κs' host-position-kinds.ps) (r q : _) (s t : _)
      → host-position-call.Post κs a r s → host-position-call.Post κs' b q t → Names a.0 x → Names b.0 y → a.1.0.now ≡ b.1.0.now
      → a.1.1.0 ≡ b.1.1.0 → a.1.1.1.0 ≡ b.1.1.1.0 → SameRead x y b.1.0.now → r ≡ q
  host_position_same κs κs' a b r q s t kept kept' n n' lent north east same =
      host_position_named κs a r s kept x n ∙ ap packed ((λ k. located x (lent k) (north k) (east k)) ∙ same.position b.1.1.0 b.1.1.1.0)
      ∙ sym (host_position_named κs' b q t kept' y n')

-- the first step, of a piece to which the years are alike: its answer, and the state that it hands back
due_same : (x y : Year) (j : Result Facts Refusal) → ((f : Facts) → j ≡ Ok f → frame_of x f ≡ frame_of y f) → due_after x j ≡ due_after y j
due_same x y (Err r) same = refl
due_same x y (Ok f) same =
    ap (λ (g : Frame). Columns (record { level = f.grid.level; edge = edge_of f.latitude; voids = g.voids; next = 0 })) (same f refl)

pub step_same : (x y : Year) (κs κs' : L.Lfts 1) (a : K.Dens κs step-kinds.ps) (b : K.Dens κs' step-kinds.ps) (r q : _) (s t : _)
    → step_call.Post κs a r s → step_call.Post κs' b q t → (m n : ℕ) → a.0.phase ≡ Headers m → b.0.phase ≡ Headers n → Names m x → Names n y
    → a.1.0.now ≡ b.1.0.now → Alike x y b.1.0.now → (r.answer ≡ q.answer) × (r.steps.phase ≡ q.steps.phase)
step_same x y κs κs' a b r q s t kept kept' m n first first' names names' lent same =
    let l = b.1.0.now in
    let said : r.answer ≡ q.answer =
    told_injective intake r.answer q.answer
    (rw (first, lent) at kept.said ∙ said_first m x names l ∙ sym (rw first' at kept'.said ∙ said_first n y names' l))
    in
    let one = rw (first, lent) at kept.state ∙ ap (λ (p : Phase). after_answer p r.answer) (due_first m x names l) in
    let other = rw first' at kept'.state ∙ ap (λ (p : Phase). after_answer p q.answer) (due_first n y names' l) in
    (said, one ∙ (λ k. after_answer (due_same x y (judged l) same k) (said k)) ∙ sym other)

-- an edit of bytes to which the years are alike: its answer, and what it leaves
module _ (x y : Year) (l : List ℕ) (same : Alike x y l) (c p : ℕ) (z : ℤ) where
  told_same : edit_told x l c p z ≡ edit_told y l c p z
  unfolding edit_told judged_edit
  told_same = ap (λ (w : Result Spot Refusal). told act (judged_at w z)) (reached_alike x y l same c p)

  left_same : edited x l c p z ≡ edited y l c p z
  unfolding edited
  left_same = ap (λ (w : Result Spot Refusal). edited_at w l p z) (reached_alike x y l same c p)

pub edit_same : (x y : Year) (κs κs' : L.Lfts 1) (a : K.Dens κs edit-kinds.ps) (b : K.Dens κs' edit-kinds.ps) (r q : _) (s t : _)
    → edit-call.Post κs a r s → edit-call.Post κs' b q t → Names a.0 x → Names b.0 y → a.1.0.now ≡ b.1.0.now
    → a.1.1.0 ≡ b.1.1.0 → a.1.1.1.0 ≡ b.1.1.1.0 → a.1.1.1.1.0 ≡ b.1.1.1.1.0 → Alike x y b.1.0.now
    → (r ≡ q) × (s.1.0.now ≡ t.1.0.now)
edit_same x y κs κs' a b r q s t kept kept' n n' lent c p z same =
    let one = edit_named κs a r s kept x n in
    let other = edit_named κs' b q t kept' y n' in
    let l = b.1.0.now in (
      told_injective act r q
          (one.0 ∙ (λ k. edit_told x (lent k) (c k) (p k) (z k)) ∙ told_same x y l same b.1.1.0 b.1.1.1.0 b.1.1.1.1.0 ∙ sym other.0),
      one.1 ∙ (λ k. edited x (lent k) (c k) (p k) (z k)) ∙ left_same x y l same b.1.1.0 b.1.1.1.0 b.1.1.1.1.0 ∙ sym other.1,
    )

pub host_edit_same : (x y : Year) (κs κs' : L.Lfts 1) (a : K.Dens κs host-edit-kinds.ps) (b : K.Dens κs' host-edit-kinds.ps) (r q : _) (s t : _)
    → host-edit-call.Post κs a r s → host-edit-call.Post κs' b q t → Names a.0 x → Names b.0 y → a.1.0.now ≡ b.1.0.now
    → a.1.1.0 ≡ b.1.1.0 → a.1.1.1.0 ≡ b.1.1.1.0 → a.1.1.1.1.0 ≡ b.1.1.1.1.0 → Alike x y b.1.0.now
    → (r ≡ q) × (s.1.0.now ≡ t.1.0.now)
host_edit_same x y κs κs' a b r q s t kept kept' n n' lent c p z same =
    let one = host_edit_named κs a r s kept x n in
    let other = host_edit_named κs' b q t kept' y n' in
    let l = b.1.0.now in (
      one.0 ∙ ap packed ((λ k. edit_told x (lent k) (c k) (p k) (z k)) ∙ told_same x y l same b.1.1.0 b.1.1.1.0 b.1.1.1.1.0) ∙ sym other.0,
      one.1 ∙ (λ k. edited x (lent k) (c k) (p k) (z k)) ∙ left_same x y l same b.1.1.0 b.1.1.1.0 b.1.1.1.1.0 ∙ sym other.1,
    )

-- the years are alike to a description of level 2, or of a complete cell
pub level_2_written : (x y : Year) (d : Description) → (facts_for d).grid.level ≡ 2 → frame_for x d ≡ frame_for y d
level_2_written x y d level = level_2_alike (facts_for d) x y level

pub complete_written : (x y : Year) (d : Description) → (facts_for d).partial ≡ 0 → frame_for x d ≡ frame_for y d
complete_written x y d none = complete_alike (facts_for d) x y none

-- of such a one the writer answers the same, and leaves the same output
pub write_same : (x y : Year) (κs κs' : L.Lfts 2) (a : K.Dens κs write-kinds.ps) (b : K.Dens κs' write-kinds.ps) (r q : _) (s t : _)
    → write-call.Post κs a r s → write-call.Post κs' b q t → Names a.0 x → Names b.0 y → a.1.0.now ≡ b.1.0.now
    → a.1.1.0 ≡ b.1.1.0 → a.1.1.1.0.now ≡ b.1.1.1.0.now → frame_for x b.1.1.0 ≡ frame_for y b.1.1.0
    → (r ≡ q) × (s.1.0.now ≡ t.1.0.now)
unfolding cell_told cell_output judged_cell_write
write_same x y κs κs' a b r q s t kept kept' n n' out description heights same =
    let one = write_named κs a r s kept x n in
    let other = write_named κs' b q t kept' y n' in
    let d = b.1.1.0 in
    let zs = b.1.1.1.0.now in
    let o = b.1.0.now in
    let judged = ap (λ (f : Frame). after_item (bad_item d) (judged_under f (numbers zs) (length o))) same in (
      told_injective act r q (one.0 ∙ (λ k. cell_told x (description k) (heights k) (out k)) ∙ ap (told act) judged ∙ sym other.0),
      one.1 ∙ (λ k. cell_output x (description k) (heights k) (out k)) ∙ ap (λ (z : Result ⊤ Refusal). output_after z (cell_of d zs) o) judged ∙ sym other.1,
    )

module _ (x y : Year) (items : List ℤ) (grid out : List ℕ) (same : frame_for x (description_of items) ≡ frame_for y (description_of items)) where
  judged_same : judged_bytes x items grid (length out) ≡ judged_bytes y items grid (length out)
  unfolding judged_bytes
  judged_same = ap (λ (f : Frame). after_item (bad_number items) (judged_under f (in_bytes grid) (length out))) same

  bytes_told_same : bytes_told x items grid out ≡ bytes_told y items grid out
  unfolding bytes_told
  bytes_told_same = ap (told act) judged_same

  bytes_left_same : bytes_output x items grid out ≡ bytes_output y items grid out
  unfolding bytes_output
  bytes_left_same = ap (λ (z : Result ⊤ Refusal). output_after z (cell_of (description_of items) (heights_in_bytes grid)) out) judged_same

pub bytes_same : (x y : Year) (κs κs' : L.Lfts 3) (a : K.Dens κs bytes-kinds.ps) (b : K.Dens κs' bytes-kinds.ps) (r q : _) (s t : _)
    → bytes-call.Post κs a r s → bytes-call.Post κs' b q t → Names a.0 x → Names b.0 y → a.1.0.now ≡ b.1.0.now
    → a.1.1.0.now ≡ b.1.1.0.now → a.1.1.1.0.now ≡ b.1.1.1.0.now
    → frame_for x (description_of b.1.1.0.now) ≡ frame_for y (description_of b.1.1.0.now) → (r ≡ q) × (s.1.0.now ≡ t.1.0.now)
bytes_same x y κs κs' a b r q s t kept kept' n n' out items grid same =
    let one = bytes_named κs a r s kept x n in
    let other = bytes_named κs' b q t kept' y n' in
    let given = b.1.1.0.now in
    let bytes = b.1.1.1.0.now in
    let o = b.1.0.now in (
      told_injective act r q (one.0 ∙ (λ k. bytes_told x (items k) (grid k) (out k)) ∙ bytes_told_same x y given bytes o same ∙ sym other.0),
      one.1 ∙ (λ k. bytes_output x (items k) (grid k) (out k)) ∙ bytes_left_same x y given bytes o same ∙ sym other.1,
    )

pub host_write_same : (x y : Year) (κs κs' : L.Lfts 3) (a : K.Dens κs host-write-kinds.ps) (b : K.Dens κs' host-write-kinds.ps) (r q : _) (s t : _)
    → host-write-call.Post κs a r s → host-write-call.Post κs' b q t → Names a.0 x → Names b.0 y → a.1.0.now ≡ b.1.0.now
    → a.1.1.0.now ≡ b.1.1.0.now → a.1.1.1.0.now ≡ b.1.1.1.0.now
    → frame_for x (description_of b.1.1.0.now) ≡ frame_for y (description_of b.1.1.0.now) → (r ≡ q) × (s.1.0.now ≡ t.1.0.now)
host_write_same x y κs κs' a b r q s t kept kept' n n' out items grid same =
    let one = host_write_named κs a r s kept x n in
    let other = host_write_named κs' b q t kept' y n' in
    let given = b.1.1.0.now in
    let bytes = b.1.1.1.0.now in
    let o = b.1.0.now in (
      one.0 ∙ ap packed ((λ k. bytes_told x (items k) (grid k) (out k)) ∙ bytes_told_same x y given bytes o same) ∙ sym other.0,
      one.1 ∙ (λ k. bytes_output x (items k) (grid k) (out k)) ∙ bytes_left_same x y given bytes o same ∙ sym other.1,
    )
