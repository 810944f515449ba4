-- N21 to N23 over the calls' own promises, inner and exported: where a field of the headers is the first that breaks its rule, each call that judges
-- headers tells the same of it, the place in that field and the number 21, 22 or 23 exactly as the scope says; and of nothing else.
use Rattle.std.specs.Prelude.{Result, Ok, Err, ⊤}
use Rattle.lookup.specs.declared.reach.Spot.{Spot}
use Rattle.headers.specs.declared.Facts.{Facts}
use Rattle.posts.specs.declared.Post.TheVariants as reads
use Prim.Native.Nat.{ℕ, ◌+◌, ◌<◌, ◌≤◌}
use native.Mathlib.Omega.{arith}
use mathlib.Core.Path.{◌≡◌, refl, sym, ap, subst}
use mathlib.Core.Bool.{Bool}
use mathlib.Core.List.{List}
use lib.Dec.{lit<}
use lib.IntN.{ℤ}
use lib.ListN.{length}
use contract.Lifetimes as L
use borrow.Fn.Kinds as K
use Rattle.answers.specs.Told.{Told, numbered, number_told, place_told, told, intake, post, position, act}
use Rattle.answers.specs.declared.Refusal.{Refusal}
use Rattle.answers.specs.declared.Refusal.TheVariants as because
use Rattle.years.specs.declared.Year.{Year}
use Rattle.years.specs.Years.{Names}
use Rattle.host_answers.specs.Apart.{told_in}
use Rattle.posts.specs.Words.{post_of}
use Rattle.posts.specs.declared.Post.{Post}
use Rattle.posts.specs.declared.Post.TheVariants.{Height, Void}
use Rattle.fields.specs.Table.{bytes_in, field_at}
use Rattle.headers.specs.Basis.{basis_in}
use Rattle.headers.specs.Judged.{broken, judged, frame_in, facts_in}
use Rattle.headers.proofs.Exactly.{First, Answer, short, breaks, good, answered, first_refused}
use Rattle.headers.proofs.BrokenPlace.{PlaceIn, place_told_lem}
use Rattle.header_writer.proofs.FieldTold.{NumberExactly, number_told_lem}
use Rattle.columns.specs.Column.{word_at, sum_at}
use Rattle.columns.specs.Judged.{judged_column}
use Rattle.columns.proofs.ColumnExactly as column-rows
use Rattle.cells.specs.Cell.{start_of, column_at}
use Rattle.description.specs.Described.{described_by, described}
use Rattle.intake.specs.Intake.{taken}
use Rattle.intake.proofs.IntakeExactly as intake-rows
use Rattle.lookup.specs.Lookup.{reading_of, looked_up}
use Rattle.lookup.specs.Reach.{spot_in, reached}
use Rattle.lookup.proofs.ReachedExactly as lookup-rows
use Rattle.position.specs.Position.{nearest_column, nearest_post, said_at, located}
use Rattle.position.proofs.PositionExactly as position-rows
use Rattle.edit.specs.Edit.{judged_edit, edit_told}
use Rattle.edit.proofs.EditExactly as edit-rows
use Rattle.dted.specs.Description.{said_of_described}
use Rattle.intake.proofs.intake.Reads as taking
use Rattle.intake.proofs.intake.Kinds as taking-kinds
use Rattle.description.proofs.describe.describe.Reads as describing
use Rattle.description.proofs.describe.describe.Kinds as describing-kinds
use Rattle.lookup.proofs.look_up.Reads as looking
use Rattle.lookup.proofs.look_up.Kinds as looking-kinds
use Rattle.position.proofs.locate.Reads as locating
use Rattle.position.proofs.locate.Kinds as locating-kinds
use Rattle.edit.proofs.edit.Reads as editing
use Rattle.edit.proofs.edit.Kinds as editing-kinds
use Rattle.dted.proofs.cell_calls.dted_intake.Reads as intake-call
use Rattle.dted.proofs.cell_calls.dted_intake.Kinds as intake-kinds
use Rattle.dted.proofs.cell_calls.dted_post.Reads as post-call
use Rattle.dted.proofs.cell_calls.dted_post.Kinds as post-kinds
use Rattle.dted.proofs.cell_calls.dted_position.Reads as position-call
use Rattle.dted.proofs.cell_calls.dted_position.Kinds as position-kinds
use Rattle.dted.proofs.cell_calls.dted_edit.Reads as edit-call
use Rattle.dted.proofs.cell_calls.dted_edit.Kinds as edit-kinds
use Rattle.dted.proofs.descriptions.dted_describe.Reads as describe-call
use Rattle.dted.proofs.descriptions.dted_describe.Kinds as describe-kinds
use Rattle.demands.proofs.NamedYears.{intake_named, post_named, position_named, edit_named}
use Rattle.demands.proofs.HostTold.{describe_told, intake_told_in, post_told_in, position_told_in, edit_told_in}

-- what is told of field i, the first of these bytes that breaks its rule
pub record FieldTold (l : List ℕ) (i : ℕ) (t : Told) : Type 0 where
  pub is : t ≡ numbered (broken l (basis_in l) (field_at i))
  pub place : PlaceIn l i (place_told t)
  pub number : NumberExactly (field_at i) (bytes_in l (field_at i)) (number_told t)

told_so : (l : List ℕ) (i : ℕ) → First l i → (t : Told) → t ≡ numbered (broken l (basis_in l) (field_at i)) → FieldTold l i t
told_so l i f t e = rw e (record { is = refl; place = place_told_lem l i f; number = number_told_lem l i f })

-- a field of these bytes that is the first to break its rule
pub record BrokenField (l : List ℕ) : Type 0 where
  pub row : ℕ
  pub first : First l row

-- what a call tells of the headers that it was lent: of the first broken field as above, and a number from 21 on of nothing else
pub record HeadersSaid (l : List ℕ) (t : Told) : Type 0 where
  pub field : (i : ℕ) → First l i → FieldTold l i t
  pub only : 21 ≤ number_told t → BrokenField l

-- from what its definition makes of refused headers, and of any
said_by_lem : (l : List ℕ) (t : Told) → ((r : Refusal) → judged l ≡ Err r → t ≡ numbered r) → (21 ≤ number_told t → BrokenField l) → HeadersSaid l t
said_by_lem l t refused from-21 = record { field = λ i f. told_so l i f t (refused _ (first_refused l i f)); only = from-21 }

by_answer : (l : List ℕ) (j : Result Facts Refusal) → Answer l j → (r : Refusal) → j ≡ Err r → 21 ≤ number_told (numbered r) → BrokenField l
by_answer l _ (short h) r e n =
    let same : because.Short (length l) ≡ r = cc in
    let low : 21 ≤ 1 = subst (λ (x : Refusal). 21 ≤ number_told (numbered x)) (sym same) n in
    absurd (omega arith)
by_answer l _ (breaks i f) r e n = record { row = i; first = f }
by_answer l _ (good h) r e n = let z : ◌≡◌ {A = ℕ} 0 1 = cc in absurd (omega arith)

headers_broken : (l : List ℕ) (r : Refusal) → judged l ≡ Err r → 21 ≤ number_told (numbered r) → BrokenField l
headers_broken l r e n = by_answer l (judged l) (answered l) r e n

-- a column's refusals are 4, 5 and 6
same_below : (q r : Refusal) → ◌≡◌ {A = Result ⊤ Refusal} (Err q) (Err r) → number_told (numbered q) < 21 → number_told (numbered r) < 21
same_below q r e h = let same : q ≡ r = cc in subst (λ (x : Refusal). number_told (numbered x) < 21) same h

module _ (s : List ℕ) (k posts : ℕ) (voids : Bool) (base : ℕ) where
  by_column : (j : Result ⊤ Refusal) → column-rows.Row s k posts voids base j → (r : Refusal) → j ≡ Err r → number_told (numbered r) < 21
  by_column _ (column-rows.sentinel n) r e = same_below (because.Preamble base) r e (lit< tt)
  by_column _ (column-rows.block a n) r e = same_below (because.Preamble (base + 1)) r e (lit< tt)
  by_column _ (column-rows.longitude a b n) r e = same_below (because.Preamble (base + 4)) r e (lit< tt)
  by_column _ (column-rows.latitude a b c n) r e = same_below (because.Preamble (base + 6)) r e (lit< tt)
  by_column _ (column-rows.checksum p n) r e = same_below (because.Checksum (base + sum_at posts)) r e (lit< tt)
  by_column _ (column-rows.word h i u bad f) r e = same_below (because.Word (base + word_at i)) r e (lit< tt)
  by_column _ (column-rows.good h f) r e = let z : ◌≡◌ {A = ℕ} 0 1 = cc in absurd (omega arith)

  column_below : (r : Refusal) → judged_column s k posts voids base ≡ Err r → number_told (numbered r) < 21
  column_below r e = by_column (judged_column s k posts voids base) (column-rows.row s k posts voids base) r e

-- the rows of intake, and of a post that is reached
by_intake : (year : Year) (l : List ℕ) (t : Told) → intake-rows.IntakeRow year l t → 21 ≤ number_told t → BrokenField l
by_intake year l _ (intake-rows.bad_headers r e) n = headers_broken l r e n
by_intake year l _ (intake-rows.cut h k u f c) n = absurd (omega (arith, n))
by_intake year l _ (intake-rows.column h k u f w r e) n =
    let g = (facts_in l).grid in
    absurd (omega (arith, n, column_below (column_at l g k) k g.posts (frame_in year l).voids (start_of g k) r e))
by_intake year l _ (intake-rows.surplus h f m) n = absurd (omega (arith, n))
by_intake year l _ (intake-rows.fine cell) n = absurd (omega (arith, n))

reads_0 : (q : Post) → number_told (told post (Ok q)) ≡ 0
reads_0 (Height z) = refl
reads_0 Void = refl

by_reached : (year : Year) (l : List ℕ) (c p : ℕ) (x : Result Spot Refusal) → lookup-rows.Row year l c p x → 21 ≤ number_told (told post (reading_of x)) → BrokenField l
by_reached year l c p _ (lookup-rows.bad_headers r e) n = headers_broken l r e n
by_reached year l c p _ (lookup-rows.off h away) n = absurd (omega (arith, n))
by_reached year l c p _ (lookup-rows.cut o s) n = absurd (omega (arith, n))
by_reached year l c p _ (lookup-rows.column o w r e) n =
    let g = (facts_in l).grid in
    absurd (omega (arith, n, column_below (column_at l g c) c g.posts (frame_in year l).voids (start_of g c) r e))
by_reached year l c p _ (lookup-rows.good o w g) n = absurd (omega (arith, n, reads_0 (post_of (spot_in l (frame_in year l) c p).word)))

same_number : (c p : ℕ) (y : Result Post Refusal) → number_told (said_at c p y) ≡ number_told (told post y)
same_number c p (Ok (reads.Height z)) = refl
same_number c p (Ok reads.Void) = refl
same_number c p (Err r) = refl

by_position : (year : Year) (l : List ℕ) (latitude longitude : ℤ) (t : Told) → position-rows.Row year l latitude longitude t → 21 ≤ number_told t → BrokenField l
by_position year l latitude longitude _ (position-rows.bad_headers r e) n = headers_broken l r e n
by_position year l latitude longitude _ (position-rows.off f e w) n = absurd (omega (arith, n))
by_position year l latitude longitude _ (position-rows.near f e k w) n =
    let c = nearest_column f.grid k in
    let p = nearest_post f.grid k in
    by_reached year l c p (reached year l c p) (lookup-rows.row year l c p) (omega (arith, n, same_number c p (reading_of (reached year l c p))))

by_edit : (year : Year) (l : List ℕ) (c p : ℕ) (z : ℤ) (x : Result ⊤ Refusal) → edit-rows.EditRow year l c p z x → 21 ≤ number_told (told act x) → BrokenField l
by_edit year l c p z _ (edit-rows.reaching r row) n = by_reached year l c p (Err r) row n
by_edit year l c p z _ (edit-rows.height r e) n = absurd (omega (arith, n))
by_edit year l c p z _ (edit-rows.done r e) n = absurd (omega (arith, n))

by_described : (l : List ℕ) (x : Result Facts Refusal) → judged l ≡ x → 21 ≤ number_told (said_of_described (described_by l x)) → BrokenField l
by_described l (Ok f) e n = absurd (omega (arith, n))
by_described l (Err r) e n = headers_broken l r e n

-- what each definition says of headers
intake_says : (year : Year) (l : List ℕ) → HeadersSaid l (taken year l)
intake_says year l = said_by_lem l (taken year l) (λ r e. intake-rows.given year l _ (intake-rows.bad_headers r e)) (by_intake year l (taken year l) (intake-rows.row year l))

describe_says : (l : List ℕ) → HeadersSaid l (said_of_described (described l))
unfolding described
describe_says l =
    said_by_lem l (said_of_described (described l)) (λ r e. ap (λ (x : Result Facts Refusal). said_of_described (described_by l x)) e) (by_described l (judged l) refl)

post_says : (year : Year) (l : List ℕ) (c p : ℕ) → HeadersSaid l (looked_up year l c p)
unfolding looked_up
post_says year l c p =
    said_by_lem l (looked_up year l c p)
    (λ r e. ap (λ (x : Result Spot Refusal). told post (reading_of x)) (lookup-rows.given year l c p _ (lookup-rows.bad_headers r e)))
    (by_reached year l c p (reached year l c p) (lookup-rows.row year l c p))

position_says : (year : Year) (l : List ℕ) (latitude longitude : ℤ) → HeadersSaid l (located year l latitude longitude)
position_says year l latitude longitude =
    said_by_lem l (located year l latitude longitude)
    (λ r e. position-rows.given year l latitude longitude _ (position-rows.bad_headers r e))
    (by_position year l latitude longitude (located year l latitude longitude) (position-rows.row year l latitude longitude))

edit_says : (year : Year) (l : List ℕ) (c p : ℕ) (z : ℤ) → HeadersSaid l (edit_told year l c p z)
unfolding edit_told
edit_says year l c p z =
    said_by_lem l (edit_told year l c p z)
    (λ r e. ap (told act) (edit-rows.given year l c p z _ (edit-rows.reaching r (lookup-rows.bad_headers r e))))
    (by_edit year l c p z (judged_edit year l c p z) (edit-rows.row year l c p z))

-- so over the calls' own promises
said_of : (l : List ℕ) (t u : Told) → u ≡ t → HeadersSaid l t → HeadersSaid l u
said_of l t u e = subst (HeadersSaid l) (sym e)

pub intake_headers : (κs : L.Lfts 1) (a : K.Dens κs taking-kinds.ps) (r : _) (s : _) → taking.Post κs a r s → (year : Year) → Names a.0 year → HeadersSaid a.1.0.now (told intake r)
intake_headers κs a r s kept year names = said_of _ _ _ (intake_named κs a r s kept year names) (intake_says year a.1.0.now)

pub describe_headers : (κs : L.Lfts 1) (a : K.Dens κs describing-kinds.ps) (r : _) (s : _) → describing.Post κs a r s → HeadersSaid a.0.now (said_of_described r)
describe_headers κs a r s kept = said_of _ _ _ (ap said_of_described kept) (describe_says a.0.now)

pub post_headers : (κs : L.Lfts 1) (a : K.Dens κs looking-kinds.ps) (r : _) (s : _) → looking.Post κs a r s → (year : Year) → Names a.0 year → HeadersSaid a.1.0.now (told post r)
post_headers κs a r s kept year names = said_of _ _ _ (post_named κs a r s kept year names) (post_says year a.1.0.now a.1.1.0 a.1.1.1.0)

pub position_headers : (κs : L.Lfts 1) (a : K.Dens κs locating-kinds.ps) (r : _) (s : _) → locating.Post κs a r s → (year : Year) → Names a.0 year
    → HeadersSaid a.1.0.now (told position r)
position_headers κs a r s kept year names = said_of _ _ _ (position_named κs a r s kept year names) (position_says year a.1.0.now a.1.1.0 a.1.1.1.0)

pub edit_headers : (κs : L.Lfts 1) (a : K.Dens κs editing-kinds.ps) (r : _) (s : _) → editing.Post κs a r s → (year : Year) → Names a.0 year → HeadersSaid a.1.0.now (told act r)
edit_headers κs a r s kept year names = said_of _ _ _ (edit_named κs a r s kept year names).0 (edit_says year a.1.0.now a.1.1.0 a.1.1.1.0 a.1.1.1.1.0)

-- and the exported ones: what the header takes out of an answer
pub host_intake_headers : (κs : L.Lfts 1) (a : K.Dens κs intake-kinds.ps) (r : _) (s : _) → intake-call.Post κs a r s → (year : Year) → Names a.0 year
    → HeadersSaid a.1.0.now (told_in r)
host_intake_headers κs a r s kept year names = said_of _ _ _ (intake_told_in κs a r s kept year names) (intake_says year a.1.0.now)

pub host_describe_headers : (κs : L.Lfts 2) (a : K.Dens κs describe-kinds.ps) (r : _) (s : _) → describe-call.Post κs a r s
    → HeadersSaid a.0.now (told_in r)
host_describe_headers κs a r s kept = said_of _ _ _ (describe_told κs a r s kept) (describe_says a.0.now)

pub host_post_headers : (κs : L.Lfts 1) (a : K.Dens κs post-kinds.ps) (r : _) (s : _) → post-call.Post κs a r s → (year : Year) → Names a.0 year → HeadersSaid a.1.0.now (told_in r)
host_post_headers κs a r s kept year names = said_of _ _ _ (post_told_in κs a r s kept year names) (post_says year a.1.0.now a.1.1.0 a.1.1.1.0)

pub host_position_headers : (κs : L.Lfts 1) (a : K.Dens κs position-kinds.ps) (r : _) (s : _) → position-call.Post κs a r s → (year : Year) → Names a.0 year
    → HeadersSaid a.1.0.now (told_in r)
host_position_headers κs a r s kept year names = said_of _ _ _ (position_told_in κs a r s kept year names) (position_says year a.1.0.now a.1.1.0 a.1.1.1.0)

pub host_edit_headers : (κs : L.Lfts 1) (a : K.Dens κs edit-kinds.ps) (r : _) (s : _) → edit-call.Post κs a r s → (year : Year) → Names a.0 year → HeadersSaid a.1.0.now (told_in r)
host_edit_headers κs a r s kept year names = said_of _ _ _ (edit_told_in κs a r s kept year names) (edit_says year a.1.0.now a.1.1.0 a.1.1.1.0 a.1.1.1.1.0)
