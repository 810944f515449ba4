-- D2: one byte of a column of an accepted cell replaced by another value is refused, at a place inside that column.
use Rattle.std.specs.Prelude.{Result, Ok, Err, ⊤}
use Rattle.answers.specs.declared.Refusal.{Refusal}
use Prim.Native.Nat.{ℕ, ◌+◌, ◌-◌, ◌*◌, ◌<◌, ◌≤◌}
use native.Mathlib.Nat.{add-mul, mul-le-mul_right}
use native.Mathlib.Omega.{arith}
use mathlib.Core.Path.{◌≡◌, sym, ap, subst, ◌∙◌}
use mathlib.Core.List.{List, [], ◌∷◌}
use lib.ListN.{length, get_or, drop, set, length-set}
use lib.Seq.{take-set-le, take-set-lt, drop-set-add}
use Rattle.octets.proofs.PartLaws.{byte_part, paste_before}
use Rattle.octets.proofs.PasteLaws.{store}
use Rattle.answers.specs.Told.{Told, refused, number_told, place_told}
use Rattle.answers.proofs.Injective.{refusal_told}
use Rattle.years.specs.declared.Year.{Year}
use Rattle.layout.specs.Grid.{header_bytes}
use Rattle.layout.specs.declared.Frame.{Frame}
use Rattle.layout.specs.Ranges.{Ranged}
use Rattle.headers.specs.Judged.{judged, facts_in, frame_in}
use Rattle.headers.proofs.Exactly.{follows_good}
use Rattle.headers.proofs.SameHeaders.{same_headers}
use Rattle.columns.specs.Judged.{judged_column, RefusedIn}
use Rattle.columns.proofs.Damage.{one_byte}
use Rattle.cells.specs.Cell.{start_of, column_at, Framed, Cell}
use Rattle.intake.specs.Intake.{or_rest, columns_from, taken}
use Rattle.intake.proofs.FrameExactly.{GoodBefore, end_of, judged_at, framed_before, first_judged}
use Rattle.intake.proofs.CellExactly.{frame_ranged}

-- a refusal inside a part of the file
abbrev pub RefusedAt : ℕ → ℕ → Told → Type 0
RefusedAt lo hi t = (t ≡ refused (number_told t) (place_told t)) × ((lo ≤ place_told t) × (place_told t < hi))

refused_at : (lo hi : ℕ) (x : Result ⊤ Refusal) (rest : Told) → RefusedIn lo hi x → RefusedAt lo hi (or_rest x rest)
refused_at lo hi (Ok tt) rest p = absurd p
refused_at lo hi (Err r) rest p = (refusal_told r, p)

-- under any frame: byte i of column k is replaced by v
module _ (s : List ℕ) (f : Frame) (in_range_lem : Ranged f.grid) (framed : Framed f s) (k i v : ℕ) (h : k < f.grid.columns) (u : i < f.grid.bytes.column) where
  abbrev changed : List ℕ
  changed = set s (start_of f.grid k + i) v

  whole : end_of f k ≤ length s
  whole = (framed_before s f in_range_lem framed k h).0

  -- the columns before it stay
  before_stays : GoodBefore changed f k
  before_stays x l =
      let g = f.grid in
      let here = framed_before s f in_range_lem framed x (omega arith) in
      let up : (x + 1) * g.bytes.column ≤ k * g.bytes.column = mul-le-mul_right g.bytes.column (omega arith) in
      let same : column_at changed g x ≡ column_at s g x =
      ap (λ (t : List ℕ). column_at t g x) (store s (start_of g k + i) v (omega (arith, whole)))
      ∙ paste_before s (start_of g k + i) (v ∷ []) (start_of g x) g.bytes.column (omega (arith, whole)) (omega (arith, add-mul x 1 g.bytes.column))
      in
      (rw length-set here.0, rw same here.1)

  -- and the column itself has the one byte replaced
  column_changes : column_at changed f.grid k ≡ set (column_at s f.grid k) i v
  column_changes = rw (drop-set-add (start_of f.grid k) s i v) (take-set-lt f.grid.bytes.column (drop (start_of f.grid k) s) i v u)

  pub byte_refused : (v ≡ get_or s (start_of f.grid k + i) 0 → ⊥)
      → RefusedAt (start_of f.grid k) (end_of f k) (columns_from changed f 0 f.grid.columns)
  byte_refused other =
      let g = f.grid in
      let good = framed.columns k h in
      let old = byte_part s (start_of g k) g.bytes.column i u in
      let damage =
      one_byte (column_at s g k) k g.posts f.voids (start_of g k) good i v (omega (arith, good.long, in_range_lem.column)) (λ q. other (q ∙ old))
      in
      let inside : RefusedIn (start_of g k) (end_of f k) (judged_at changed f k) =
      rw column_changes
      (subst (λ (m : ℕ). RefusedIn (start_of g k) (start_of g k + m) (judged_column (set (column_at s g k) i v) k g.posts f.voids (start_of g k)))
      (sym in_range_lem.column) damage)
      in
      subst (RefusedAt (start_of g k) (end_of f k)) (sym (first_judged changed f k h before_stays (rw length-set whole)))
      (refused_at (start_of g k) (end_of f k) (judged_at changed f k) _ inside)

-- byte j lies in column k and is replaced by v
pub one_byte_refused : (year : Year) (s : List ℕ) → Cell year s → (k j v : ℕ) → k < (facts_in s).grid.columns
    → start_of (facts_in s).grid k ≤ j → j < start_of (facts_in s).grid k + (facts_in s).grid.bytes.column → (v ≡ get_or s j 0 → ⊥)
    → RefusedAt (start_of (facts_in s).grid k) (start_of (facts_in s).grid k + (facts_in s).grid.bytes.column) (taken year (set s j v))
unfolding taken
one_byte_refused year s cell k j v h low high other =
    let f = frame_in year s in
    let start = start_of f.grid k in
    let at_j : start + (j - start) ≡ j = omega arith in
    let enough : header_bytes ≤ length s = cell.headers.0 in
    let same : judged (set s j v) ≡ Ok (facts_in s) =
    same_headers (set s j v) s (rw length-set enough) enough (take-set-le header_bytes s j v (omega arith)) ∙ follows_good s cell.headers
    in
    rw same
    (subst (λ (m : ℕ). RefusedAt start (end_of f k) (columns_from (set s m v) f 0 f.grid.columns)) at_j
    (byte_refused s f (frame_ranged s cell.headers) cell.framed k (j - start) v h (omega arith) (λ q. other (q ∙ ap (λ (m : ℕ). get_or s m 0) at_j))))
