-- Steps fed with the columns of a file, one after another, end with what intake says of the whole.
use Rattle.std.specs.Prelude.{Result, Ok, Err, ⊤}
use Rattle.answers.specs.declared.Refusal.{Refusal}
use Rattle.answers.specs.declared.Verdict.{Verdict}
use Prim.Native.Nat.{ℕ, zero, suc, ◌+◌, ◌≤◌, ◌<◌}
use native.Mathlib.Omega.{arith}
use mathlib.Core.Path.{◌≡◌, sym, ap, subst, ◌∙◌}
use mathlib.Core.List.{List, [], ◌∷◌}
use lib.ListN.{length, take, drop, length-drop, length-take}
use lib.Seq.{length-take-le, take_all}
use borrow.Author.Tests.{le-leb, lt-leb}
use Rattle.octets.specs.Scan.{scan}
use Rattle.octets.proofs.ChoiceLaws.{by_order}
use Rattle.answers.specs.Told.{Told, told, intake, refused, more, numbered}
use Rattle.answers.specs.declared.Verdict.TheVariants as verdict
use Rattle.answers.proofs.Injective.{told_injective}
use Rattle.layout.specs.Grid.{laid}
use Rattle.layout.specs.declared.Frame.{Frame}
use Rattle.columns.specs.Judged.{judged_column}
use Rattle.cells.specs.Cell.{start_of, column_at}
use Rattle.cells.proofs.ColumnPlaces.{next_start}
use Rattle.intake.specs.Intake.{or_rest, judge_next, ended, columns_from}
use Rattle.intake.proofs.NeverMore.{refused_not_more, numbered_not_more}
use Rattle.steps.specs.Steps.{said_of, said_of_column, after, Fed, first_piece, later_pieces}
use Rattle.steps.specs.declared.Phase.{Phase}
use Rattle.steps.specs.declared.Phase.TheVariants.{Columns, Over}
use Rattle.steps.proofs.Kept.{over_kept}
use Rattle.steps.proofs.Pieces.{piece_past, piece_short, piece_judged, laid_ranged}

-- S5: once over, every later answer is the same
pub over_stays : (u : Result Verdict Refusal) (piece : List ℕ) (pieces : List (List ℕ)) (w : Result Verdict Refusal) → Fed (Over u) piece pieces w → w ≡ u
over_stays u piece [] w e = told_injective intake w u e
over_stays u piece (p ∷ ps) w f =
    let same = told_injective intake f.0 u f.1.0 in
    over_stays u p ps w (subst (λ (phase : Phase). Fed phase p ps w) (ap (after (Over u) piece) same ∙ over_kept u) f.1.1)

-- an answer other than "more" is the last
pub settled : (v : Result Verdict Refusal) (t : Told) (phase : Phase) (piece p : List ℕ) (ps : List (List ℕ)) (w : Result Verdict Refusal)
    → told intake v ≡ t → (t ≡ more → ⊥) → Fed (after phase piece v) p ps w → told intake w ≡ t
settled (Ok verdict.More) t phase piece p ps w e n f = absurd (n (sym e))
settled (Ok (verdict.Accepted l c q)) t phase piece p ps w e n f =
    ap (told intake) (over_stays (Ok (verdict.Accepted l c q)) p ps w f) ∙ e
settled (Err r) t phase piece p ps w e n f = ap (told intake) (over_stays (Err r) p ps w f) ∙ e

module _ (s : List ℕ) (f : Frame) (level edge : ℕ) (out : laid level edge ≡ Ok f.grid) where
  abbrev due : ℕ → Phase
  due k = Columns (record { level = level; edge = edge; voids = f.voids; next = k })

  said_due : (k : ℕ) (piece : List ℕ) → said_of (due k) piece ≡ said_of_column f k piece
  said_due k piece = rw out

  -- a step on a piece that is said as a column judged x: it goes on where the column is good, and ends where it is not
  turn : (k : ℕ) (piece p : List ℕ) (ps : List (List ℕ)) (w : Result Verdict Refusal) (rest : Told) (x : Result ⊤ Refusal) → said_of (due k) piece ≡ or_rest x more
      → Fed (due k) piece (p ∷ ps) w → (Fed (due (k + 1)) p ps w → told intake w ≡ rest) → told intake w ≡ or_rest x rest
  turn k piece p ps w rest (Ok tt) e fed go =
      go (subst (λ (v : Result Verdict Refusal). Fed (after (due k) piece v) p ps w) (told_injective intake fed.0 (Ok verdict.More) (fed.1.0 ∙ e)) fed.1.1)
  turn k piece p ps w rest (Err r) e fed go = settled fed.0 (numbered r) (due k) piece p ps w (fed.1.0 ∙ e) (numbered_not_more r) fed.1.1

  pub columns_fed : (n k : ℕ) (w : Result Verdict Refusal) → k + n ≡ f.grid.columns → start_of f.grid k ≤ length s
      → Fed (due k) (first_piece s f.grid k n) (later_pieces s f.grid k n) w → told intake w ≡ columns_from s f k n
  unfolding scan judge_next
  columns_fed zero k w e h fed =
      let g = f.grid in
      let same : k ≡ g.columns = omega arith in
      let start : start_of g k ≡ g.bytes.cell = rw same (sym (laid_ranged level edge g out).cell) in
      let long : g.bytes.cell + length (drop g.bytes.cell s) ≡ length s = rw length-drop (omega arith) in
      fed ∙ said_due k (drop g.bytes.cell s) ∙ piece_past f k (drop g.bytes.cell s) (omega arith) ∙ ap (λ (m : ℕ). ended m g) long
  columns_fed (suc n) k w e h fed =
      let g = f.grid in
      let column = column_at s g k in
      let p = first_piece s g (k + 1) n in
      let ps = later_pieces s g (k + 1) n in
      by_order (start_of g k + g.bytes.column) (length s)
      (λ u.
      let long = length-take-le g.bytes.column (drop (start_of g k) s) (rw length-drop (omega arith)) in
      let all : take g.bytes.column column ≡ column = take_all g.bytes.column column (omega arith) in
      let x = judged_column column k g.posts f.voids (start_of g k) in
      turn k column p ps w (columns_from s f (k + 1) n) x (said_due k column ∙ piece_judged f k column (omega arith) (omega arith) x (rw all)) fed
      (λ later. columns_fed n (k + 1) w (omega arith) (rw next_start (omega arith)) later)
      ∙ rw (le-leb (start_of g k + g.bytes.column) (length s) u))
      (λ u.
      let short : length column < g.bytes.column = rw (length-take, length-drop) (omega arith) in
      settled fed.0 (refused 3 (start_of g k)) (due k) column p ps w (fed.1.0 ∙ said_due k column ∙ piece_short f k column (omega arith) short)
      (refused_not_more 3 (start_of g k)) fed.1.1
      ∙ rw (lt-leb (start_of g k + g.bytes.column) (length s) u))
