-- S6 over the steps' own promises: calls of `step`, from a new state on, fed with a file cut at its column edges, end with what a call of intake
-- answers of the whole.
use Rattle.std.specs.Prelude.{Result}
use Rattle.answers.specs.declared.Refusal.{Refusal}
use Rattle.answers.specs.declared.Verdict.{Verdict}
use Prim.Native.Nat.{ℕ}
use mathlib.Core.Path.{◌≡◌, sym, subst, ◌∙◌}
use mathlib.Core.Bool.{true}
use mathlib.Core.List.{List, [], ◌∷◌, ◌++◌}
use lib.ListN.{take}
use contract.Lifetimes as L
use borrow.Fn.Kinds as K
use Rattle.answers.specs.Told as telling
use Rattle.answers.proofs.Injective.{told_injective}
use Rattle.years.specs.declared.Year.{Year}
use Rattle.years.specs.Years.{under}
use Rattle.layout.specs.Grid.{header_bytes}
use Rattle.headers.specs.Judged.{facts_in}
use Rattle.intake.specs.Intake.{taken}
use Rattle.intake.proofs.intake.Reads as intake
use Rattle.intake.proofs.intake.Kinds as intake-kinds
use Rattle.steps.specs.Steps.{Fed, first_piece, later_pieces}
use Rattle.steps.specs.declared.Phase.{Phase}
use Rattle.steps.specs.Turns.{is_final}
use Rattle.steps.proofs.StepsWhole.{steps_whole}
use Rattle.steps.proofs.StoppedEarly as early
use Rattle.steps.proofs.Steps.new.Reads as new
use Rattle.steps.proofs.Steps.new.Kinds as new-kinds
use Rattle.steps.proofs.Steps.step.Reads as step
use Rattle.steps.proofs.Steps.step.Kinds as step-kinds

-- calls of `step`, each of which keeps its promise and is handed the state that the one before gave back, take these pieces; the last answers w
pub data Steps : Phase → List ℕ → List (List ℕ) → Result Verdict Refusal → Type 1 where
  last : (κs : L.Lfts 1) (a : K.Dens κs step-kinds.ps) (r : _) (s : _) → step.Post κs a r s → Steps a.0.phase a.1.0.now [] r.answer
  then : {piece : List ℕ} {pieces : List (List ℕ)} {w : Result Verdict Refusal} (κs : L.Lfts 1) (a : K.Dens κs step-kinds.ps) (r : _) (s : _)
      → step.Post κs a r s → Steps r.steps.phase piece pieces w → Steps a.0.phase a.1.0.now (piece ∷ pieces) w

fed : {phase : Phase} {piece : List ℕ} {pieces : List (List ℕ)} {w : Result Verdict Refusal} → Steps phase piece pieces w → Fed phase piece pieces w
fed (last κs a r s kept) = kept.said
fed (then {piece = piece} {pieces = pieces} {w = w} κs a r s kept rest) =
    (r.answer, (kept.said, subst (λ (phase : Phase). Fed phase piece pieces w) kept.state (fed rest)))

-- the pieces of a file after its headers: a column each, then the rest
abbrev pub first_column : List ℕ → List ℕ
first_column l = first_piece l (facts_in l).grid 0 (facts_in l).grid.columns

abbrev pub later_columns : List ℕ → List (List ℕ)
later_columns l = later_pieces l (facts_in l).grid 0 (facts_in l).grid.columns

pub stepped_whole : (l : List ℕ) (κ₀ : L.Lfts 0) (b : K.Dens κ₀ new-kinds.ps) (fresh : _) (t : _) → new.Post κ₀ b fresh t
    → (w : Result Verdict Refusal) → Steps fresh.phase (take header_bytes l) (first_column l ∷ later_columns l) w
    → (κs : L.Lfts 1) (a : K.Dens κs intake-kinds.ps) (v : _) (s : _) → intake.Post κs a v s → a.0 ≡ b.0 → a.1.0.now ≡ l → w ≡ v
stepped_whole l κ₀ b fresh t new-kept w calls κs a v s kept named same =
    let begun = subst (λ (phase : Phase). Fed phase (take header_bytes l) (first_column l ∷ later_columns l) w) new-kept (fed calls) in
    told_injective telling.intake w v (steps_whole b.0 l w begun ∙ sym (kept ∙ (λ k. under (named k) (λ (year : Year). taken year (same k)))))

-- so also for a caller who stops at the first final answer, with the rest of the pieces not fed
pub stopped_whole : (l : List ℕ) (κ₀ : L.Lfts 0) (b : K.Dens κ₀ new-kinds.ps) (fresh : _) (t : _) → new.Post κ₀ b fresh t
    → (pieces rest : List (List ℕ)) → pieces ++ rest ≡ first_column l ∷ later_columns l
    → (w : Result Verdict Refusal) → is_final w ≡ true → Steps fresh.phase (take header_bytes l) pieces w
    → (κs : L.Lfts 1) (a : K.Dens κs intake-kinds.ps) (v : _) (s : _) → intake.Post κs a v s → a.0 ≡ b.0 → a.1.0.now ≡ l → w ≡ v
stopped_whole l κ₀ b fresh t new-kept pieces rest all w final calls κs a v s kept named same =
    let begun = subst (λ (phase : Phase). Fed phase (take header_bytes l) pieces w) new-kept (fed calls) in
    told_injective telling.intake w v (early.stopped_whole b.0 l pieces rest w final all begun ∙ sym (kept ∙ (λ k. under (named k) (λ (year : Year). taken year (same k)))))
