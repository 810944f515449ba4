-- S5, S6: a caller who stops at the first final answer has what a caller would have who feeds every piece, and so what intake says of the whole.
use Rattle.std.specs.Prelude.{Result, Ok, Err}
use Rattle.answers.specs.declared.Refusal.{Refusal}
use Rattle.answers.specs.declared.Verdict.{Verdict}
use mathlib.Core.Path.{◌≡◌, refl, sym, subst}
use mathlib.Core.Bool.{true, true≢false}
use mathlib.Core.List.{List, [], ◌∷◌, ◌++◌}
use Prim.Native.Nat.{ℕ}
use lib.ListN.{take}
use Rattle.answers.specs.Told.{told, intake}
use Rattle.answers.specs.declared.Verdict.TheVariants as verdict
use Rattle.years.specs.Years.{under}
use Rattle.years.specs.declared.Year.{Year}
use Rattle.layout.specs.Grid.{header_bytes}
use Rattle.headers.specs.Judged.{facts_in}
use Rattle.intake.specs.Intake.{taken}
use Rattle.steps.specs.Steps.{after, Fed, first_piece, later_pieces}
use Rattle.steps.specs.Turns.{is_final}
use Rattle.steps.specs.declared.Phase.{Phase}
use Rattle.steps.specs.declared.Phase.TheVariants.{Headers, Over}
use Rattle.steps.proofs.Kept.{over_kept}
use Rattle.steps.proofs.StepsWhole.{steps_whole}

-- a final answer is kept, and given again for any further pieces
final_kept : (phase : Phase) (piece : List ℕ) (w : Result Verdict Refusal) → is_final w ≡ true → after phase piece w ≡ Over w
final_kept phase piece (Ok verdict.More) e = absurd (true≢false (sym e))
final_kept phase piece (Ok (verdict.Accepted level columns posts)) e = refl
final_kept phase piece (Err r) e = refl

over_fed : (w : Result Verdict Refusal) (piece : List ℕ) (pieces : List (List ℕ)) → Fed (Over w) piece pieces w
over_fed w piece [] = refl
over_fed w piece (p ∷ ps) = (w, (refl, subst (λ (phase : Phase). Fed phase p ps w) (sym (over_kept w)) (over_fed w p ps)))

fed_on : (phase : Phase) (piece : List ℕ) (pieces rest : List (List ℕ)) (w : Result Verdict Refusal) → is_final w ≡ true
    → Fed phase piece pieces w → Fed phase piece (pieces ++ rest) w
fed_on phase piece [] [] w e f = f
fed_on phase piece [] (q ∷ qs) w e f = (w, (f, subst (λ (later : Phase). Fed later q qs w) (sym (final_kept phase piece w e)) (over_fed w q qs)))
fed_on phase piece (p ∷ ps) rest w e f = (f.0, (f.1.0, fed_on (after phase piece f.0) p ps rest w e f.1.1))

-- the pieces that were fed, and those that were not, are the file's columns and what follows them
pub stopped_whole : (n : ℕ) (s : List ℕ) (pieces rest : List (List ℕ)) (w : Result Verdict Refusal) → is_final w ≡ true
    → pieces ++ rest ≡ first_piece s (facts_in s).grid 0 (facts_in s).grid.columns ∷ later_pieces s (facts_in s).grid 0 (facts_in s).grid.columns
    → Fed (Headers n) (take header_bytes s) pieces w → told intake w ≡ under n (λ (year : Year). taken year s)
stopped_whole n s pieces rest w e all f =
    steps_whole n s w (subst (λ (ps : List (List ℕ)). Fed (Headers n) (take header_bytes s) ps w) all (fed_on (Headers n) (take header_bytes s) pieces rest w e f))
