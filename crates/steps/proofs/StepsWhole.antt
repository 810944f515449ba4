-- S6: fed with a file cut at its column edges, steps end with what intake says of the whole.
use Rattle.std.specs.Prelude.{Result, Ok, Err}
use Rattle.headers.specs.declared.Facts.{Facts}
use Rattle.answers.specs.declared.Refusal.{Refusal}
use Rattle.answers.specs.declared.Verdict.{Verdict}
use Prim.Native.Nat.{ℕ}
use native.Mathlib.Omega.{arith}
use mathlib.Core.Path.{◌≡◌, refl, sym, ap, subst, ◌∙◌}
use mathlib.Core.List.{List, ◌∷◌}
use lib.ListN.{length, take}
use lib.Seq.{take_all, take-take, length-take-le}
use Rattle.octets.proofs.ChoiceLaws.{by_order}
use Rattle.answers.specs.Told.{Told, told, intake, refused, numbered}
use Rattle.answers.specs.declared.Verdict.TheVariants as verdict
use Rattle.answers.proofs.Injective.{told_injective}
use Rattle.years.specs.Years.{Names, NamesNone, under}
use Rattle.years.specs.declared.Year.{Year}
use Rattle.years.proofs.YearLaws.{by_year, named_is, none_is}
use Rattle.layout.specs.Grid.{header_bytes, grid_of, laid}
use Rattle.layout.specs.declared.Grid.{Grid}
use Rattle.layout.proofs.Ranges.{laid_in}
use Rattle.headers.specs.Basis.{level_at}
use Rattle.layout.specs.Zones.{edge_of}
use Rattle.headers.specs.Judged.{judged, facts_in, frame_in, Follows}
use Rattle.headers.proofs.Exactly.{good_follows, follows_good}
use Rattle.headers.proofs.FirstFour.{good_facts, level_below}
use Rattle.layout.proofs.NearEdges.{edge_below}
use Rattle.headers.proofs.SameHeaders.{same_headers}
use Rattle.intake.specs.Intake.{taken_by, taken}
use Rattle.intake.proofs.CellExactly.{taken_framed}
use Rattle.intake.proofs.NeverMore.{refused_not_more, numbered_not_more}
use Rattle.steps.specs.Steps.{said_of_headers, due_after, after, Fed, first_piece, later_pieces}
use Rattle.steps.specs.declared.Phase.{Phase}
use Rattle.steps.specs.declared.Phase.TheVariants.{Headers}
use Rattle.steps.proofs.Kept.{said_first, due_first, said_none}
use Rattle.steps.proofs.StepByStep.{settled, columns_fed}

-- the first piece of a file is judged as the file is
first_same : (s : List ℕ) → judged (take header_bytes s) ≡ judged s
first_same s =
    by_order header_bytes (length s)
    (λ h. same_headers (take header_bytes s) s (omega (arith, length-take-le header_bytes s h)) h (take-take header_bytes header_bytes s (omega arith)))
    (λ h. ap judged (take_all header_bytes s (omega arith)))

-- the grid of good headers is laid out
good_laid : (s : List ℕ) → Follows s → laid (facts_in s).grid.level (edge_of (facts_in s).latitude) ≡ Ok (facts_in s).grid
unfolding grid_of
good_laid s h =
    let good = good_facts s (facts_in s) (follows_good s h) in
    let edge = edge_of (facts_in s).latitude in
    ap (λ (g : Grid). laid g.level edge) good.laid
    ∙ laid_in (level_at s) edge (level_below s) (edge_below (facts_in s).latitude good.latitude)
    ∙ ap Ok (sym good.laid)

-- the pieces of a file under this grid, and the year that was named
abbrev pub Cut : ℕ → List ℕ → Grid → Result Verdict Refusal → Type 0
Cut n s g w = Fed (Headers n) (take header_bytes s) (first_piece s g 0 g.columns ∷ later_pieces s g 0 g.columns) w

by_judged : (n : ℕ) (year : Year) → Names n year → (s : List ℕ) (x : Result Facts Refusal) (w : Result Verdict Refusal) → judged s ≡ x → Cut n s (facts_in s).grid w
    → told intake w ≡ taken year s
unfolding taken
by_judged n year named s (Err r) w e fed =
    let g = (facts_in s).grid in
    settled fed.0 (numbered r) (Headers n) (take header_bytes s) (first_piece s g 0 g.columns) (later_pieces s g 0 g.columns) w
    (fed.1.0 ∙ said_first n year named (take header_bytes s) ∙ ap said_of_headers (first_same s ∙ e)) (numbered_not_more r) fed.1.1
    ∙ sym (ap (taken_by year s) e)
by_judged n year named s (Ok d) w e fed =
    let f = frame_in year s in
    let h = (good_follows s d e).0 in
    let good = first_same s ∙ follows_good s h in
    let is_more = told_injective intake fed.0 (Ok verdict.More) (fed.1.0 ∙ said_first n year named (take header_bytes s) ∙ ap said_of_headers good) in
    let state : after (Headers n) (take header_bytes s) fed.0 ≡ due_after year (Ok (facts_in s)) =
    ap (after (Headers n) (take header_bytes s)) is_more ∙ due_first n year named (take header_bytes s) ∙ ap (due_after year) good
    in
    columns_fed s f f.grid.level (edge_of (facts_in s).latitude) (good_laid s h) f.grid.columns 0 w (omega arith) (omega (arith, h.0))
    (subst (λ (p : Phase). Fed p (first_piece s f.grid 0 f.grid.columns) (later_pieces s f.grid 0 f.grid.columns) w) state fed.1.1)
    ∙ sym (taken_framed year s h)

-- an unknown year is the answer of the first step, and so of every later one
by_none : (n : ℕ) → NamesNone n → (s : List ℕ) (g : Grid) (w : Result Verdict Refusal) → Cut n s g w → told intake w ≡ refused 17 n
by_none n none s g w fed =
    settled fed.0 (refused 17 n) (Headers n) (take header_bytes s) (first_piece s g 0 g.columns) (later_pieces s g 0 g.columns) w
    (fed.1.0 ∙ said_none n none (take header_bytes s)) (refused_not_more 17 n) fed.1.1

pub steps_whole : (n : ℕ) (s : List ℕ) (w : Result Verdict Refusal) → Cut n s (facts_in s).grid w → told intake w ≡ under n (λ (year : Year). taken year s)
steps_whole n s w fed =
    let tells : Year → Told = λ year. taken year s in
    by_year n
    (λ none. by_none n none s (facts_in s).grid w fed ∙ sym (none_is n none (refused 17 n) tells))
    (λ year named. by_judged n year named s (judged s) w refl fed ∙ sym (named_is n year named (refused 17 n) tells))
