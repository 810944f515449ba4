-- Every step answered "more" leaves fewer turns, and a new state has at most one for each column, one before and one after them.
use Rattle.std.specs.Prelude.{Result, Ok, Err}
use Rattle.headers.specs.declared.Facts.{Facts}
use Rattle.layout.specs.declared.NoGrid.TheVariants as none
use Rattle.layout.specs.declared.NoGrid.{NoGrid}
use Rattle.layout.specs.declared.Grid.{Grid}
use Rattle.answers.specs.declared.Refusal.{Refusal}
use Rattle.answers.specs.declared.Verdict.{Verdict}
use Prim.Native.Nat.{ℕ, ◌+◌, ◌≤◌, ◌<◌}
use native.Mathlib.Omega.{arith}
use mathlib.Core.Path.{◌≡◌, refl, sym, ap, ◌∙◌}
use mathlib.Core.Bool.{Bool, true, false, true≢false}
use mathlib.Core.List.{List}
use lib.Dec.{lit<}
use lib.ListN.{length}
use Rattle.answers.specs.Told.{Told, told, intake, refused, more}
use Rattle.answers.specs.declared.Verdict.TheVariants as verdict
use Rattle.years.specs.Years.{named_of, by_named}
use Rattle.years.specs.declared.Year.{Year}
use Rattle.layout.specs.Levels.{latitude_interval}
use Rattle.layout.specs.Zones.{factor_among, factor_of}
use Rattle.layout.specs.Grid.{laid, longitude_interval, columns_of}
use Rattle.headers.specs.Judged.{judged}
use Rattle.intake.proofs.NeverMore.{refused_not_more, accepted_not_more, numbered_not_more}
use Rattle.steps.specs.Steps.{said_of, said_of_headers, said_of_laid, wanted, due_after, advanced, after, Step}
use Rattle.steps.specs.Turns.{is_final, Going, new, on, turns_of, most_columns, turns_left}
use Rattle.steps.specs.declared.Phase.{Phase}
use Rattle.steps.specs.declared.Phase.TheVariants.{Headers, Columns, Over}
use Rattle.steps.proofs.Pieces.{laid_ranged}
use Rattle.steps.proofs.Kept.{below_columns}

-- S5: an answer is final exactly where it tells something else than "more"
pub final_not_more : (v : Result Verdict Refusal) → is_final v ≡ true → told intake v ≡ more → ⊥
final_not_more (Ok verdict.More) f e = true≢false (sym f)
final_not_more (Ok (verdict.Accepted level columns posts)) f e = accepted_not_more level columns posts e
final_not_more (Err r) f e = numbered_not_more r e

pub more_not_final : (v : Result Verdict Refusal) → is_final v ≡ false → v ≡ (Ok verdict.More)
more_not_final (Ok verdict.More) f = refl
more_not_final (Ok (verdict.Accepted level columns posts)) f = absurd (true≢false f)
more_not_final (Err r) f = absurd (true≢false f)

-- the most columns, counted
pub most_counted : most_columns ≡ 3601
unfolding columns_of longitude_interval latitude_interval factor_of factor_among
most_counted = refl

pub new_turns : (n : ℕ) → turns_left (Headers n) ≡ 1 + 3601 + 1
new_turns n = rw most_counted

-- a state in which columns are due
laid_turns : (n level edge k : ℕ) (x : Result Grid NoGrid) → laid level edge ≡ x → turns_of x k < turns_left (Headers n)
laid_turns n level edge k (Ok g) l = rw (new_turns n) (omega (arith, (laid_ranged level edge g l).columns_high))
laid_turns n level edge k (Err none.Level) l = rw (new_turns n) (lit< tt)
laid_turns n level edge k (Err none.Zone) l = rw (new_turns n) (lit< tt)

laid_fall : (voids : Bool) (k : ℕ) (piece : List ℕ) (x : Result Grid NoGrid) → said_of_laid x voids k piece ≡ more → turns_of x (k + 1) < turns_of x k
laid_fall voids k piece (Ok g) e = let below = below_columns (record { grid = g; voids = voids }) k piece e in omega arith
laid_fall voids k piece (Err none.Level) e = absurd (refused_not_more 8 0 e)
laid_fall voids k piece (Err none.Zone) e = absurd (refused_not_more 8 0 e)

-- headers answered "more" are good, under a year that there is
abbrev said_under : ℕ → Result Year Refusal → Result Facts Refusal → Told
said_under n m x = by_named m (refused 17 n) (λ (year : Year). said_of_headers x)

abbrev due_under : ℕ → Result Year Refusal → Result Facts Refusal → Phase
due_under n m x = by_named m (Headers n) (λ (year : Year). due_after year x)

headers_fall : (n : ℕ) (m : Result Year Refusal) (x : Result Facts Refusal) → said_under n m x ≡ more → turns_left (due_under n m x) < turns_left (Headers n)
headers_fall n (Ok year) (Ok f) e = laid_turns n f.grid.level _ 0 (laid f.grid.level _) refl
headers_fall n (Ok year) (Err r) e = absurd (numbered_not_more r e)
headers_fall n (Err r) x e = absurd (refused_not_more 17 n e)

-- no state that "more" leads to is over
over_not_due : (n : ℕ) (m : Result Year Refusal) (x : Result Facts Refusal) (v : Result Verdict Refusal) → said_under n m x ≡ more → due_under n m x ≡ Over v → ⊥
over_not_due n (Ok year) (Ok f) v e p = let z : ◌≡◌ {A = ℕ} 0 1 = cc in omega arith
over_not_due n (Ok year) (Err r) v e p = numbered_not_more r e
over_not_due n (Err r) x v e p = refused_not_more 17 n e

never_over : {n : ℕ} (phase : Phase) (v : Result Verdict Refusal) → Going n phase → phase ≡ Over v → ⊥
never_over _ v new p = let z : ◌≡◌ {A = ℕ} 0 1 = cc in omega arith
never_over _ v (on (Headers m) piece g w e) p = over_not_due m (named_of m) (judged piece) v e p
never_over _ v (on (Columns d) piece g w e) p = let z : ◌≡◌ {A = ℕ} 0 1 = cc in omega arith
never_over _ v (on (Over u) piece g w e) p = never_over (Over u) u g refl

pub turns_fall : {n : ℕ} (phase : Phase) (piece : List ℕ) → Going n phase → said_of phase piece ≡ more → turns_left (advanced phase piece) < turns_left phase
turns_fall (Headers m) piece g e = headers_fall m (named_of m) (judged piece) e
turns_fall (Columns d) piece g e = laid_fall d.voids d.next piece (laid d.level d.edge) e
turns_fall (Over v) piece g e = absurd (never_over (Over v) v g refl)

-- a step that keeps its promise, and a test that says that its answer is not final
module _ {n : ℕ} {phase : Phase} {piece : List ℕ} {v : Result Verdict Refusal} {later : Phase} {test : Bool}
    (s : Step phase piece v later) (g : Going n phase) (e : test ≡ is_final v) (f : test ≡ false) where
  is_more : v ≡ (Ok verdict.More)
  is_more = more_not_final v (sym e ∙ f)

  said_more : said_of phase piece ≡ more
  said_more = sym s.said ∙ ap (told intake) is_more

  to_next : later ≡ advanced phase piece
  to_next = s.state ∙ ap (after phase piece) is_more

  pub step_going : length piece ≤ wanted phase → Going n later
  step_going w = rw to_next (on phase piece g w said_more)

  pub step_less : turns_left later < turns_left phase
  step_less = rw to_next (turns_fall phase piece g said_more)
