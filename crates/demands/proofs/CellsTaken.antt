-- D2 over intake's own promise, and over the exported call's: it refuses nothing exactly where the bytes are a cell under the year named, and a cell with one byte
-- of a column replaced by another value is refused at a place inside that column.
use Prim.Native.Nat.{ℕ, ◌<◌, ◌≤◌}
use native.Mathlib.Omega.{arith}
use mathlib.Core.Path.{◌≡◌, sym, ap, subst, ◌∙◌}
use mathlib.Core.List.{List}
use lib.ListN.{get_or, set}
use contract.Lifetimes as L
use borrow.Fn.Kinds as K
use Rattle.answers.specs.Told.{Told, refused, accepted, number_told, place_told, told}
use Rattle.answers.specs.Told as telling
use Rattle.answers.proofs.Injective.{number_ranged}
use Rattle.years.specs.declared.Year.{Year}
use Rattle.years.specs.Years.{Names, under}
use Rattle.years.proofs.YearLaws.{by_year, under_named, under_none, names_one}
use Rattle.host_answers.specs.Packed.{packed}
use Rattle.host_answers.specs.Apart.{number_in, place_in, told_in, Fits}
use Rattle.host_answers.specs.Apart as fits
use Rattle.host_answers.proofs.TakenApart.{number_told_lem, place_told_lem}
use Rattle.headers.specs.Judged.{facts_in}
use Rattle.cells.specs.Cell.{start_of, Cell}
use Rattle.intake.specs.Intake.{taken}
use Rattle.intake.proofs.CellExactly.{cell_accepted}
use Rattle.intake.proofs.IntakeExactly.{end_of, IntakeRow, bad_headers, cut, column, surplus, fine, row}
use Rattle.intake.proofs.OneByte.{one_byte_refused}
use Rattle.intake.proofs.intake.Reads as intake
use Rattle.intake.proofs.intake.Kinds as intake-kinds
use Rattle.dted.proofs.cell_calls.dted_intake.Reads as host-intake
use Rattle.dted.proofs.cell_calls.dted_intake.Kinds as host-intake-kinds
use Rattle.demands.proofs.PlacesFit.{intake_fits}
use Rattle.demands.proofs.HostTold.{intake_told_in}
use Rattle.demands.proofs.NamedYears.{intake_named, host_intake_named}

-- the bytes are a cell under the year that a number names
pub record Under (n : ℕ) (l : List ℕ) : Type 0 where
  pub year : Year
  pub names : Names n year
  pub cell : Cell year l

-- the number that was answered is 0 exactly where they are
pub record Exactly (n : ℕ) (l : List ℕ) (number : ℕ) : Type 0 where
  pub only : number ≡ 0 → Under n l
  pub all : (year : Year) → Names n year → Cell year l → number ≡ 0

under_this : (n : ℕ) (l : List ℕ) → Under n l → (year : Year) → Names n year → Cell year l
under_this n l it year names = subst (λ (y : Year). Cell y l) (names_one n it.year year it.names names) it.cell

by_row : (year : Year) (l : List ℕ) (t : Told) → IntakeRow year l t → number_told t ≡ 0 → Cell year l
by_row year l _ (bad_headers r e) z = absurd (omega (arith, z, (number_ranged r).0))
by_row year l _ (cut h k u f short) z = absurd (omega (arith, z))
by_row year l _ (column h k u f whole r e) z = absurd (omega (arith, z, (number_ranged r).0))
by_row year l _ (surplus h f past) z = absurd (omega (arith, z))
by_row year l _ (fine cell) z = cell

-- what intake tells under the year that n names
abbrev taken_under : ℕ → List ℕ → Told
taken_under n l = under n (λ (year : Year). taken year l)

taken_in : (n : ℕ) (l : List ℕ) (year : Year) → Names n year → taken_under n l ≡ taken year l
taken_in n l year names = under_named n (λ (y : Year). taken y l) year names

taken_exactly : (n : ℕ) (l : List ℕ) → Exactly n l (number_told (taken_under n l))
taken_exactly n l = record {
  only = λ z.
      by_year n
      (λ none. absurd (omega (arith, ap number_told (sym (under_none n (λ (y : Year). taken y l) none)) ∙ z)))
      (λ year names.
      record { year = year; names = names; cell = by_row year l (taken year l) (row year l) (ap number_told (sym (taken_in n l year names)) ∙ z) });
  all = λ year names cell. ap number_told (taken_in n l year names ∙ cell_accepted year l cell);
}

-- a refusal whose place lies in column k of a cell
pub record RefusedIn (l : List ℕ) (k number place : ℕ) : Type 0 where
  pub refused : 0 < number
  pub from : start_of (facts_in l).grid k ≤ place
  pub to : place < end_of l k

-- byte j of column k of a cell is replaced by another value
pub record OneByte (year : Year) (l : List ℕ) (k j v : ℕ) : Type 0 where
  pub cell : Cell year l
  pub column : k < (facts_in l).grid.columns
  pub from : start_of (facts_in l).grid k ≤ j
  pub to : j < end_of l k
  pub other : v ≡ get_or l j 0 → ⊥

-- a refusal that fits has a number
some : {number place : ℕ} → Fits (refused number place) → 0 < number
some (fits.refused number place h small near) = h

byte_told : (year : Year) (l : List ℕ) (k j v : ℕ) → OneByte year l k j v
    → RefusedIn l k (number_told (taken year (set l j v))) (place_told (taken year (set l j v)))
byte_told year l k j v b =
    let inside = one_byte_refused year l b.cell k j v b.column b.from b.to b.other in
    record { refused = some (subst Fits inside.0 (intake_fits year (set l j v))); from = inside.1.0; to = inside.1.1 }

-- intake
module _ (κs : L.Lfts 1) (a : K.Dens κs intake-kinds.ps) (r : _) (s : _) (kept : intake.Post κs a r s) where
  pub intake_exactly : Exactly a.0 a.1.0.now (number_told (told telling.intake r))
  intake_exactly = subst (λ (t : Told). Exactly a.0 a.1.0.now (number_told t)) (sym kept) (taken_exactly a.0 a.1.0.now)

  pub accepted_cell : (year : Year) → Names a.0 year → number_told (told telling.intake r) ≡ 0 → Cell year a.1.0.now
  accepted_cell year names zero = under_this a.0 a.1.0.now (intake_exactly.only zero) year names

  pub byte_refused : (year : Year) → Names a.0 year → (l : List ℕ) (k j v : ℕ) → OneByte year l k j v → a.1.0.now ≡ set l j v
      → RefusedIn l k (number_told (told telling.intake r)) (place_told (told telling.intake r))
  byte_refused year names l k j v b same =
      subst (λ (t : Told). RefusedIn l k (number_told t) (place_told t)) (sym (intake_named κs a r s kept year names ∙ ap (taken year) same)) (byte_told year l k j v b)

-- the number of a packed 17 is 17, whatever its place
seventeen : (n : ℕ) → number_in (packed (refused 17 n)) ≡ 17
unfolding packed
seventeen n = omega arith

-- the exported call: dted_number and dted_place of its answer
module _ (κs : L.Lfts 1) (a : K.Dens κs host-intake-kinds.ps) (r : _) (s : _) (kept : host-intake.Post κs a r s) where
  number_is : number_in r ≡ number_told (taken_under a.0 a.1.0.now)
  number_is =
      let l = a.1.0.now in
      let tells : Year → Told = λ year. taken year l in
      by_year a.0
      (λ none. let same = under_none a.0 tells none in ap number_in (kept ∙ ap packed same) ∙ seventeen a.0 ∙ sym (ap number_told same))
      (λ year names.
      let same = taken_in a.0 l year names in
      ap number_in (kept ∙ ap packed same) ∙ number_told_lem (taken year l) (intake_fits year l) ∙ sym (ap number_told same))

  pub host_intake_exactly : Exactly a.0 a.1.0.now (number_in r)
  host_intake_exactly = subst (Exactly a.0 a.1.0.now) (sym number_is) (taken_exactly a.0 a.1.0.now)

  pub host_accepted_cell : (year : Year) → Names a.0 year → number_in r ≡ 0 → Cell year a.1.0.now
  host_accepted_cell year names zero = under_this a.0 a.1.0.now (host_intake_exactly.only zero) year names

  -- of a cell, what the header takes out of the answer: its level, columns and posts
  pub host_cell_told : (year : Year) → Names a.0 year → Cell year a.1.0.now
      → told_in r ≡ accepted (facts_in a.1.0.now).grid.level (facts_in a.1.0.now).grid.columns (facts_in a.1.0.now).grid.posts
  host_cell_told year names cell =
      intake_told_in κs a r s kept year names ∙ cell_accepted year a.1.0.now cell

  pub host_byte_refused : (year : Year) → Names a.0 year → (l : List ℕ) (k j v : ℕ) → OneByte year l k j v → a.1.0.now ≡ set l j v
      → RefusedIn l k (number_in r) (place_in r)
  host_byte_refused year names l k j v b same =
      let it = byte_told year l k j v b in
      let t = taken year (set l j v) in
      let packed_so : r ≡ packed t = host_intake_named κs a r s kept year names ∙ ap (λ (x : List ℕ). packed (taken year x)) same in
      let number : number_in r ≡ number_told t = ap number_in packed_so ∙ number_told_lem t (intake_fits year (set l j v)) in
      let place : place_in r ≡ place_told t = ap place_in packed_so ∙ place_told_lem t (intake_fits year (set l j v)) it.refused in
      record { refused = rw number it.refused; from = rw place it.from; to = rw place it.to }
