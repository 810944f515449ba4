-- `judge`: the first four rows, then what they make due, then the rest.
use Rattle.std.specs.Prelude.{Some, Ok, Err}
use Rattle.headers.proofs.FirstFour.{nothing_ranged, Fixed, basis_within}
use Rattle.headers.proofs.TwoParts.{early_below, early_refused, early_fixed, late_refused, all_kept}
use Rattle.headers.specs.Basis.{basis_in}
use Rattle.headers.specs.Judged.{facts_in}
use Rattle.due.specs.Due.{nothing}
use Rattle.due.specs.declared.Basis.{Basis}
use Rattle.rules.specs.Asked.{BasisInRange}
use Rattle.headers.specs.Asked.{RowsToJudge}
use Rattle.std.proofs.Common.{arith}
use Rattle.headers.proofs.Exactly.{judged_short}
use mathlib.Core.Bool.{true}
use mathlib.Core.Path.{◌≡◌, refl, sym, ap, ◌∙◌}
use Rattle.headers.proofs.KeptRows.{kept_in, one_broken}
use Rattle.headers.proofs.BrokenRows.{first_in, row_found}
use Rattle.headers.proofs.judge.judge.Goals as goal
use Rattle.headers.proofs.judge.judge.Goals.{Else-not-four_keep, After-unwrap_or-row, After-basis_in-basis, After-rest_keep, After-unwrap_or-row-then-not-rest_keep}

-- the first four rows keep their rules, and fix what is due, which is in range
four-kept : (c : Else-not-four_keep) → kept_in c.args.s.now nothing 0 4 ≡ true
four-kept c = sym c.four_keep.ensures ∙ c.if-not-four_keep.false

fixed-here : (c : Else-not-four_keep) → Fixed c.args.s.now
fixed-here c = early_fixed _ c.if-s-lt-HEADER_BYTES.false nothing (four-kept c)

-- or one of them does not, and the search finds it
four-broken : (c : After-unwrap_or-row) → first_in c.args.s.now nothing 0 4 ≡ Some c.unwrap_or-row.result
four-broken c = one_broken _ nothing 4 0 4 (sym c.four_keep.ensures ∙ c.if-not-four_keep.true) _ c.first_broken.ensures _ c.unwrap_or-row.ensures

basis-ranged : (c : After-basis_in-basis) → Fixed c.args.s.now → BasisInRange c.basis_in-basis.result
basis-ranged c f = rw c.basis_in-basis.ensures (basis_within _ f)

-- so the rest may be asked about, together and one by one
rest-asked : (c : After-basis_in-basis) → Fixed c.args.s.now → RowsToJudge c.args.s.now c.basis_in-basis.result 4 40
rest-asked c f = record { ordered = omega arith; rows = omega arith; whole = c.if-s-lt-HEADER_BYTES.false; basis = basis-ranged c f }

-- the rest are judged by what those make due
rest-found : (c : After-rest_keep) → let s = c.args.s.now in
    c.rest_keep.result ≡ kept_in s (basis_in s) 4 36
rest-found c = c.rest_keep.ensures ∙ ap (λ (b : Basis). kept_in c.args.s.now b 4 36) c.basis_in-basis.ensures

rest-broken : (c : After-unwrap_or-row-then-not-rest_keep) → let s = c.args.s.now in
    first_in s (basis_in s) 4 36 ≡ Some c.unwrap_or-row-then-not-rest_keep.result
rest-broken c =
    ap (λ (b : Basis). first_in c.args.s.now b 4 36) (sym c.basis_in-basis.ensures)
    ∙ one_broken _ c.basis_in-basis.result 36 4 40 (sym c.rest_keep.ensures ∙ c.if-not-rest_keep.true) _ c.first_broken-then-not-rest_keep.ensures _ c.unwrap_or-row-then-not-rest_keep.ensures

pub returns-then-s-lt-HEADER_BYTES : goal.returns-then-s-lt-HEADER_BYTES
returns-then-s-lt-HEADER_BYTES c = sym (judged_short _ c.if-s-lt-HEADER_BYTES.true)

pub broken-requires : goal.broken-requires
broken-requires c = record { below = omega (arith, early_below c.args.s.now c.if-s-lt-HEADER_BYTES.false nothing _ (four-broken c)); whole = omega arith; basis = nothing_ranged }

pub returns-then-not-four_keep : goal.returns-then-not-four_keep
returns-then-not-four_keep c =
    let at = goal.at.returns-then-not-four_keep c in
    ap Err c.broken.ensures ∙ sym (early_refused _ c.if-s-lt-HEADER_BYTES.false nothing _ (four-broken at.After-unwrap_or-row))

pub basis_in-basis-requires : goal.basis_in-basis-requires
basis_in-basis-requires c = record { whole = c.if-s-lt-HEADER_BYTES.false; latitude = (fixed-here (goal.at.basis_in-basis-requires c).Else-not-four_keep).latitude }

pub rest_keep-requires : goal.rest_keep-requires
rest_keep-requires c = let at = goal.at.rest_keep-requires c in rest-asked at.After-basis_in-basis (fixed-here at.Else-not-four_keep)

pub first_broken-requires-then-not-rest_keep : goal.first_broken-requires-then-not-rest_keep
first_broken-requires-then-not-rest_keep c =
    let at = goal.at.first_broken-requires-then-not-rest_keep c in rest-asked at.After-basis_in-basis (fixed-here at.Else-not-four_keep)

pub broken-requires-then-not-rest_keep : goal.broken-requires-then-not-rest_keep
broken-requires-then-not-rest_keep c =
    let s = c.args.s.now in
    let at = goal.at.broken-requires-then-not-rest_keep c in
    record {
      below = (row_found s (basis_in s) 40 36 4 refl _ (rest-broken c)).high;
      whole = omega arith;
      basis = basis-ranged at.After-basis_in-basis (fixed-here at.Else-not-four_keep);
    }

pub returns-then-not-rest_keep : goal.returns-then-not-rest_keep
returns-then-not-rest_keep c =
    let at = goal.at.returns-then-not-rest_keep c in
    ap Err (c.broken-then-not-rest_keep.ensures ∙ rw c.basis_in-basis.ensures)
    ∙ sym (late_refused _ c.if-s-lt-HEADER_BYTES.false nothing (four-kept at.Else-not-four_keep) _ (rest-broken at.After-unwrap_or-row-then-not-rest_keep))

pub returns : goal.returns
unfolding facts_in
returns c =
    let at = goal.at.returns c in
    ap Ok (λ k. record {
      grid = (c.basis_in-basis.ensures k).grid;
      latitude = (c.basis_in-basis.ensures k).latitude;
      longitude = (c.basis_in-basis.ensures k).longitude;
      partial = c.decimal.ensures.0 k;
    })
    ∙ sym (all_kept _ c.if-s-lt-HEADER_BYTES.false nothing (four-kept at.Else-not-four_keep) (sym (rest-found at.After-rest_keep) ∙ c.if-not-rest_keep.false))
