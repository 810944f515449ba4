-- Where a broken field is refused (rule H44): the place lies in the field, and is told right for one string that would pass and for several.
use Prim.Native.Nat.{ℕ, ◌+◌, ◌<◌}
use native.Mathlib.Omega.{arith}
use mathlib.Core.Path.{◌≡◌, ◌∙◌}
use mathlib.Core.List.{List}
use lib.ListN.{length}
use Rattle.octets.proofs.ChoiceLaws.{by_order}
use Rattle.answers.specs.Told.{numbered, place_told}
use Rattle.fields.specs.Table.{bytes_in, field_at}
use Rattle.due.specs.Due.{nothing}
use Rattle.faults.specs.Place.{wrong_at}
use Rattle.faults.proofs.FaultTold.{fault_tells}
use Rattle.faults.proofs.Passing.{Placed, placed, placed_alike}
use Rattle.headers.specs.Basis.{basis_in}
use Rattle.headers.specs.Judged.{broken}
use Rattle.headers.proofs.Exactly.{First}
use Rattle.headers.proofs.FirstFour.{rule_alike, wrong_alike, nothing_ranged, fixed, basis_within}
use Rattle.headers.proofs.TableRows.{row, bytes_long}

-- a place in row i: as many bytes into its field as `Placed` says
pub record PlaceIn (s : List ℕ) (i place : ℕ) : Type 0 where
  pub into : ℕ
  pub is : place ≡ (field_at i).0 + into
  pub inside : into < (field_at i).1
  pub placed : Placed (field_at i).2 (basis_in s) (bytes_in s (field_at i)) into

module _ (s : List ℕ) (i : ℕ) (f : First s i) where
  abbrev field : List ℕ
  field = bytes_in s (field_at i)

  wide : length field ≡ (field_at i).1
  wide = bytes_long s (field_at i) (omega (arith, (row i f.below).within, f.long))

  -- what is due is in range once the first four rows are kept, and none of them needs it
  row_placed : Placed (field_at i).2 (basis_in s) field (wrong_at (field_at i).2 (basis_in s) field)
  row_placed =
      let k = (field_at i).2 in
      let w = wide ∙ (row i f.below).wide in
      by_order 4 i
      (λ h. placed k (basis_in s) field (basis_within s (fixed s (basis_in s) (λ j l. f.kept j (omega arith)))) w f.breaks)
      (λ h.
      rw (wrong_alike (basis_in s) nothing i h field)
      (placed_alike k nothing (basis_in s) field (wrong_at k nothing field) (rule_alike nothing (basis_in s) i h)
      (placed k nothing field nothing_ranged w (rule_alike nothing (basis_in s) i h field ∙ f.breaks))))

  pub place_told_lem : PlaceIn s i (place_told (numbered (broken s (basis_in s) (field_at i))))
  place_told_lem =
      let p = row_placed in
      let w = wide in
      record { into = wrong_at (field_at i).2 (basis_in s) field; is = (fault_tells (field_at i).2 (basis_in s) (field_at i).0 field).at; inside = omega (arith, p.inside); placed = p }
