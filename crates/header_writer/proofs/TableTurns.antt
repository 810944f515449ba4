-- The writer's loops over the field table and the areas of zeros, one turn at a time.
use Prim.Native.Nat.{ℕ, ◌+◌, ◌-◌, ◌<◌, ◌≤◌}
use native.Mathlib.Numerals.{add-one}
use native.Mathlib.Omega.{arith}
use mathlib.Core.Path.{◌≡◌, sym, ap, ◌∙◌}
use mathlib.Core.List.{List}
use lib.ListN.{length, get_or, drop, replicate, drop_of_length-le}
use lib.Seq.{drop-cons}
use borrow.Rule.Slice.PartMut.{put_mid}
use Rattle.octets.specs.Pastes.{pasted}
use Rattle.octets.proofs.PasteLaws.{length_paste, part_back}
use Rattle.layout.specs.declared.Grid.{Grid}
use Rattle.due.specs.Asked.{OriginInRange}
use Rattle.due.specs.declared.Basis.{Basis}
use Rattle.description.specs.Facts.{basis_of}
use Rattle.fields.specs.Table.{fields, field_at}
use Rattle.header_writer.specs.Written.{text_for, with_fields, with_areas}
use Rattle.description.specs.declared.Description.{Description}
use Rattle.fields.specs.Free.{areas}
use Rattle.fields.specs.declared.free.Area.{Area}
use Rattle.fields.specs.declared.Field.{Field}
use Rattle.header_writer.proofs.TextWidths.{length_text}
use Rattle.headers.proofs.TableRows.{Row, row}

-- the basis that the writer makes of a description and its grid
pub basis_is : (d : Description) (g : Grid) → g ≡ (basis_of d).grid
    → ◌≡◌ {A = Basis} (record { grid = g; latitude = d.latitude; longitude = d.longitude; letter = d.security }) (basis_of d)
unfolding basis_of
basis_is d g e = λ k. record { grid = e k; latitude = d.latitude; longitude = d.longitude; letter = d.security }

pub origin_of : (d : Description) → OriginInRange d.latitude d.longitude → OriginInRange (basis_of d).latitude (basis_of d).longitude
unfolding basis_of
origin_of d r = r

abbrev pub area_at : ℕ → Area
area_at i = get_or areas i (record { 0 = 0; 1 = 0 })

module _ (s : List ℕ) (d : Description) (i : ℕ) where
  pub fields_on : i < 40 → with_fields s d (drop i fields) ≡ with_fields (pasted s (field_at i).0 (text_for (field_at i).2 d)) d (drop (i + 1) fields)
  unfolding with_fields
  fields_on h = rw (drop-cons fields i (field_at 40), add-one i)

  -- a field's text put over the part that was lent for it
  pub fields_turn : (f : Field) (ys : List ℕ) → i < 40 → f ≡ field_at i → length s ≡ 3428 → ys ≡ text_for f.2 d
      → (length (put_mid f.0 (f.0 + f.1 - f.0) s ys) ≡ 3428)
      × (with_fields (put_mid f.0 (f.0 + f.1 - f.0) s ys) d (drop (i + 1) fields) ≡ with_fields s d (drop i fields))
  fields_turn f ys h e n t =
      let r : Row f = rw e (row i h) in
      let w = ap length t ∙ length_text f.2 d in
      let back = part_back s f.0 (f.0 + f.1 - f.0) ys (omega (arith, r.wide)) in
      let on : with_fields (pasted s f.0 (text_for f.2 d)) d (drop (i + 1) fields) ≡ with_fields s d (drop i fields) = rw e (sym (fields_on h)) in (
        ap length back ∙ (length_paste s f.0 ys (omega (arith, r.within, r.wide)) ∙ n),
        ap (λ (l : List ℕ). with_fields l d (drop (i + 1) fields)) (back ∙ ap (pasted s f.0) t) ∙ on,
      )

  pub fields_done : 40 ≤ i → with_fields s d (drop i fields) ≡ s
  unfolding with_fields
  fields_done h = rw (drop_of_length-le fields h)

module _ (s : List ℕ) (i : ℕ) where
  pub areas_on : i < 4 → with_areas s (drop i areas) ≡ with_areas (pasted s (area_at i).0 (replicate (area_at i).1 48)) (drop (i + 1) areas)
  unfolding with_areas
  areas_on h = rw (drop-cons areas i (area_at 4), add-one i)

  pub areas_done : 4 ≤ i → with_areas s (drop i areas) ≡ s
  unfolding with_areas
  areas_done h = rw (drop_of_length-le areas h)
