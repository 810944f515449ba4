-- What headers say hangs on the bytes of their fields alone, and so on their 3,428 bytes alone.
use Rattle.std.specs.Prelude.{Result, Ok, Err}
use Rattle.answers.specs.declared.Refusal.{Refusal}
use Rattle.headers.specs.declared.Facts.{Facts}
use Prim.Native.Nat.{ℕ, ◌≤◌}
use mathlib.Core.Path.{◌≡◌, refl, ap, ◌∙◌}
use mathlib.Core.List.{List}
use lib.Dec.{lit<}
use lib.ListN.{length, take, drop}
use Rattle.octets.specs.Texts.{ascii}
use Rattle.octets.proofs.PartLaws.{byte_alike, decimal_alike, digits_alike, text_alike}
use Rattle.fields.specs.Table.{item_row, place_of}
use Rattle.fields.specs.declared.Item.TheVariants.{Edition, Version, Datum, Accuracy, Partial}
use Rattle.fields.specs.declared.Whose.TheVariants.{Uhl, AbsoluteHorizontal, AbsoluteVertical, RelativeHorizontal, RelativeVertical}
use Rattle.headers.specs.Basis.{basis_in}
use Rattle.headers.specs.Judged.{judged}
use Rattle.headers.proofs.FreeBytes.{SameFields, items_same, level_alike, basis_alike, free_bytes_lem}
use Rattle.headers.proofs.SameHeaders.{same_fields}
use Rattle.description.specs.Described.{accuracy_at, datum_at, items_in, described_by, described}

module _ (s t : List ℕ) where
  accuracy_alike : (at : ℕ) → take 4 (drop at s) ≡ take 4 (drop at t) → accuracy_at s at ≡ accuracy_at t at
  unfolding accuracy_at
  accuracy_alike at e = rw (digits_alike s t at 4 e, decimal_alike s t at 4 e)

  datum_alike : (at : ℕ) → take 3 (drop at s) ≡ take 3 (drop at t) → datum_at s at ≡ datum_at t at
  unfolding datum_at
  datum_alike at e = rw (text_alike s t at (ascii "MSL") e)

  items_alike : SameFields s t → items_in s ≡ items_in t
  unfolding items_in basis_in
  items_alike same =
      let basis = basis_alike s t (items_same s t same) in
      λ k. record {
        level = level_alike s t (items_same s t same) k;
        latitude = (basis k).latitude;
        longitude = (basis k).longitude;
        security = (basis k).letter;
        edition = decimal_alike s t (place_of Edition) 2 (same (item_row Edition) (lit< tt)) k;
        version = byte_alike s t (place_of Version) 1 (same (item_row Version) (lit< tt)) 0 (lit< tt) k;
        datum = datum_alike (place_of Datum) (same (item_row Datum) (lit< tt)) k;
        uhl = accuracy_alike (place_of (Accuracy Uhl)) (same (item_row (Accuracy Uhl)) (lit< tt)) k;
        absolute = record {
          horizontal = accuracy_alike (place_of (Accuracy AbsoluteHorizontal)) (same (item_row (Accuracy AbsoluteHorizontal)) (lit< tt)) k;
          vertical = accuracy_alike (place_of (Accuracy AbsoluteVertical)) (same (item_row (Accuracy AbsoluteVertical)) (lit< tt)) k;
        };
        relative = record {
          horizontal = accuracy_alike (place_of (Accuracy RelativeHorizontal)) (same (item_row (Accuracy RelativeHorizontal)) (lit< tt)) k;
          vertical = accuracy_alike (place_of (Accuracy RelativeVertical)) (same (item_row (Accuracy RelativeVertical)) (lit< tt)) k;
        };
        partial = decimal_alike s t (place_of Partial) 2 (same (item_row Partial) (lit< tt)) k;
      }

  pub same_items : 3428 ≤ length s → 3428 ≤ length t → take 3428 s ≡ take 3428 t → items_in s ≡ items_in t
  same_items ls lt e = items_alike (same_fields s t ls lt e)

  judged_alike : SameFields s t → (j : Result Facts Refusal) → described_by s j ≡ described_by t j
  judged_alike same (Ok facts) = ap Ok (items_alike same)
  judged_alike same (Err r) = refl

  -- H41 for the description: bytes that no field has do not count
  pub free_described : 3428 ≤ length s → 3428 ≤ length t → SameFields s t → described s ≡ described t
  unfolding described
  free_described ls lt same = ap (described_by s) (free_bytes_lem s t ls lt same) ∙ judged_alike same (judged t)
