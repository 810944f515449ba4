-- Bytes of the headers that no field has are free (rule H41): what is judged hangs on the bytes of the forty fields alone.
use Rattle.std.specs.Prelude.{Option, Some, None, Ok, Err}
use Prim.Native.Nat.{ℕ, ◌<◌, ◌≤◌}
use native.Mathlib.Omega.{arith}
use mathlib.Core.Path.{◌≡◌, refl, sym, ap, ◌∙◌}
use mathlib.Core.Bool.{Bool}
use mathlib.Core.List.{List}
use lib.Dec.{lit<}
use lib.ListN.{length, take, drop}
use Rattle.octets.specs.Choice.{pick}
use Rattle.octets.specs.Texts.{ascii}
use Rattle.octets.proofs.PartLaws.{byte_alike, decimal_alike, text_alike}
use Rattle.layout.specs.Grid.{grid_of}
use Rattle.angles.specs.Angles.{northward, eastward}
use Rattle.layout.specs.Zones.{edge_of}
use Rattle.headers.specs.Basis.{origin_at, level_at, basis_in}
use Rattle.rules.specs.Rules.{holds}
use Rattle.faults.specs.Fault.{fault}
use Rattle.fields.specs.Table.{bytes_in, field_at, item_row, place_of}
use Rattle.fields.specs.declared.Item.{Item}
use Rattle.fields.proofs.ItemRows.{item_below}
use Rattle.fields.specs.declared.Item.TheVariants.{Level, Latitude, Longitude, Security, Partial}
use Rattle.headers.specs.Judged.{keeps, broken, facts_in, judged}
use Rattle.angles.specs.declared.Axis.{Axis}
use Rattle.headers.proofs.BrokenRows.{turn, first_in, said, Found, found, found_same}
use Rattle.headers.proofs.Exactly.{judged_by_row}

-- each field holds the same bytes in both
abbrev pub SameFields : List ℕ → List ℕ → Type 0
SameFields s t = (i : ℕ) → i < 40 → bytes_in s (field_at i) ≡ bytes_in t (field_at i)

-- those of items alone
abbrev pub SameItems : List ℕ → List ℕ → Type 0
SameItems s t = (item : Item) → bytes_in s (field_at (item_row item)) ≡ bytes_in t (field_at (item_row item))

pub items_same : (s t : List ℕ) → SameFields s t → SameItems s t
items_same s t same item = same (item_row item) (item_below item)

-- what is due hangs on the fields of items alone
module _ (s t : List ℕ) (same : SameItems s t) where
  pub level_alike : level_at s ≡ level_at t
  unfolding level_at
  level_alike = rw (text_alike s t (place_of Level) (ascii "0300") (same Level), text_alike s t (place_of Level) (ascii "0030") (same Level))

  origin_alike : (a : Axis) (at : ℕ) → take 8 (drop at s) ≡ take 8 (drop at t) → origin_at a s at ≡ origin_at a t at
  unfolding origin_at
  origin_alike a at e = rw e

  pub basis_alike : basis_in s ≡ basis_in t
  unfolding basis_in
  basis_alike =
      let latitude = origin_alike northward (place_of Latitude) (same Latitude) in
      let longitude = origin_alike eastward (place_of Longitude) (same Longitude) in
      let letter = byte_alike s t (place_of Security) 3 (same Security) 0 (lit< tt) in
      λ k. record { grid = grid_of (level_alike k) (edge_of (latitude k)); latitude = latitude k; longitude = longitude k; letter = letter k }

  facts_alike : facts_in s ≡ facts_in t
  unfolding facts_in
  facts_alike = λ k. record {
    grid = (basis_alike k).grid;
    latitude = (basis_alike k).latitude;
    longitude = (basis_alike k).longitude;
    partial = decimal_alike s t (place_of Partial) 2 (same Partial) k;
  }

module _ (s t : List ℕ) (same : SameFields s t) where
  basis_same : basis_in s ≡ basis_in t
  basis_same = basis_alike s t (items_same s t same)

  -- each row keeps or breaks its rule alike, and is refused alike
  kept_alike : (i : ℕ) → i < 40 → keeps s (basis_in s) (field_at i) ≡ keeps t (basis_in t) (field_at i)
  kept_alike i h =
      let f = field_at i in
      λ k. holds f.2 (basis_same k) (same i h k)

  broken_same : (i : ℕ) → i < 40 → broken s (basis_in s) (field_at i) ≡ broken t (basis_in t) (field_at i)
  broken_same i h =
      let f = field_at i in
      λ k. fault f.2 (basis_same k) f.0 (same i h k)

  rows_alike : first_in s (basis_in s) 0 40 ≡ first_in t (basis_in t) 0 40
  rows_alike =
      found_same (turn s (basis_in s)) (turn t (basis_in t)) 40 0 (λ j r a b. ap (λ (x : Bool). pick x r (Some j)) (kept_alike j (omega arith)))

  -- what the search over the table says
  told_alike : (r : Option ℕ) → Found s (basis_in s) 0 40 r → said s (basis_in s) r (Ok (facts_in s)) ≡ said t (basis_in t) r (Ok (facts_in t))
  told_alike None k = ap Ok (facts_alike s t (items_same s t same))
  told_alike (Some row) b = ap Err (broken_same row b.high)

-- H41: headers whose fields hold the same bytes are judged alike: the whole answer hangs on the forty fields
pub free_bytes_lem : (s t : List ℕ) → 3428 ≤ length s → 3428 ≤ length t → SameFields s t → judged s ≡ judged t
free_bytes_lem s t ls lt same =
    let row = first_in s (basis_in s) 0 40 in
    judged_by_row s ls
    ∙ told_alike s t same row (found s (basis_in s) 40 40 0 refl)
    ∙ ap (λ (r : Option ℕ). said t (basis_in t) r (Ok (facts_in t))) (rows_alike s t same)
    ∙ sym (judged_by_row t lt)
