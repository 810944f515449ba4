-- Written headers are 3,428 bytes, and each field of them holds its text.
use Prim.Native.Nat.{ℕ, ◌+◌, ◌<◌, ◌≤◌}
use native.Mathlib.Omega.{arith}
use mathlib.Core.Path.{◌≡◌, refl, ap, ◌∙◌}
use mathlib.Core.Bool.{Bool, true}
use mathlib.Core.List.{List, [], ◌∷◌, ◌++◌}
use lib.Dec.{leb}
use lib.ListN.{length, drop, replicate, length-replicate}
use borrow.Author.Tests.{leb-true}
use borrow.Rule.Slice.PartMut.{put_mid}
use Rattle.octets.specs.Choice.{both}
use Rattle.octets.specs.Texts.{ascii}
use Rattle.octets.specs.Pastes.{pasted}
use Rattle.octets.proofs.ChoiceLaws.{both_true}
use Rattle.octets.proofs.PasteLaws.{length_paste, paste_front, part_back}
use Rattle.layout.specs.Grid.{header_bytes}
use Rattle.fields.specs.Table.{bytes_in, field_at}
use Rattle.header_writer.specs.Written.{with_areas, text_for, free_bytes, headers_for}
use Rattle.description.specs.declared.Description.{Description}
use Rattle.fields.specs.Free.{areas, date_at}
use Rattle.fields.specs.declared.free.Area.{Area}
use Rattle.header_writer.proofs.FieldsApart.{length_fields, field_shown}

-- every area lies in the first 785 bytes
abbrev all_inside : List Area → Bool
all_inside [] = true
all_inside (a ∷ rest) = both (leb (a.0 + a.1) 785) (all_inside rest)

length_areas : (s : List ℕ) (xs : List Area) → 785 ≤ length s → all_inside xs ≡ true → length (with_areas s xs) ≡ length s
unfolding with_areas
length_areas s [] h e = refl
length_areas s (a ∷ rest) h e =
    let p = both_true (leb (a.0 + a.1) 785) (all_inside rest) e in
    let n = length-replicate {A = ℕ} a.1 0x30 in
    let l = length_paste s a.0 (replicate a.1 0x30) (omega (arith, leb-true (a.0 + a.1) 785 p.0)) in
    length_areas (pasted s a.0 (replicate a.1 0x30)) rest (omega arith) p.1 ∙ l

-- blanks, areas of zeros and the four digits, over any bytes of which there are enough
length_free : (s : List ℕ) → 785 ≤ length s → length (pasted (with_areas s areas) date_at (ascii "0005")) ≡ length s
length_free s h =
    let l = length_areas s areas h refl in
    length_paste (with_areas s areas) date_at (ascii "0005") (omega arith) ∙ l

length_free_bytes : length free_bytes ≡ header_bytes
unfolding free_bytes
length_free_bytes =
    let l = length-replicate {A = ℕ} header_bytes 0x20 in
    length_free (replicate header_bytes 0x20) (omega arith) ∙ l

pub length_headers : (d : Description) → length (headers_for d) ≡ header_bytes
unfolding headers_for
length_headers d = let l = length_free_bytes in length_fields d free_bytes (omega arith) ∙ l

-- what stands in field i
pub field_written : (d : Description) (i : ℕ) → i < 40 → bytes_in (headers_for d) (field_at i) ≡ text_for (field_at i).2 d
unfolding headers_for
field_written d i h = let l = length_free_bytes in field_shown d free_bytes (omega arith) i h

-- headers put over the front of l, which was lent as `&mut l[0..3428]`
pub headers_over : (l : List ℕ) (d : Description) (h : List ℕ) → h ≡ headers_for d → put_mid 0 3428 l h ≡ headers_for d ++ drop 3428 l
headers_over l d h e =
    let n = length_headers d in
    ap (put_mid 0 3428 l) e
    ∙ (part_back l 0 3428 (headers_for d) n
    ∙ (paste_front l (headers_for d) ∙ ap (λ (k : ℕ). headers_for d ++ drop k l) n))
