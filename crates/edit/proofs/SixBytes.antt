-- E3: of all bytes an edit changes at most six, the two of its post and the four of its column's checksum.
use Rattle.std.specs.Prelude.{Result, Ok, Err, ⊤}
use Rattle.answers.specs.declared.Refusal.{Refusal}
use Prim.Native.Nat.{ℕ, ◌+◌, ◌-◌, ◌≤◌, ◌<◌}
use native.Mathlib.Omega.{arith}
use mathlib.Core.Path.{◌≡◌, refl, sym, ap, ◌∙◌}
use mathlib.Core.List.{List}
use lib.IntN.{ℤ}
use lib.ListN.{length, get_or}
use Rattle.octets.specs.Pastes.{pasted}
use Rattle.octets.proofs.ChoiceLaws.{by_order}
use Rattle.octets.proofs.PasteLaws.{length_paste}
use Rattle.octets.proofs.PartLaws.{paste_shown, byte_part}
use Rattle.headers.specs.Judged.{frame_in, facts_in}
use Rattle.layout.specs.Levels.{column_bytes}
use Rattle.posts.specs.Heights.{word_of}
use Rattle.columns.specs.Column.{word_at, sum_at}
use Rattle.column_edit.specs.Stored.{stored}
use Rattle.column_edit.proofs.StoredBytes.{NoneOf, paste_leaves, length_stored, stored_leaves}
use Rattle.cells.specs.Cell.{start_of}
use Rattle.lookup.specs.Reach.{spot_in}
use Rattle.lookup.specs.declared.reach.Spot.{Spot}
use Rattle.years.specs.declared.Year.{Year}
use Rattle.edit.specs.Edit.{judged_edit, stored_in, edited}
use Rattle.edit.proofs.SpotReached.{SpotOf, part_at, spot_of}
use Rattle.edit.proofs.EditExactly.{accepted_exactly, refused_leaves, done_leaves}

-- a paste whose bytes differ from what stood there in no byte that counts
paste_alike : (s : List ℕ) (at : ℕ) (vs : List ℕ) (i : ℕ) → at + length vs ≤ length s
    → ((j : ℕ) → j < length vs → i ≡ at + j → get_or vs j 0 ≡ get_or s (at + j) 0) → get_or (pasted s at vs) i 0 ≡ get_or s i 0
paste_alike s at vs i inside alike =
    by_order at i
    (λ h. by_order (at + length vs) i
    (λ u. paste_leaves s at vs inside i (λ k l e. omega arith))
    (λ u.
    let j = i - at in
    let e : i ≡ at + j = omega arith in
    rw e
    (sym (byte_part (pasted s at vs) at (length vs) j (omega arith))
    ∙ ap (λ (l : List ℕ). get_or l j 0) (paste_shown s at vs (omega arith))
    ∙ alike j (omega arith) e)))
    (λ h. paste_leaves s at vs inside i (λ k l e. omega arith))

-- a post stored in its column's part of the cell
module _ (s : List ℕ) (c p : ℕ) (z : ℤ) (spot : Spot) (at : SpotOf s c p spot) where
  abbrev column : List ℕ
  column = stored (part_at s spot) spot.posts p (word_of z)

  column_long : length column ≡ column_bytes spot.posts
  column_long = length_stored (part_at s spot) spot.posts p (word_of z) at.column.long at.inside ∙ at.column.long

  length_stored_in : length (stored_in s spot p z) ≡ length s
  unfolding stored_in
  length_stored_in = length_paste s spot.start column (omega (arith, column_long, at.whole))

  stored_in_leaves : (i : ℕ) → NoneOf (spot.start + word_at p) 2 i → NoneOf (spot.start + sum_at spot.posts) 4 i
      → get_or (stored_in s spot p z) i 0 ≡ get_or s i 0
  unfolding stored_in
  stored_in_leaves i apart beyond =
      paste_alike s spot.start column i (omega (arith, column_long, at.whole))
      (λ j h e.
      stored_leaves (part_at s spot) spot.posts p (word_of z) at.column.long at.inside j
      (λ k l q. apart k l (omega arith)) (λ k l q. beyond k l (omega arith))
      ∙ byte_part s spot.start (column_bytes spot.posts) j (omega (arith, column_long)))

-- where a post's two bytes stand, and its column's checksum of four
abbrev pub post_at : List ℕ → ℕ → ℕ → ℕ
post_at s c p = start_of (facts_in s).grid c + word_at p

abbrev pub checksum_at : List ℕ → ℕ → ℕ
checksum_at s c = start_of (facts_in s).grid c + sum_at (facts_in s).grid.posts

module _ (year : Year) (s : List ℕ) (c p : ℕ) (z : ℤ) where
  abbrev spot : Spot
  spot = spot_in s (frame_in year s) c p

  reached_spot : judged_edit year s c p z ≡ Ok tt → SpotOf s c p spot
  reached_spot e = spot_of year s c p ((accepted_exactly year s c p z).0 e).0

  by_answer : (x : Result ⊤ Refusal) → judged_edit year s c p z ≡ x
      → (length (edited year s c p z) ≡ length s) × ((i : ℕ) → NoneOf (post_at s c p) 2 i → NoneOf (checksum_at s c) 4 i → get_or (edited year s c p z) i 0 ≡ get_or s i 0)
  by_answer (Ok tt) e =
      let at = reached_spot e in
      rw (done_leaves year s c p z e) (length_stored_in s c p z spot at, stored_in_leaves s c p z spot at)
  by_answer (Err r) e = rw (refused_leaves year s c p z r e) (refl, λ i apart beyond. refl)

  pub same_length : length (edited year s c p z) ≡ length s
  same_length = (by_answer (judged_edit year s c p z) refl).0

  pub six_bytes : (i : ℕ) → NoneOf (post_at s c p) 2 i → NoneOf (checksum_at s c) 4 i → get_or (edited year s c p z) i 0 ≡ get_or s i 0
  six_bytes = (by_answer (judged_edit year s c p z) refl).1
