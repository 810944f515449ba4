-- What a reached post is: its column there whole and good; and that column as it is lent, and as it comes back.
use Rattle.std.specs.Prelude.{Result, Ok}
use Rattle.answers.specs.declared.Refusal.{Refusal}
use Prim.Native.Nat.{ℕ, ◌+◌, ◌-◌, ◌≤◌, ◌<◌}
use native.Mathlib.Omega.{arith}
use mathlib.Core.Path.{◌≡◌, ap, subst, ◌∙◌}
use mathlib.Core.List.{List}
use lib.IntN.{ℤ}
use lib.ListN.{length, take, drop}
use borrow.Rule.Slice.PartMut.{put_mid}
use Rattle.octets.specs.Pastes.{pasted}
use Rattle.octets.proofs.PasteLaws.{part_back}
use Rattle.years.specs.declared.Year.{Year}
use Rattle.layout.specs.Levels.{column_bytes}
use Rattle.headers.specs.Judged.{facts_in, frame_in}
use Rattle.headers.proofs.Exactly.{follows_good}
use Rattle.headers.proofs.FirstFour.{good_facts}
use Rattle.posts.specs.Heights.{word_of}
use Rattle.columns.specs.Column.{GoodColumn}
use Rattle.column_edit.specs.Asked.{Storable}
use Rattle.column_edit.specs.Stored.{stored}
use Rattle.column_edit.proofs.StoredBytes.{length_stored}
use Rattle.cells.specs.Cell.{start_of}
use Rattle.cells.proofs.ColumnPlaces.{start_small}
use Rattle.lookup.specs.Reach.{spot_in, reached}
use Rattle.lookup.specs.declared.reach.Spot.{Spot}
use Rattle.lookup.proofs.ReachedExactly.{Row, bad_headers, off, cut, column, good, row}
use Rattle.edit.specs.Edit.{stored_in}
use Rattle.edit.proofs.EditExactly.{Reachable}

-- the bytes of a spot's column
abbrev pub part_at : List ℕ → Spot → List ℕ
part_at s spot = take (column_bytes spot.posts) (drop spot.start s)

-- a spot that was reached: its post inside, its column there whole and good, and numbers that fit
pub record SpotOf (s : List ℕ) (c p : ℕ) (spot : Spot) : Type 0 where
  pub inside : p < spot.posts
  pub few : spot.posts ≤ 3601
  pub small : spot.start ≤ 25981042
  pub whole : spot.start + column_bytes spot.posts ≤ length s
  pub column : GoodColumn (part_at s spot) c spot.posts spot.voids

module _ (year : Year) (s : List ℕ) (c p : ℕ) where
  -- the spot of a good column
  pub spot_of : Reachable year s c p → SpotOf s c p (spot_in s (frame_in year s) c p)
  spot_of r =
      let g = (facts_in s).grid in
      let on = r.on in
      let ranged = (good_facts s (facts_in s) (follows_good s on.headers)).grid in
      record {
        inside = on.post;
        few = ranged.posts_high;
        small = omega (arith, start_small c g.bytes.column (omega arith) (omega arith));
        whole = omega (arith, r.whole);
        column = subst (λ (n : ℕ). GoodColumn (take n (drop (start_of g c) s)) c g.posts (frame_in year s).voids) ranged.column r.column;
      }

  by_row : (x : Result Spot Refusal) → Row year s c p x → (spot : Spot) → x ≡ Ok spot → SpotOf s c p spot
  by_row _ (bad_headers r j) spot e = let z : ◌≡◌ {A = ℕ} 0 1 = cc in absurd (omega arith)
  by_row _ (off h away) spot e = let z : ◌≡◌ {A = ℕ} 0 1 = cc in absurd (omega arith)
  by_row _ (cut o short) spot e = let z : ◌≡◌ {A = ℕ} 0 1 = cc in absurd (omega arith)
  by_row _ (column o whole r j) spot e = let z : ◌≡◌ {A = ℕ} 0 1 = cc in absurd (omega arith)
  by_row _ (good o whole g) spot e =
      let same : spot_in s (frame_in year s) c p ≡ spot = cc in subst (SpotOf s c p) same (spot_of (record { on = o; whole = whole; column = g }))

  pub spot_reached : (spot : Spot) → reached year s c p ≡ Ok spot → SpotOf s c p spot
  spot_reached spot e = by_row (reached year s c p) (row year s c p) spot e

-- the column, lent as the part from its start to its end
module _ (s : List ℕ) (c p : ℕ) (spot : Spot) (at : SpotOf s c p spot) (size : ℕ) (sized : size ≡ column_bytes spot.posts) where
  abbrev pub lent : List ℕ
  lent = take (spot.start + size - spot.start) (drop spot.start s)

  lent_is : lent ≡ part_at s spot
  lent_is = let n : spot.start + size - spot.start ≡ column_bytes spot.posts = omega (arith, sized) in rw n

  -- all that storing a post in it asks
  pub can_store : Storable lent spot.posts p
  can_store = rw lent_is (record { long = at.column.long; inside = at.inside; few = at.few; checksum = at.column.right.checksum })

  -- and what the cell is once it came back
  pub stored_back : (z : ℤ) (back : List ℕ) → back ≡ stored lent spot.posts p (word_of z)
      → put_mid spot.start (spot.start + size - spot.start) s back ≡ stored_in s spot p z
  unfolding stored_in
  stored_back z back e =
      let same : back ≡ stored (part_at s spot) spot.posts p (word_of z) = e ∙ ap (λ (l : List ℕ). stored l spot.posts p (word_of z)) lent_is in
      let long = length_stored (part_at s spot) spot.posts p (word_of z) at.column.long at.inside in
      part_back s spot.start (spot.start + size - spot.start) back (ap length same ∙ long ∙ at.column.long ∙ omega (arith, sized))
      ∙ ap (pasted s spot.start) same
