-- What every call tells fits the bits that a packed answer has for it (rule B1), so that nothing is cut.
use Rattle.std.specs.Prelude.{Result, Ok, Err, ⊤}
use Rattle.lookup.specs.declared.reach.Spot.{Spot}
use Rattle.headers.specs.declared.Facts.{Facts}
use Prim.Native.Nat.{ℕ, zero, suc, ◌+◌, ◌<◌, ◌≤◌}
use native.Mathlib.Omega.{arith}
use mathlib.Core.Path.{◌≡◌, refl, sym, subst, ◌∙◌}
use mathlib.Core.Bool.{Bool, true}
use mathlib.Core.List.{List}
use lib.Dec.{eqb, leb, lit<}
use lib.IntN.{ℤ, pos, negsuc}
use lib.ListN.{length}
use borrow.Author.Tests.{leb-true}
use Rattle.octets.specs.Scan.{scan}
use Rattle.octets.proofs.ChoiceLaws.{by_test}
use Rattle.answers.specs.Told.{Told, refused, accepted, numbered, number_told, place_told, told, act}
use Rattle.answers.specs.Told as telling
use Rattle.answers.specs.declared.Refusal.{Refusal}
use Rattle.answers.specs.declared.Refusal.TheVariants as because
use Rattle.answers.proofs.Injective.{refusal_told, number_ranged}
use Rattle.host_answers.specs.Apart.{FitsHeight, Fits}
use Rattle.host_answers.specs.Apart as fits
use Rattle.layout.specs.declared.Grid.{Grid}
use Rattle.layout.specs.declared.Frame.{Frame}
use Rattle.layout.specs.Ranges.{Ranged}
use Rattle.layout.proofs.Ranges.{ranged}
use Rattle.layout.specs.Levels.{posts_of, column_bytes}
use Rattle.layout.specs.Grid.{grid_of}
use Rattle.posts.specs.Words.{post_of, in_range}
use Rattle.posts.specs.declared.Post.{Post}
use Rattle.posts.proofs.PostWords.{up_in_range, down_in_range}
use Rattle.posts.proofs.Readings.{Reads}
use Rattle.posts.proofs.Readings as reads
use Rattle.fields.specs.Table.{field_at}
use Rattle.headers.specs.Basis.{basis_in}
use Rattle.headers.specs.Judged.{broken, judged, facts_in, frame_of, frame_in, Follows}
use Rattle.headers.proofs.Exactly.{Answer, short, breaks, good, answered, follows_good}
use Rattle.headers.proofs.BrokenPlace.{place_told_lem}
use Rattle.headers.proofs.FirstFour.{good_facts}
use Rattle.headers.proofs.TableRows.{row}
use Rattle.columns.specs.Judged.{judged_column, RefusedIn}
use Rattle.columns.specs.Column.{word_in, GoodColumn}
use Rattle.columns.proofs.Damage.{judged_in_lem}
use Rattle.cells.specs.Cell.{start_of, column_at}
use Rattle.lookup.specs.Lookup.{reading_of, looked_up}
use Rattle.lookup.specs.Reach.{reached}
use Rattle.lookup.proofs.ReachedExactly as exactly
use Rattle.position.specs.Position.{nearest_column, nearest_post, said_at, read_at, located}
use Rattle.position.proofs.PositionExactly as position
use Rattle.octets.proofs.JoinedLaws.{part_within}
use Rattle.years.specs.declared.Year.{Year}
use Rattle.years.specs.Years.{under}
use Rattle.years.proofs.YearLaws.{by_year, under_named, under_none}
use Rattle.sources.specs.Heights.{Heights}
use Rattle.column_writer.proofs.PostsExactly.{PostsRow, differs, not_held, no_room, fine}
use Rattle.column_writer.proofs.NumberExactly.{NumberRow, level_past, number_past, then_rest}
use Rattle.edit.specs.Edit.{judged_edit, edit_told}
use Rattle.edit.proofs.EditExactly as edit-rows
use Rattle.intake.specs.Intake.{or_rest, judge_next, ended, columns_from, taken_by, taken}

-- the longest cell: no offset in a file that is judged lies past it
abbrev pub most : ℕ
most = 25981042

-- a number and a place of the longest cell fit
pub small_fits : (number place : ℕ) → 0 < number → number < 256 → place ≤ most → Fits (refused number place)
small_fits number place some small h = fits.refused number place some small (omega arith)

-- a refusal fits where its place is not past that
pub numbered_fits : (r : Refusal) → place_told (numbered r) ≤ most → Fits (numbered r)
numbered_fits r h =
    let n = number_ranged r in
    subst Fits (sym (refusal_told r)) (small_fits (number_told (numbered r)) (place_told (numbered r)) n.0 n.1 h)

off_grid_fits : Fits (refused 8 0)
off_grid_fits = fits.refused 8 0 (lit< tt) (lit< tt) (lit< tt)

-- a grid in its ranges fits
pub ranged_fits : (g : Grid) → Ranged g → Fits (accepted g.level g.columns g.posts)
ranged_fits g r =
    fits.accepted g.level g.columns g.posts (omega (arith, r.level)) (omega (arith, r.columns_high)) (omega (arith, r.posts_high))

-- a height that a cell may hold has 16 bits, and is not void's number
pub height_fits : (z : ℤ) → in_range z ≡ true → FitsHeight z
height_fits (pos n) e = omega (arith, leb-true n 9000 (sym (up_in_range n) ∙ e))
height_fits (negsuc n) e = omega (arith, leb-true (suc n) 12000 (sym (down_in_range (suc n)) ∙ e))

-- a refusal of headers has its place in them
headers_by : (s : List ℕ) (j : Result Facts Refusal) → Answer s j → (r : Refusal) → j ≡ Err r → place_told (numbered r) ≤ most
headers_by s _ (short h) r e = let same : because.Short (length s) ≡ r = cc in subst (λ (x : Refusal). place_told (numbered x) ≤ most) same (omega arith)
headers_by s _ (breaks i f) r e =
    let same : broken s (basis_in s) (field_at i) ≡ r = cc in
    let p = place_told_lem s i f in
    subst (λ (x : Refusal). place_told (numbered x) ≤ most) same (omega (arith, p.is, p.inside, (row i f.below).within))
headers_by s _ (good f) r e = let z : ◌≡◌ {A = ℕ} 0 1 = cc in absurd (omega arith)

pub headers_fit : (s : List ℕ) (r : Refusal) → judged s ≡ Err r → Fits (numbered r)
headers_fit s r e = numbered_fits r (headers_by s (judged s) (answered s) r e)

-- a refusal of a column has its place in it
column_fits : (s : List ℕ) (k posts : ℕ) (voids : Bool) (base : ℕ) → base + column_bytes posts ≤ most → (r : Refusal)
    → judged_column s k posts voids base ≡ Err r → Fits (numbered r)
column_fits s k posts voids base small r e =
    let inside = judged_in_lem s k posts voids base (λ q. let z : ◌≡◌ {A = ℕ} 0 1 = cc in absurd (omega arith)) in
    let there : RefusedIn base (base + column_bytes posts) (Err r) = subst (RefusedIn base (base + column_bytes posts)) e inside in
    numbered_fits r (omega (arith, there.1))

-- no column of a grid ends past the longest cell
end_small : (g : Grid) → Ranged g → (k : ℕ) → k < g.columns → start_of g k + g.bytes.column ≤ most
end_small g in_range_lem k h = omega (arith, part_within k g.columns g.bytes.column h, in_range_lem.cell, in_range_lem.cell_high)

module _ (s : List ℕ) (f : Frame) (in_range_lem : Ranged f.grid) where
  ended_fits : (long : ℕ) → Fits (ended long f.grid)
  unfolding ended
  ended_fits long =
      by_test (eqb long f.grid.bytes.cell)
      (λ e. rw e (ranged_fits f.grid in_range_lem))
      (λ e. rw e (small_fits 7 f.grid.bytes.cell (lit< tt) (lit< tt) in_range_lem.cell_high))

  -- a column's refusal, or the rest
  next_fits : (k : ℕ) → k < f.grid.columns → (x : Result ⊤ Refusal)
      → judged_column (column_at s f.grid k) k f.grid.posts f.voids (start_of f.grid k) ≡ x → (rest : Told) → Fits rest → Fits (or_rest x rest)
  next_fits k h (Ok tt) e rest fit = fit
  next_fits k h (Err r) e rest fit =
      column_fits (column_at s f.grid k) k f.grid.posts f.voids (start_of f.grid k) (omega (arith, end_small f.grid in_range_lem k h, in_range_lem.column)) r e

  columns_fit : (k n : ℕ) → k + n ≤ f.grid.columns → Fits (columns_from s f k n)
  unfolding scan judge_next
  columns_fit k zero h = ended_fits (length s)
  columns_fit k (suc n) h =
      let g = f.grid in
      let here : k < g.columns = omega arith in
      by_test (leb (start_of g k + g.bytes.column) (length s))
      (λ e. rw e (next_fits k here (judged_column (column_at s g k) k g.posts f.voids (start_of g k)) refl _ (columns_fit (k + 1) n (omega arith))))
      (λ e. rw e (small_fits 3 (start_of g k) (lit< tt) (lit< tt) (omega (arith, end_small g in_range_lem k here))))

intake_by : (year : Year) (s : List ℕ) (x : Result Facts Refusal) → judged s ≡ x → Fits (taken_by year s x)
intake_by year s (Ok f) e = columns_fit s (frame_of year f) (good_facts s f e).grid 0 f.grid.columns (omega arith)
intake_by year s (Err r) e = headers_fit s r e

-- intake
pub intake_fits : (year : Year) (s : List ℕ) → Fits (taken year s)
unfolding taken
intake_fits year s = intake_by year s (judged s) refl

follows_ranged : (s : List ℕ) → Follows s → Ranged (facts_in s).grid
follows_ranged s h = (good_facts s (facts_in s) (follows_good s h)).grid

-- a post that is reached, or not, under what is said of it
module _ (year : Year) (s : List ℕ) (c p : ℕ) where
  refused_fits : (x : Result Spot Refusal) → exactly.Row year s c p x → (r : Refusal) → x ≡ Err r → Fits (numbered r)
  refused_fits _ (exactly.bad_headers r e) q same = let t : r ≡ q = cc in subst (λ (y : Refusal). Fits (numbered y)) t (headers_fit s r e)
  refused_fits _ (exactly.off h away) q same = let t : because.OffGrid ≡ q = cc in subst (λ (y : Refusal). Fits (numbered y)) t off_grid_fits
  refused_fits _ (exactly.cut o cut_off) q same =
      let t : because.Cut (start_of (facts_in s).grid c) ≡ q = cc in
      subst (λ (y : Refusal). Fits (numbered y)) t
      (small_fits 3 (start_of (facts_in s).grid c) (lit< tt) (lit< tt)
      (omega (arith, end_small (facts_in s).grid (follows_ranged s o.headers) c o.column)))
  refused_fits _ (exactly.column o whole r e) q same =
      let t : r ≡ q = cc in
      let g = follows_ranged s o.headers in
      subst (λ (y : Refusal). Fits (numbered y)) t
      (column_fits _ c (facts_in s).grid.posts (frame_in year s).voids (start_of (facts_in s).grid c)
      (omega (arith, end_small (facts_in s).grid g c o.column, g.column)) r e)
  refused_fits _ (exactly.good o whole g) q same = let z : ◌≡◌ {A = ℕ} 0 1 = cc in absurd (omega arith)

  -- the word of a good column reads as a height in range, or as void
  allowed_reads : exactly.OnGrid s c p → GoodColumn (column_at s (facts_in s).grid c) c (facts_in s).grid.posts (frame_in year s).voids
      → Reads (frame_in year s).voids (post_of (word_in (column_at s (facts_in s).grid c) p))
  allowed_reads o g = reads.reads (frame_in year s).voids (word_in (column_at s (facts_in s).grid c) p) (g.words p o.post)

  post_fits_by : (x : Result Spot Refusal) → exactly.Row year s c p x → Fits (told telling.post (reading_of x))
  post_fits_by _ (exactly.bad_headers r e) = refused_fits _ (exactly.bad_headers r e) r refl
  post_fits_by _ (exactly.off h away) = refused_fits _ (exactly.off h away) because.OffGrid refl
  post_fits_by _ (exactly.cut o cut_off) = refused_fits _ (exactly.cut o cut_off) _ refl
  post_fits_by _ (exactly.column o whole r e) = refused_fits _ (exactly.column o whole r e) r refl
  post_fits_by _ (exactly.good o whole g) = said_fits (allowed_reads o g)
    where
      said_fits : {x : Post} → Reads (frame_in year s).voids x → Fits (told telling.post (Ok x))
      said_fits (reads.height z e) = fits.height z (height_fits z e)
      said_fits (reads.void e) = fits.void

  near_fits_by : (x : Result Spot Refusal) → exactly.Row year s c p x → Fits (read_at c p x)
  near_fits_by _ (exactly.bad_headers r e) = refused_fits _ (exactly.bad_headers r e) r refl
  near_fits_by _ (exactly.off h away) = refused_fits _ (exactly.off h away) because.OffGrid refl
  near_fits_by _ (exactly.cut o cut_off) = refused_fits _ (exactly.cut o cut_off) _ refl
  near_fits_by _ (exactly.column o whole r e) = refused_fits _ (exactly.column o whole r e) r refl
  near_fits_by _ (exactly.good o whole g) = said_fits (allowed_reads o g)
    where
      small : (c < 65536) × (p < 65536)
      small =
          let f = follows_ranged s o.headers in
          (omega (arith, o.column, f.columns_high), omega (arith, o.post, f.posts_high))

      said_fits : {x : Post} → Reads (frame_in year s).voids x → Fits (said_at c p (Ok x))
      said_fits (reads.height z e) = fits.height_at c p z small.0 small.1 (height_fits z e)
      said_fits (reads.void e) = fits.void_at c p small.0 small.1

-- post lookup
pub post_fits : (year : Year) (s : List ℕ) (c p : ℕ) → Fits (looked_up year s c p)
unfolding looked_up
post_fits year s c p = post_fits_by year s c p (reached year s c p) (exactly.row year s c p)

-- position lookup
position_by : (year : Year) (s : List ℕ) (latitude longitude : ℤ) (t : Told) → position.Row year s latitude longitude t → Fits t
position_by year s latitude longitude _ (position.bad_headers r e) = headers_fit s r e
position_by year s latitude longitude _ (position.off f j e) = off_grid_fits
position_by year s latitude longitude _ (position.near f j k e) =
    near_fits_by year s (nearest_column f.grid k) (nearest_post f.grid k) (reached year s (nearest_column f.grid k) (nearest_post f.grid k)) (exactly.row year s (nearest_column f.grid k) (nearest_post f.grid k))

pub position_fits : (year : Year) (s : List ℕ) (latitude longitude : ℤ) → Fits (located year s latitude longitude)
position_fits year s latitude longitude = position_by year s latitude longitude (located year s latitude longitude) (position.row year s latitude longitude)

-- the edit
edit_by : (year : Year) (s : List ℕ) (c p : ℕ) (z : ℤ) (x : Result ⊤ Refusal) → edit-rows.EditRow year s c p z x → Fits (told act x)
edit_by year s c p z _ (edit-rows.reaching r row) = refused_fits year s c p (Err r) row r refl
edit_by year s c p z _ (edit-rows.height r bad) = fits.refused 11 0 (lit< tt) (lit< tt) (lit< tt)
edit_by year s c p z _ (edit-rows.done r a) = fits.done

pub edit_fits : (year : Year) (s : List ℕ) (c p : ℕ) (z : ℤ) → Fits (edit_told year s c p z)
unfolding edit_told
edit_fits year s c p z = edit_by year s c p z (judged_edit year s c p z) (edit-rows.row year s c p z)

-- the number that names a year has 32 bits, and so is a place where it names none
pub under_fits : (n : ℕ) → n < 4294967296 → (tells : Year → Told) → ((year : Year) → Fits (tells year)) → Fits (under n tells)
under_fits n small tells each =
    by_year n
    (λ none. subst Fits (sym (under_none n tells none)) (fits.refused 17 n (lit< tt) (lit< tt) (omega arith)))
    (λ year names. subst Fits (sym (under_named n tells year names)) (each year))

-- the writers
pub posts_fits : (posts bytes : ℕ) (voids : Bool) (g : Heights) (room : ℕ) → posts ≤ most → bytes ≤ most
    → (x : Result ⊤ Refusal) → PostsRow posts bytes voids g room x → Fits (told act x)
posts_fits posts bytes voids g room hp hb _ (differs e) = small_fits 10 posts (lit< tt) (lit< tt) hp
posts_fits posts bytes voids g room hp hb _ (not_held l n h bad f) = small_fits 11 n (lit< tt) (lit< tt) (omega arith)
posts_fits posts bytes voids g room hp hb _ (no_room l f h) = small_fits 12 bytes (lit< tt) (lit< tt) hb
posts_fits posts bytes voids g room hp hb _ (fine l f h) = fits.done

-- of a column, where what is judged after its number fits
pub number_fits : (level number : ℕ) (Rest : Result ⊤ Refusal → Type 0)
    → (posts_of level ≤ most → column_bytes (posts_of level) ≤ most → (x : Result ⊤ Refusal) → Rest x → Fits (told act x))
    → (x : Result ⊤ Refusal) → NumberRow level number Rest x → Fits (told act x)
unfolding grid_of
number_fits level number Rest f _ (level_past h) = fits.refused 9 1 (lit< tt) (lit< tt) (lit< tt)
number_fits level number Rest f _ (number_past h u) = off_grid_fits
number_fits level number Rest f x (then_rest _ h u r) =
    let g = ranged level 0 h (lit< tt) in
    f (omega (arith, g.posts_high)) (omega (arith, g.posts_high)) x r
