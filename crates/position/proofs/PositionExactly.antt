-- Q1 to Q3, N14: a position is answered by the nearest post, exactly by the first row of the call's order that holds.
use Rattle.std.specs.Prelude.{Result, Ok, Err, Option, Some, None}
use Prim.Native.Nat.{ℕ, ◌+◌, ◌-◌, ◌*◌, ◌/◌, ◌%◌, ◌≤◌, ◌<◌}
use native.Mathlib.Nat.{mul-le-mul_right}
use native.Mathlib.Omega.{arith}
use mathlib.Core.Path.{◌≡◌, refl, sym, ap, subst, ◌∙◌}
use mathlib.Core.List.{List}
use lib.IntN.{ℤ, sub_ℕ}
use Rattle.answers.specs.Told.{Told, numbered, refused}
use Rattle.answers.specs.declared.Refusal.{Refusal}
use Rattle.years.specs.declared.Year.{Year}
use Rattle.headers.specs.Judged.{judged, facts_in, frame_of, Follows}
use Rattle.headers.specs.declared.Facts.{Facts}
use Rattle.headers.proofs.Exactly.{follows_good}
use Rattle.headers.proofs.FirstFour.{good_facts}
use Rattle.lookup.specs.Reach.{reached}
use Rattle.lookup.proofs.ReachedExactly.{reached_good}
use Rattle.layout.specs.Levels.{degree}
use Rattle.position.specs.Position.{along_axis, in_cell, corner_at, south_west, nearest, nearest_column, nearest_post, latitude_of, longitude_of, read_at, located_by, located}
use Rattle.position.specs.declared.Corner.{Corner}
use Rattle.position.proofs.NearestPost.{AsNear, nearest_is_lem, nearest_on, nearest_at}
use Rattle.position.proofs.Positions.{offset_high}
use Rattle.position.proofs.Offsets.{along_back, within_degree}

-- how far north or east of the corner a position lies
abbrev pub north_of : Facts → ℤ → Option ℕ
north_of f latitude = in_cell f.latitude (along_axis (90 * degree) latitude)

abbrev pub east_of : Facts → ℤ → Option ℕ
east_of f longitude = in_cell f.longitude (along_axis (180 * degree) longitude)

-- the rows in the call's order, each where it holds and none before it does; the last is post lookup's rows for the nearest post
pub data Row (year : Year) (s : List ℕ) (latitude longitude : ℤ) : Told → Type 0 where
  -- 1, 21 to 23
  bad_headers : (r : Refusal) → judged s ≡ Err r → Row year s latitude longitude (numbered r)
  -- 8
  off : (f : Facts) → judged s ≡ Ok f → south_west f latitude longitude ≡ None → Row year s latitude longitude (refused 8 0)
  near : (f : Facts) → judged s ≡ Ok f → (k : Corner) → south_west f latitude longitude ≡ Some k
      → Row year s latitude longitude (read_at (nearest_column f.grid k) (nearest_post f.grid k) (reached year s (nearest_column f.grid k) (nearest_post f.grid k)))

module _ (year : Year) (s : List ℕ) (latitude longitude : ℤ) where
  located_good : (f : Facts) → judged s ≡ Ok f → located year s latitude longitude ≡ located_by s (frame_of year f) (south_west f latitude longitude)
  unfolding located
  located_good f e = rw e

  -- every row's answer is given
  pub given : (t : Told) → Row year s latitude longitude t → located year s latitude longitude ≡ t
  unfolding located
  given _ (bad_headers r e) = rw e
  given _ (off f e q) = located_good f e ∙ ap (located_by s (frame_of year f)) q
  given _ (near f e k q) =
      located_good f e ∙ ap (located_by s (frame_of year f)) q
      ∙ ap (read_at (nearest_column f.grid k) (nearest_post f.grid k)) (sym (reached_good year s _ _ f e))

  abbrev SomeRow : Type 0
  SomeRow = (t : Told) × Row year s latitude longitude t

  by_corner : (f : Facts) → judged s ≡ Ok f → (w : Option Corner) → south_west f latitude longitude ≡ w → SomeRow
  by_corner f e (Some k) q = (_, near f e k q)
  by_corner f e None q = (_, off f e q)

  by_headers : (x : Result Facts Refusal) → judged s ≡ x → SomeRow
  by_headers (Err r) e = (_, bad_headers r e)
  by_headers (Ok f) e = by_corner f e (south_west f latitude longitude) refl

  -- and every answer is a row's
  pub row : Row year s latitude longitude (located year s latitude longitude)
  row = let y = by_headers (judged s) refl in subst (Row year s latitude longitude) (sym (given y.0 y.1)) y.1

  -- off the cell on either axis it is 8
  pub off_cell : (f : Facts) → judged s ≡ Ok f → north_of f latitude ≡ None → located year s latitude longitude ≡ refused 8 0
  unfolding south_west
  off_cell f e q = given _ (off f e (ap (λ (a : Option ℕ). corner_at f a (east_of f longitude)) q))

  pub off_cell_east : (f : Facts) → judged s ≡ Ok f → (north : ℕ) → north_of f latitude ≡ Some north → east_of f longitude ≡ None
      → located year s latitude longitude ≡ refused 8 0
  unfolding south_west
  off_cell_east f e north q r =
      given _ (off f e (ap (λ (a : Option ℕ). corner_at f a (east_of f longitude)) q ∙ ap (corner_at f (Some north)) r))

  -- a position so far north and east of the corner is answered by this column and post, and no other is nearer
  pub record Nearest (f : Facts) (north east column post : ℕ) : Type 0 where
    pub answered : located year s latitude longitude ≡ read_at column post (reached year s column post)
    pub on_columns : column < f.grid.columns
    pub on_posts : post < f.grid.posts
    pub by_column : (j : ℕ) → AsNear east f.grid.interval.longitude column j
    pub by_post : (j : ℕ) → AsNear north f.grid.interval.latitude post j

  pub nearest_answered : (f : Facts) → judged s ≡ Ok f → (north east : ℕ)
      → north_of f latitude ≡ Some north → east_of f longitude ≡ Some east
      → Nearest f north east
      (nearest f.grid.interval.longitude (east / f.grid.interval.longitude) (east % f.grid.interval.longitude))
      (nearest f.grid.interval.latitude (north / f.grid.interval.latitude) (north % f.grid.interval.latitude))
  unfolding south_west
  nearest_answered f e north east q r =
      let g = (good_facts s f e).grid in
      let dy = f.grid.interval.latitude in
      let dx = f.grid.interval.longitude in
      let some-y : 0 < dy = omega (arith, g.latitude_low) in
      let some-x : 0 < dx = omega (arith, g.longitude_low) in
      record {
        answered = given _ (near f e _ (ap (λ (a : Option ℕ). corner_at f a (east_of f longitude)) q ∙ ap (corner_at f (Some north)) r));
        on_columns = nearest_on dx east some-x f.grid.columns g.longitude_spans (offset_high f.longitude (along_axis (180 * degree) longitude) east r);
        on_posts = nearest_on dy north some-y f.grid.posts g.latitude_spans (offset_high f.latitude (along_axis (90 * degree) latitude) north q);
        by_column = nearest_is_lem dx east some-x;
        by_post = nearest_is_lem dy north some-y;
      }

-- a post's own place along an axis
own_offset : (degrees half d n k : ℕ) → degrees < 360 → degrees * degree + degree ≤ half + half → (n - 1) * d ≡ 36000 → k < n
    → in_cell degrees (along_axis half (sub_ℕ (degrees * degree + k * d) half)) ≡ Some (k * d)
own_offset degrees half d n k some high span on =
    let up : k * d ≤ (n - 1) * d = mul-le-mul_right d (omega arith) in
    let a = degrees * degree + k * d in
    ap (in_cell degrees) (along_back half a (omega (arith, up, span)))
    ∙ within_degree degrees a some (omega arith) (omega (arith, up, span)) ∙ ap Some (omega arith)

-- at the position of a post that post is answered, at every level and in every zone
pub at_post : (year : Year) (s : List ℕ) → Follows s → (c p : ℕ) → c < (facts_in s).grid.columns → p < (facts_in s).grid.posts
    → located year s (latitude_of (facts_in s) p) (longitude_of (facts_in s) c) ≡ read_at c p (reached year s c p)
at_post year s h c p hc hp =
    let f = facts_in s in
    let e = follows_good s h in
    let good = good_facts s f e in
    let g = good.grid in
    let dy = f.grid.interval.latitude in
    let dx = f.grid.interval.longitude in
    let n = own_offset f.latitude (90 * degree) dy f.grid.posts p (omega (arith, good.latitude)) (omega (arith, good.latitude)) g.latitude_spans hp in
    let w = own_offset f.longitude (180 * degree) dx f.grid.columns c good.longitude (omega (arith, good.longitude)) g.longitude_spans hc in
    let it = nearest_answered year s (latitude_of f p) (longitude_of f c) f e (p * dy) (c * dx) n w in
    it.answered
    ∙ rw (nearest_at dx c (omega (arith, g.longitude_low)), nearest_at dy p (omega (arith, g.latitude_low)))
