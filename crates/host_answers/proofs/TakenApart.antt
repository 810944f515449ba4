-- B4: an answer that fits its bits, packed and then taken apart, says what was told: nothing is cut, and no two answers are one number.
use Prim.Native.Nat.{ℕ, suc, ◌-◌, ◌%◌, ◌<◌}
use native.Mathlib.Omega.{arith}
use mathlib.Core.Path.{◌≡◌, sym, ap, ◌∙◌}
use mathlib.Core.Bool.{false}
use lib.Dec.{lit<}
use lib.IntN.{ℤ, pos, negsuc}
use lib.ListN.{get_or}
use borrow.Author.Tests.{eq-eqb, ne_eqb, lt-ltb, le-ltb}
use Rattle.answers.specs.Told.{Told, refused, said, more, number_told, place_told}
use Rattle.posts.specs.Heights.{void_depth, void_number}
use Rattle.posts.specs.Heights as posts
use Rattle.posts.proofs.Voids.{not_void}
use Rattle.host_answers.specs.Packed.{bits, void_bits, a_grid, a_height, a_position, Held, holds, nothing, holding, packed_held, held_by, refusal, packed}
use Rattle.host_answers.specs.Apart.{number_in, place_in, held_in, first_in, second_in, third_in, height_of, is_void, height_in, saying, told_in, FitsHeight, Fits}
use Rattle.host_answers.specs.Apart as fits

-- a refusal's number and place
pub number_back : (number place : ℕ) → number < 256 → number_in (refusal number place) ≡ number
number_back number place h = omega arith

pub place_back : (number place : ℕ) → place < 72057594037927936 → place_in (refusal number place) ≡ place
place_back number place h = omega arith

refused_back : (number place : ℕ) → 0 < number → number < 256 → place < 72057594037927936 → told_in (refusal number place) ≡ refused number place
unfolding told_in
refused_back number place some h i = rw (number_back number place h, place_back number place i, ne_eqb number 0 (λ e. omega arith))

-- what is held: no refusal, what it is, and each of the three values
module _ (what a b c : ℕ) where
  pub no_number : number_in (holding what a b c) ≡ 0
  no_number = omega arith

  pub held_back : what < 256 → held_in (holding what a b c) ≡ what
  held_back h = omega arith

  pub first_back : a < 65536 → first_in (holding what a b c) ≡ a
  first_back h = omega arith

  pub second_back : b < 65536 → second_in (holding what a b c) ≡ b
  second_back h = omega arith

  pub third_back : c < 65536 → third_in (holding what a b c) ≡ c
  third_back h = omega arith

  -- an answer that holds something is no refusal
  taken : what < 256 → a < 65536 → b < 65536 → c < 65536 → told_in (holding what a b c) ≡ saying what a b c
  unfolding told_in
  taken h i j k = rw (eq-eqb (number_in (holding what a b c)) 0 no_number, held_back h, first_back i, second_back j, third_back k)

-- the bits of a height: itself, or 10000 hex less what it is below 0; and never those of void
bits_small : (z : ℤ) → bits z < 65536
bits_small (pos n) = omega arith
bits_small (negsuc n) = omega arith

bits_back : (z : ℤ) → FitsHeight z → height_of (bits z) ≡ z
bits_back (pos n) h = let same : n % 65536 ≡ n = omega arith in rw (same, lt-ltb n 32768 h)
bits_back (negsuc n) h =
    let same : n % 65536 ≡ n = omega arith in
    let size : 65536 - (65535 - n) ≡ suc n = omega arith in
    rw (same, le-ltb (65535 - n) 32768 (omega arith), size)

height_apart : (z : ℤ) → FitsHeight z → z ≡ void_number → ⊥
height_apart (pos n) h e = let z : ◌≡◌ {A = ℕ} 0 1 = cc in omega arith
height_apart (negsuc n) h e = let same : n ≡ void_depth - 1 = cc in omega arith

no_void : (z : ℤ) → FitsHeight z → is_void (bits z) ≡ false
no_void z f = ap posts.is_void (bits_back z f) ∙ not_void z (height_apart z f)

pub height_back : (what a b : ℕ) (z : ℤ) → FitsHeight z → height_in (holding what a b (bits z)) ≡ z
height_back what a b z f = ap height_of (third_back what a b (bits z) (bits_small z)) ∙ bits_back z f

-- B4: what is taken out of a packed answer is what was told
pub told_back : (t : Told) → Fits t → told_in (packed t) ≡ t
unfolding packed
told_back _ (fits.refused number place some h i) = refused_back number place some h i
told_back _ (fits.accepted level columns posts f g h) = taken a_grid level columns posts (lit< tt) f g h
told_back _ (fits.height z f) = taken a_height 0 0 (bits z) (lit< tt) (lit< tt) (lit< tt) (bits_small z) ∙ rw (no_void z f, bits_back z f)
told_back _ fits.void = taken a_height 0 0 void_bits (lit< tt) (lit< tt) (lit< tt) (lit< tt)
told_back _ (fits.height_at column post z f g h) =
    taken a_position column post (bits z) (lit< tt) f g (bits_small z) ∙ rw (no_void z h, bits_back z h)
told_back _ (fits.void_at column post f g) = taken a_position column post void_bits (lit< tt) f g (lit< tt)
told_back _ fits.done = taken 0 0 0 0 (lit< tt) (lit< tt) (lit< tt) (lit< tt)

-- so no two answers are one number, of whatever calls: void is apart from every height, a refusal from every value, a height from a grid
pub packed_apart : (t u : Told) → Fits t → Fits u → packed t ≡ packed u → t ≡ u
packed_apart t u f g e = sym (told_back t f) ∙ ap told_in e ∙ told_back u g

-- "more" is packed as an act that was done is, and so it does not fit
pub more_unfit : Fits more → ⊥
unfolding packed told_in
more_unfit f = let z : ◌≡◌ {A = ℕ} 6 0 = cc (told_back more f) in omega arith

held_number : (h : Held) → number_in (packed_held h) ≡ 0
held_number (holds what a b c) = no_number what a b c

-- the number and the place alone, as a host asks for them first
pub number_told_lem : (t : Told) → Fits t → number_in (packed t) ≡ number_told t
unfolding packed
number_told_lem (refused number place) (fits.refused _ _ some h i) = number_back number place h
number_told_lem (said tag values) f = held_number (get_or (held_by values) tag nothing)

pub place_told_lem : (t : Told) → Fits t → 0 < number_told t → place_in (packed t) ≡ place_told t
unfolding packed
place_told_lem (refused number place) (fits.refused _ _ some h i) few = place_back number place i
place_told_lem (said tag values) f some = absurd (omega arith)
