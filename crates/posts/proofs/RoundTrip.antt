-- Words and heights, there and back, over all of them.
use Rattle.std.proofs.Common.{◌≡◌, ℕ, ◌<◌, Bool, true, false, ℤ, pos, negsuc, refl, arith}
use Rattle.posts.specs.Words.{post_of, word_allowed, negative_zero}
use Rattle.posts.specs.Heights.{form_of, height_allowed, word_of}
use Rattle.posts.proofs.Pairs.{Pair, void, up, down, second_zero, word_of_pair, written_other, form_of_pair, word_in_pair, height_in_pair, pair_of_word, pair_of_height}

-- a height's word has 16 bits
pub word_fits : (z : ℤ) → word_of z < 65536
unfolding word_of
word_fits (pos n) = omega arith
word_fits (negsuc n) = omega arith

-- so has a word that may be held anywhere
fits_in_pair : {voids : Bool} {w : ℕ} {z : ℤ} → Pair voids w z → w < 65536
fits_in_pair (void v) = omega arith
fits_in_pair (up n h) = omega arith
fits_in_pair (down w n e h) = omega arith
fits_in_pair second_zero = omega arith

pub allowed_fits : (voids : Bool) (w : ℕ) → word_allowed voids w ≡ true → w < 65536
allowed_fits voids w a = fits_in_pair (pair_of_word voids w a)

-- an allowed word other than 8000 hex, read and written again, is the same word
pub word_back : (voids : Bool) (w : ℕ) → word_allowed voids w ≡ true → (w ≡ negative_zero → ⊥) → word_of (form_of (post_of w)) ≡ w
word_back voids w a = word_of_pair (pair_of_word voids w a)

-- what an allowed word reads as may be written
pub form_allowed : (voids : Bool) (w : ℕ) → word_allowed voids w ≡ true → height_allowed voids (form_of (post_of w)) ≡ true
form_allowed voids w a = height_in_pair (pair_of_word voids w a)

-- an allowed height, written and read again, is the same height
pub height_back : (voids : Bool) (z : ℤ) → height_allowed voids z ≡ true → form_of (post_of (word_of z)) ≡ z
height_back voids z a = form_of_pair (pair_of_height voids z a)

-- and is written as another word than 8000 hex
pub never_negative_zero : (voids : Bool) (z : ℤ) → height_allowed voids z ≡ true → word_of z ≡ negative_zero → ⊥
never_negative_zero voids z a = written_other (pair_of_height voids z a)

-- what an allowed height is written as may be read
pub word_allowed_lem : (voids : Bool) (z : ℤ) → height_allowed voids z ≡ true → word_allowed voids (word_of z) ≡ true
word_allowed_lem voids z a = word_in_pair (pair_of_height voids z a)

-- a pair is one where voids are allowed too
more : {voids : Bool} {w : ℕ} {z : ℤ} → Pair voids w z → Pair true w z
more (void v) = void refl
more (up n h) = up n h
more (down w n e h) = down w n e h
more second_zero = second_zero

-- a word allowed where voids are not is allowed where they are
pub voids_more : (w : ℕ) → word_allowed false w ≡ true → word_allowed true w ≡ true
voids_more w a = word_in_pair (more (pair_of_word false w a))

-- so is a height that is allowed anywhere
pub heights_more : (voids : Bool) (z : ℤ) → height_allowed voids z ≡ true → height_allowed true z ≡ true
heights_more voids z a = height_in_pair (more (pair_of_height voids z a))
