-- Post words by their sign: what a word reads as, whether it is allowed, and the word of a height.
use Rattle.std.proofs.Common.{◌≡◌, ℕ, zero, suc, ◌+◌, ◌-◌, ◌%◌, ◌<◌, ◌≤◌, Bool, true, false, leb, ℤ, pos, negsuc, neg_ℤ, sym, refl, ◌∙◌, arith, add-one, true≢false, ltb-true, le-ltb, lt-ltb, ne_eqb}
use lib.Signed.{lt_z}
use Rattle.std.specs.Int.RustNames.{unsigned_abs}
use lib.Dec.{leb-suc-suc}
use Rattle.octets.specs.Choice.{both}
use Rattle.posts.specs.Words.{height_of, post_of, in_range, word_allowed, negative_zero}
use Rattle.posts.specs.Heights.{word_of}
use Rattle.posts.specs.declared.Post.TheVariants.{Height}

-- P4: 8000 hex may stand in every cell, and reads as 0
pub negative_zero_lem : (voids : Bool) → (word_allowed voids negative_zero ≡ true) × (post_of negative_zero ≡ Height (pos 0))
unfolding word_allowed post_of height_of in_range
negative_zero_lem voids = (refl, refl)

-- a test beside one that holds
both_true : (b : Bool) → both b true ≡ b
both_true true = refl
both_true false = refl

-- heights up to 9,000 metres are in range, depths down to 12,000
pub up_in_range : (n : ℕ) → in_range (pos n) ≡ leb n 9000
unfolding in_range
up_in_range n = refl

pub down_in_range : (n : ℕ) → in_range (neg_ℤ (pos n)) ≡ leb n 12000
unfolding in_range
down_in_range zero = refl
down_in_range (suc n) = both_true (leb n 11999) ∙ sym (leb-suc-suc n 11999)

-- a word without its sign bit
pub up_post : (w : ℕ) → w < 0x8000 → post_of w ≡ Height (pos w)
unfolding post_of height_of
up_post w h = simp (ne_eqb w 0xFFFF (λ e. omega arith), lt-ltb w 0x8000 h)

pub up_allowed : (voids : Bool) (w : ℕ) → w < 0x8000 → word_allowed voids w ≡ leb w 9000
unfolding word_allowed height_of
up_allowed voids w h =
    simp (ne_eqb w 0xFFFF (λ e. omega arith), lt-ltb w 0x8000 h, up_in_range)

-- a word with its sign bit that is not void
pub down_post : (w : ℕ) → 0x8000 ≤ w → (w ≡ 0xFFFF → ⊥) → post_of w ≡ Height (neg_ℤ (pos (w - 0x8000)))
unfolding post_of height_of
down_post w h v = simp (ne_eqb w 0xFFFF v, le-ltb w 0x8000 h)

pub down_allowed : (voids : Bool) (w : ℕ)
    → 0x8000 ≤ w → (w ≡ 0xFFFF → ⊥) → word_allowed voids w ≡ leb (w - 0x8000) 12000
unfolding word_allowed height_of
down_allowed voids w h v =
    simp (ne_eqb w 0xFFFF v, le-ltb w 0x8000 h, down_in_range)

-- the word of a height, by its sign and its magnitude
pub word_down : (z : ℤ) → lt_z z (pos 0) ≡ true → 0x8000 + unsigned_abs z % 0x8000 ≡ word_of z
unfolding word_of
word_down (pos n) h = absurd (omega (arith, ltb-true n 0 h))
word_down (negsuc n) h = rw add-one

pub word_up : (z : ℤ) → lt_z z (pos 0) ≡ false → unsigned_abs z % 0x8000 ≡ word_of z
unfolding word_of
word_up (pos n) h = refl
word_up (negsuc n) h = absurd (true≢false h)

-- where voids are allowed counts for void alone
pub other_word : (a b : Bool) (w : ℕ) → (w ≡ 0xFFFF → ⊥) → word_allowed a w ≡ word_allowed b w
unfolding word_allowed
other_word a b w other = rw (ne_eqb w 0xFFFF other)
