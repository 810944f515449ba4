-- What an allowed word reads as.
use Rattle.std.proofs.Common.{◌≡◌, ℕ, suc, ◌-◌, Bool, true, ℤ, pos, negsuc, ◌∙◌, arith, le-leb}
use Rattle.posts.specs.Words.{post_of, in_range, word_allowed, negative_zero}
use Rattle.posts.specs.declared.Post.{Post}
use Rattle.posts.specs.declared.Post.TheVariants.{Height, Void}
use Rattle.posts.proofs.PostWords.{up_in_range, down_in_range, up_post, down_post}
use Rattle.posts.proofs.Pairs.{Pair, up, down, second_zero, pair_of_word}
use Rattle.posts.proofs.Pairs as pairs

-- a height in range, or void where voids are allowed
pub data Reads (voids : Bool) : Post → Type 0 where
  height : (z : ℤ) → in_range z ≡ true → Reads voids (Height z)
  void : voids ≡ true → Reads voids Void

of_pair : {voids : Bool} {w : ℕ} {z : ℤ} → Pair voids w z → Reads voids (post_of w)
unfolding post_of
of_pair (pairs.void v) = void v
of_pair (up n h) = rw (up_post n (omega arith)) (height (pos n) (up_in_range n ∙ le-leb n 9000 h))
of_pair (down w n e h) =
    let m : w - 0x8000 ≡ suc n = omega arith in
    rw (down_post w (omega arith) (λ q. omega arith), m) (height (negsuc n) (down_in_range (suc n) ∙ le-leb (suc n) 12000 h))
of_pair second_zero = rw (down_post negative_zero (omega arith) (λ q. omega arith)) (height (pos 0) (up_in_range 0))

-- an allowed word reads as one of the two
pub reads : (voids : Bool) (w : ℕ) → word_allowed voids w ≡ true → Reads voids (post_of w)
reads voids w a = of_pair (pair_of_word voids w a)
