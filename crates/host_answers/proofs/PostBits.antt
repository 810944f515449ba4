-- The bits of a height, and what is packed of a post that was read.
use Rattle.std.proofs.Common.{◌≡◌, refl, ℕ, ℤ, pos, negsuc, Ok, arith}
use mir.Val.{of_z, SFits}
use mir.Syntax.{w16}
use Rattle.posts.specs.declared.Post.{Post}
use Rattle.posts.specs.declared.Post.TheVariants.{Height, Void}
use Rattle.answers.specs.Told.{told, post, post_at}
use Rattle.host_answers.specs.Packed.{bits, post_bits, a_height, a_position, holding, packed}

-- the same number, without its sign
pub unsigned_bits : (z : ℤ) → SFits w16 z → of_z w16 z ≡ bits z
unsigned_bits (pos n) f = omega (arith, f.sfits)
unsigned_bits (negsuc n) f = omega (arith, f.sfits)

pub packed_post : (q : Post) → holding a_height 0 0 (post_bits q) ≡ packed (told post (Ok q))
unfolding packed
packed_post (Height z) = refl
packed_post Void = refl

pub packed_post_at : (c p : ℕ) (q : Post) → holding a_position c p (post_bits q) ≡ packed (post_at c p q)
unfolding packed
packed_post_at c p (Height z) = refl
packed_post_at c p Void = refl
