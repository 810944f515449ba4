-- What a lookup says of a word: what the word says, in the writer's form.
use Rattle.std.specs.Prelude.{Ok}
use Prim.Native.Nat.{ℕ, zero, suc, ◌-◌}
use native.Mathlib.Omega.{arith}
use native.Mathlib.Decide.{ℕ_discrete, dec_lt}
use mathlib.Core.Path.{◌≡◌, refl, ap, ◌∙◌}
use mathlib.Core.Bool.{Bool, true, false}
use lib.IntN.{ℤ, pos, neg_ℤ}
use Rattle.answers.specs.Told.{told, post}
use Rattle.posts.specs.Words.{post_of}
use Rattle.posts.specs.Heights.{void_depth, is_void, height_allowed, word_of, said_by}
use Rattle.posts.proofs.PostWords.{up_post, down_post}
use Rattle.posts.proofs.RoundTrip.{height_back}
use Rattle.posts.proofs.Voids.{not_void}
use Rattle.lookup.specs.Lookup.{height_said}

below_void : (m : ℕ) → (m ≡ void_depth → ⊥) → is_void (neg_ℤ (pos m)) ≡ false
below_void zero h = refl
below_void (suc n) h = not_void (neg_ℤ (pos (suc n))) (λ q. let k : n ≡ void_depth - 1 = cc in h (omega arith))

pub said : (w : ℕ) → told post (Ok (post_of w)) ≡ height_said (said_by w)
unfolding post_of
said w =
    elim (ℕ_discrete w 0xFFFF) [
      | yes e ↦ rw e
      | no v ↦
          elim (dec_lt w 0x8000) [
            | yes h ↦ rw (up_post w h)
            | no h ↦ rw (down_post w (omega arith) v, below_void (w - 0x8000) (λ q. v (omega arith)))
          ]
    ]

-- and of the word that was written for a height
pub said_of_word : (voids : Bool) (z : ℤ) → height_allowed voids z ≡ true → told post (Ok (post_of (word_of z))) ≡ height_said z
said_of_word voids z a = said (word_of z) ∙ ap height_said (height_back voids z a)
