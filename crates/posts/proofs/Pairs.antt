-- The words that a cell may hold beside the heights that it may be given: to each word its height.
use Rattle.std.proofs.Common.{◌≡◌, ℕ, suc, ◌+◌, ◌-◌, ◌%◌, ◌<◌, ◌≤◌, Bool, true, ℤ, pos, negsuc, sym, refl, ◌∙◌, mod-eq_of_lt, arith, le-leb, leb-true}
use native.Mathlib.Decide.{ℕ_discrete, dec_lt}
use Rattle.posts.specs.Words.{height_of, post_of, in_range, word_allowed, negative_zero}
use Rattle.posts.specs.Heights.{void_depth, void_number, form_of, height_allowed, word_of}
use Rattle.posts.proofs.PostWords.{up_in_range, down_in_range, up_post, down_post, up_allowed, down_allowed}
use Rattle.posts.proofs.Voids.{not_void}

-- an allowed word, and its height in the writer's form
pub data Pair (voids : Bool) : ℕ → ℤ → Type 0 where
  void : voids ≡ true → Pair voids 0xFFFF void_number
  up : (n : ℕ) → n ≤ 9000 → Pair voids n (pos n)
  down : (w n : ℕ) → w ≡ 0x8001 + n → n < 12000 → Pair voids w (negsuc n)
  second_zero : Pair voids negative_zero (pos 0)

-- in a pair the height gives the word, unless that is the one which no writer puts
pub word_of_pair : {voids : Bool} {w : ℕ} {z : ℤ} → Pair voids w z → (w ≡ negative_zero → ⊥) → word_of z ≡ w
unfolding word_of
word_of_pair (void v) other = refl
word_of_pair (up n h) other = mod-eq_of_lt (omega arith)
word_of_pair (down w n e h) other = omega arith
word_of_pair second_zero other = absurd (other refl)

-- and no height's word is that one
pub written_other : {voids : Bool} {w : ℕ} {z : ℤ} → Pair voids w z → word_of z ≡ negative_zero → ⊥
unfolding word_of
written_other (void v) e = omega arith
written_other (up n h) e = omega arith
written_other (down w n d h) e = omega arith
written_other second_zero e = omega arith

-- the word gives the height
pub form_of_pair : {voids : Bool} {w : ℕ} {z : ℤ} → Pair voids w z → form_of (post_of w) ≡ z
unfolding post_of height_of
form_of_pair (void v) = refl
form_of_pair (up n h) = rw (up_post n (omega arith))
form_of_pair (down w n e h) =
    let m : w - 0x8000 ≡ suc n = omega arith in
    rw (down_post w (omega arith) (λ q. omega arith), m)
form_of_pair second_zero = refl

-- both are allowed
pub word_in_pair : {voids : Bool} {w : ℕ} {z : ℤ} → Pair voids w z → word_allowed voids w ≡ true
unfolding word_allowed
word_in_pair (void v) = v
word_in_pair {voids = voids} (up n h) = up_allowed voids n (omega arith) ∙ le-leb n 9000 h
word_in_pair {voids = voids} (down w n e h) =
    down_allowed voids w (omega arith) (λ q. omega arith) ∙ le-leb (w - 0x8000) 12000 (omega arith)
word_in_pair {voids = voids} second_zero = down_allowed voids negative_zero (omega arith) (λ q. omega arith)

pub height_in_pair : {voids : Bool} {w : ℕ} {z : ℤ} → Pair voids w z → height_allowed voids z ≡ true
unfolding height_allowed
height_in_pair (void v) = v
height_in_pair (up n h) = up_in_range n ∙ le-leb n 9000 h
height_in_pair (down w n e h) =
    rw (not_void (negsuc n) (λ q. let m : n ≡ void_depth - 1 = cc in omega arith)) (down_in_range (suc n) ∙ le-leb (suc n) 12000 h)
height_in_pair second_zero = up_in_range 0

-- every allowed word has its height
pub pair_of_word : (voids : Bool) (w : ℕ) → word_allowed voids w ≡ true → Pair voids w (form_of (post_of w))
unfolding word_allowed post_of height_of
pair_of_word voids w a =
    elim (ℕ_discrete w 0xFFFF) [
      | yes e ↦ rw e (void (rw e at a))
      | no v ↦
          elim (dec_lt w 0x8000) [
            | yes h ↦ rw (up_post w h) (up w (leb-true w 9000 (sym (up_allowed voids w h) ∙ a)))
            | no h ↦
                elim (ℕ_discrete w 0x8000) [
                  | yes e ↦ rw e second_zero
                  | no o ↦
                      let m : w - 0x8000 ≡ suc (w - 0x8001) = omega arith in
                      let k : w - 0x8000 ≤ 12000 = leb-true (w - 0x8000) 12000 (sym (down_allowed voids w (omega arith) v) ∙ a) in
                      rw (down_post w (omega arith) v, m) (down w (w - 0x8001) (omega arith) (omega arith))
                ]
          ]
    ]

-- every allowed height has its word
pub pair_of_height : (voids : Bool) (z : ℤ) → height_allowed voids z ≡ true → Pair voids (word_of z) z
unfolding height_allowed word_of
pair_of_height voids (pos n) a =
    let h : n ≤ 9000 = leb-true n 9000 (sym (up_in_range n) ∙ a) in
    rw (mod-eq_of_lt {n = n} {m = 0x8000} (omega arith)) (up n h)
pair_of_height voids (negsuc n) a =
    elim (ℕ_discrete n (void_depth - 1)) [
      | yes e ↦ rw e (void (rw e at a))
      | no v ↦
          let r : in_range (negsuc n) ≡ true = rw (not_void (negsuc n) (λ q. let m : n ≡ void_depth - 1 = cc in v m)) at a in
          let h : suc n ≤ 12000 = leb-true (suc n) 12000 (sym (down_in_range (suc n)) ∙ r) in
          down (0x8000 + (n + 1) % 0x8000) n (omega arith) h
    ]
