-- Post words: sign and magnitude, not complemented (rules P1 to P4).
use Rattle.std.specs.Prelude.{ℕ, zero, suc, ◌+◌, ◌-◌, Bool, true, List, ℤ, pos, neg_ℤ, ◌==◌, nat_lt}
use Rattle.octets.specs.Choice.{pick, both}
use Rattle.octets.specs.Numbers.{number_at}
use Rattle.octets.specs.Ranges.{between}
use Rattle.posts.specs.declared.Post.{Post}
use Rattle.posts.specs.declared.Post.TheVariants.{Height, Void}

-- P1: the high bit is the sign, the other fifteen the magnitude
unfoldable pub height_of : ℕ → ℤ
height_of w = pick (nat_lt w 0x8000) (pos w) (neg_ℤ (pos (w - 0x8000)))

-- P2: FFFF hex is void, every other word a height
unfoldable pub post_of : ℕ → Post
post_of w = pick (w == 0xFFFF) Void (Height (height_of w))

-- P3: heights run from -12,000 to 9,000
unfoldable pub in_range : ℤ → Bool
in_range z = between (neg_ℤ (pos 12000)) (pos 9000) z

-- P4: void is allowed where voids are, any other word where its height is in range
unfoldable pub word_allowed : Bool → ℕ → Bool
word_allowed voids w = pick (w == 0xFFFF) voids (in_range (height_of w))

-- P4: each of n words of s, from `at` on, is allowed
unfoldable pub words_allowed : Bool → List ℕ → ℕ → ℕ → Bool
words_allowed voids s at zero = true
words_allowed voids s at (suc n) = both (word_allowed voids (number_at s at 2)) (words_allowed voids s (at + 2) n)

-- P4, P6: a sign without magnitude, the second word of height 0, which is read and never written
abbrev pub negative_zero : ℕ
negative_zero = 0x8000
