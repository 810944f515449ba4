-- An answer as one number of 64 bits (rule B4): a refusal's number in the top 8 bits and its place in the other 56; or 0, what the
-- answer holds, and three values.
use Rattle.std.specs.Prelude.{ℕ, ◌+◌, ◌-◌, ◌*◌, ◌%◌, List, [], ◌∷◌, ℤ, pos, negsuc, get_or}
use Rattle.answers.specs.Told.{Told, refused, said, value_at, count_at}
use Rattle.posts.specs.Heights.{void_number}
use Rattle.posts.specs.declared.Post.{Post}
use Rattle.posts.specs.declared.Post.TheVariants.{Height, Void}

-- 16 bits of a number; of one below 0, in two's complement. `negsuc n` is -(n + 1)
abbrev pub bits : ℤ → ℕ
bits (pos n) = n % 65536
bits (negsuc n) = 65535 - n % 65536

-- void, as a height of a C host
abbrev pub void_bits : ℕ
void_bits = bits void_number

-- the 16 bits of what a post reads as
abbrev pub post_bits : Post → ℕ
post_bits (Height z) = bits z
post_bits Void = void_bits

-- what an answer that is no refusal holds: nothing, which is 0; a grid; a height; a position, which is a post with its height
abbrev pub a_grid : ℕ
a_grid = 1

abbrev pub a_height : ℕ
a_height = 2

abbrev pub a_position : ℕ
a_position = 3

-- what is held, and three values beside it
pub data Held : Type 0 where
  holds : ℕ → ℕ → ℕ → ℕ → Held

abbrev pub nothing : Held
nothing = holds 0 0 0 0

-- 8 bits that say what is held, and three values of 16 bits, the first one highest
abbrev pub holding : ℕ → ℕ → ℕ → ℕ → ℕ
holding what a b c = what % 256 * 281474976710656 + a % 65536 * 4294967296 + b % 65536 * 65536 + c % 65536

abbrev pub packed_held : Held → ℕ
packed_held (holds what a b c) = holding what a b c

-- a refusal: its number and its place, each in its bits; that none is cut is shown of each call, in `demands`
abbrev pub refusal : ℕ → ℕ → ℕ
refusal number place = number % 256 * 72057594037927936 + place % 72057594037927936

-- what an answer with these values holds, in the order of the tags: more, accepted, height, void, height_at, void_at, done
abbrev pub held_by : List ℤ → List Held
held_by values =
    nothing
    ∷ holds a_grid (count_at values 0) (count_at values 1) (count_at values 2)
    ∷ holds a_height 0 0 (bits (value_at values 0))
    ∷ holds a_height 0 0 void_bits
    ∷ holds a_position (count_at values 0) (count_at values 1) (bits (value_at values 2))
    ∷ holds a_position (count_at values 0) (count_at values 1) void_bits
    ∷ nothing
    ∷ []

-- B4: level, columns and posts; a height, or void's number; column, post and height; or nothing
unfoldable pub packed : Told → ℕ
packed (refused number place) = refusal number place
packed (said tag values) = packed_held (get_or (held_by values) tag nothing)
