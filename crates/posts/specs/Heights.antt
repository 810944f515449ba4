-- Heights in the writer's form: metres, and one number for void (rules P5 and P6).
use Rattle.std.specs.Prelude.{ℕ, ◌+◌, ◌%◌, Bool, ℤ, pos, negsuc, neg_ℤ}
use Rattle.octets.specs.Choice.{pick}
use Rattle.octets.specs.Ranges.{between}
use Rattle.posts.specs.Words.{post_of, in_range}
use Rattle.posts.specs.declared.Post.{Post}
use Rattle.posts.specs.declared.Post.TheVariants.{Height, Void}

-- P5: void is -32767, which no height is
abbrev pub void_depth : ℕ
void_depth = 32767

abbrev pub void_number : ℤ
void_number = neg_ℤ (pos void_depth)

-- P5: a post in the writer's form
abbrev pub form_of : Post → ℤ
form_of (Height z) = z
form_of Void = void_number

-- what a word says, in the writer's form
abbrev pub said_by : ℕ → ℤ
said_by w = form_of (post_of w)

-- the writer's form of void, and no other
abbrev pub is_void : ℤ → Bool
is_void z = between void_number void_number z

-- P5: what a cell may be given, where voids are allowed or not
unfoldable pub height_allowed : Bool → ℤ → Bool
height_allowed voids z = pick (is_void z) voids (in_range z)

-- P6: the word of a height, sign and magnitude in fifteen bits; void's number gives FFFF hex. `negsuc n` is -(n + 1)
unfoldable pub word_of : ℤ → ℕ
word_of (pos n) = n % 0x8000
word_of (negsuc n) = 0x8000 + (n + 1) % 0x8000
