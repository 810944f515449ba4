-- An answer taken apart as the functions of include/dted.h do, and what its bits can hold (rule B4).
use Rattle.std.specs.Prelude.{ℕ, suc, ◌-◌, ◌/◌, ◌%◌, ◌<◌, Bool, eqb, ltb, ℤ, pos, negsuc, neg_ℤ}
use Rattle.octets.specs.Choice.{pick}
use Rattle.answers.specs.Told as told
use Rattle.posts.specs.Heights.{void_depth}
use Rattle.posts.specs.Heights as posts

-- dted_number and dted_place
abbrev pub number_in : ℕ → ℕ
number_in r = r / 72057594037927936

abbrev pub place_in : ℕ → ℕ
place_in r = r % 72057594037927936

-- dted_holds: the number above, which is 0 where it is no refusal, and what is held
abbrev pub held_in : ℕ → ℕ
held_in r = r / 281474976710656

-- values of 16 bits: dted_level or dted_position_column; dted_columns or dted_position_post; dted_posts
abbrev pub first_in : ℕ → ℕ
first_in r = r / 4294967296 % 65536

abbrev pub second_in : ℕ → ℕ
second_in r = r / 65536 % 65536

abbrev pub third_in : ℕ → ℕ
third_in r = r % 65536

-- 16 bits as a height, in two's complement
abbrev pub height_of : ℕ → ℤ
height_of word = pick (ltb word 32768) (pos word) (neg_ℤ (pos (65536 - word)))

-- DTED_VOID among them
abbrev pub is_void : ℕ → Bool
is_void word = posts.is_void (height_of word)

-- dted_height
abbrev pub height_in : ℕ → ℤ
height_in r = height_of (third_in r)

-- what an answer that is no refusal says, by what it holds and its three values
abbrev pub saying : ℕ → ℕ → ℕ → ℕ → told.Told
saying what a b c =
    pick (eqb what 1)
    (told.accepted a b c)
    (pick (eqb what 2)
    (pick (is_void c) told.void (told.height (height_of c)))
    (pick (eqb what 3)
    (pick (is_void c) (told.void_at a b) (told.height_at a b (height_of c)))
    told.done))

-- B4: what an answer says
unfoldable pub told_in : ℕ → told.Told
told_in r = pick (eqb (number_in r) 0) (saying (held_in r) (first_in r) (second_in r) (third_in r)) (told.refused (number_in r) (place_in r))

-- a height of 16 bits that is not void's number. `negsuc n` is -(n + 1)
abbrev pub FitsHeight : ℤ → Type 0
FitsHeight (pos n) = n < 32768
FitsHeight (negsuc n) = suc n < void_depth

-- 8 bits for a number, 56 for a place, 16 for each value; no call of a C host answers "more"
pub data Fits : told.Told → Type 0 where
  refused : (number place : ℕ) → 0 < number → number < 256 → place < 72057594037927936 → Fits (told.refused number place)
  accepted : (level columns posts : ℕ) → level < 65536 → columns < 65536 → posts < 65536 → Fits (told.accepted level columns posts)
  height : (z : ℤ) → FitsHeight z → Fits (told.height z)
  void : Fits told.void
  height_at : (column post : ℕ) (z : ℤ) → column < 65536 → post < 65536 → FitsHeight z → Fits (told.height_at column post z)
  void_at : (column post : ℕ) → column < 65536 → post < 65536 → Fits (told.void_at column post)
  done : Fits told.done
