-- What every writer judges of what it is given, from whatever source, and of the output: 10, 11, then 12 (rules N10 to N12).
use Rattle.std.specs.Prelude.{ℕ, Bool, true, false, List, ◌++◌, length, drop, leb, Result, Ok, Err, ⊤}
use Rattle.answers.specs.declared.Refusal.{Refusal}
use Rattle.octets.specs.Choice.{pick}
use Rattle.octets.specs.Scan.{first_bad}
use Rattle.posts.specs.Heights.{height_allowed}
use Rattle.sources.specs.Heights.{Heights, nth_height, counts}
use Rattle.answers.specs.declared.Refusal.TheVariants.{GridLength, Height, Room}

-- N11: the first of n heights, from height `from` on, that may not be held; else the rest
abbrev pub heights_from_then : Bool → Heights → ℕ → ℕ → Result ⊤ Refusal → Result ⊤ Refusal
heights_from_then voids g from n rest = first_bad (λ (i : ℕ). height_allowed voids (nth_height g i)) (λ (i : ℕ). Err (Height i)) rest from n

-- and from the first height on
unfoldable pub heights_then : Bool → Heights → ℕ → Result ⊤ Refusal → Result ⊤ Refusal
heights_then voids g n rest = heights_from_then voids g 0 n rest

-- each of n heights, from height `from` on, may be held
unfoldable pub heights_allowed : Bool → Heights → ℕ → ℕ → Bool
heights_allowed voids g from n = first_bad (λ (i : ℕ). height_allowed voids (nth_height g i)) (λ (i : ℕ). false) true from n

-- N12: room for so many bytes
unfoldable pub room_for : ℕ → ℕ → Result ⊤ Refusal
room_for due room = pick (leb due room) (Ok tt) (Err (Room due))

-- N10, N11, N12: so many posts and so many bytes are due
unfoldable pub judged_posts : ℕ → ℕ → Bool → Heights → ℕ → Result ⊤ Refusal
judged_posts posts due voids g room = pick (counts g posts) (heights_then voids g posts (room_for due room)) (Err (GridLength posts))

-- W4, N15: the output begins with what was written, and is as it was past that; where the call was refused, it is as it was
abbrev pub output_after : Result ⊤ Refusal → List ℕ → List ℕ → List ℕ
output_after (Ok tt) written out = written ++ drop (length written) out
output_after (Err r) written out = out
