-- The edit of one post under a year (rules E1 to E3): what a lookup judges in its order, then 11.
use Rattle.std.specs.Prelude.{ℕ, List, ℤ, take, drop, Result, Ok, Err, ⊤}
use Rattle.answers.specs.declared.Refusal.{Refusal}
use Rattle.octets.specs.Choice.{pick}
use Rattle.octets.specs.Pastes.{pasted}
use Rattle.answers.specs.Told.{Told, told, act}
use Rattle.answers.specs.declared.Refusal.TheVariants.{Height}
use Rattle.years.specs.declared.Year.{Year}
use Rattle.layout.specs.Levels.{column_bytes}
use Rattle.layout.specs.declared.Frame.{Frame}
use Rattle.posts.specs.Heights.{height_allowed, word_of}
use Rattle.column_edit.specs.Stored.{stored}
use Rattle.lookup.specs.Reach.{reached_in, reached}
use Rattle.lookup.specs.declared.reach.Spot.{Spot}

-- N11: a reached post may be given the height, or not
abbrev pub judged_at : Result Spot Refusal → ℤ → Result ⊤ Refusal
judged_at (Ok spot) z = pick (height_allowed spot.voids z) (Ok tt) (Err (Height 0))
judged_at (Err r) z = Err r

-- E1: the order of the call
unfoldable pub judged_edit : Year → List ℕ → ℕ → ℕ → ℤ → Result ⊤ Refusal
judged_edit year s c p z = judged_at (reached year s c p) z

-- E2: post p of the spot's column stored anew, in that column's part of the cell
unfoldable pub stored_in : List ℕ → Spot → ℕ → ℤ → List ℕ
stored_in s spot p z = pasted s spot.start (stored (take (column_bytes spot.posts) (drop spot.start s)) spot.posts p (word_of z))

abbrev pub edited_at : Result Spot Refusal → List ℕ → ℕ → ℤ → List ℕ
edited_at (Ok spot) s p z = pick (height_allowed spot.voids z) (stored_in s spot p z) s
edited_at (Err r) s p z = s

-- the same of a post under a frame, with no word about headers
abbrev pub judged_in : List ℕ → Frame → ℕ → ℕ → ℤ → Result ⊤ Refusal
judged_in s f c p z = judged_at (reached_in s f c p) z

abbrev pub edited_in : List ℕ → Frame → ℕ → ℕ → ℤ → List ℕ
edited_in s f c p z = edited_at (reached_in s f c p) s p z

-- what is told of the call, and the bytes at its end
unfoldable pub edit_told : Year → List ℕ → ℕ → ℕ → ℤ → Told
edit_told year s c p z = told act (judged_edit year s c p z)

unfoldable pub edited : Year → List ℕ → ℕ → ℕ → ℤ → List ℕ
edited year s c p z = edited_at (reached year s c p) s p z
