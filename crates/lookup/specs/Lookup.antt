-- Lookup of one post (rule L1): its height or void, or why it was not reached.
use Rattle.std.specs.Prelude.{ℕ, List, ℤ, Result, Ok, Err}
use Rattle.lookup.specs.declared.reach.Spot.{Spot}
use Rattle.answers.specs.declared.Refusal.{Refusal}
use Rattle.octets.specs.Choice.{pick}
use Rattle.answers.specs.Told.{Told, told, post, height, void}
use Rattle.years.specs.declared.Year.{Year}
use Rattle.posts.specs.Words.{post_of}
use Rattle.posts.specs.Heights.{is_void}
use Rattle.posts.specs.declared.Post.{Post}
use Rattle.lookup.specs.Reach.{reached}

-- P2: what a post reads as that was reached, or not
abbrev pub reading_of : Result Spot Refusal → Result Post Refusal
reading_of (Ok spot) = Ok (post_of spot.word)
reading_of (Err r) = Err r

-- a height in the writer's form, as a lookup says it
abbrev pub height_said : ℤ → Told
height_said z = pick (is_void z) void (height z)

unfoldable pub looked_up : Year → List ℕ → ℕ → ℕ → Told
looked_up year s c p = told post (reading_of (reached year s c p))
