-- The numbers given back (rules N1, N3 to N12, N17, N21 to N23), and what each answer tells: every promise of an entry point speaks through `told`.
use Rattle.std.specs.Prelude.{ℕ, List, [], ◌∷◌, ℤ, pos, nat_abs, get_or, Result, Ok, Err, ⊤}
use Rattle.answers.specs.declared.Located.{Located}
use Rattle.posts.specs.declared.Post.TheVariants as reads
use Rattle.posts.specs.declared.Post.{Post}
use Rattle.answers.specs.declared.Verdict.{Verdict}
use Rattle.answers.specs.declared.Refusal.{Refusal}
use Rattle.answers.specs.declared.Refusal.TheVariants as because
use Rattle.answers.specs.declared.Verdict.TheVariants as verdict

-- what a call says: a refusal, by a number of the table and its place; or else a tag, and values
pub data Told : Type 0 where
  refused : ℕ → ℕ → Told
  said : ℕ → List ℤ → Told

-- the next piece is due
abbrev pub more : Told
more = said 0 []

-- level, columns, posts to a column
abbrev pub accepted_tag : ℕ
accepted_tag = 1

abbrev pub accepted : ℕ → ℕ → ℕ → Told
accepted level columns posts = said accepted_tag (pos level ∷ pos columns ∷ pos posts ∷ [])

abbrev pub height : ℤ → Told
height z = said 2 (z ∷ [])

abbrev pub void : Told
void = said 3 []

-- column and post number, and the height or void there
abbrev pub height_at : ℕ → ℕ → ℤ → Told
height_at column post z = said 4 (pos column ∷ pos post ∷ z ∷ [])

abbrev pub void_at : ℕ → ℕ → Told
void_at column post = said 5 (pos column ∷ pos post ∷ [])

abbrev pub post_at : ℕ → ℕ → Post → Told
post_at column post (reads.Height z) = height_at column post z
post_at column post reads.Void = void_at column post

abbrev pub done : Told
done = said 6 []

-- a value by its place among those said; one that counts something is never below 0
abbrev pub value_at : List ℤ → ℕ → ℤ
value_at values i = get_or values i (pos 0)

abbrev pub count_at : List ℤ → ℕ → ℕ
count_at values i = nat_abs (value_at values i)

-- N1, N3 to N12, N17, N21 to N23: the number of each refusal, and its place
abbrev pub numbered : Refusal → Told
numbered (because.Short length) = refused 1 length
numbered (because.Cut offset) = refused 3 offset
numbered (because.Preamble offset) = refused 4 offset
numbered (because.Checksum offset) = refused 5 offset
numbered (because.Word offset) = refused 6 offset
numbered (because.Surplus due) = refused 7 due
numbered because.OffGrid = refused 8 0
numbered (because.Item item) = refused 9 item
numbered (because.GridLength due) = refused 10 due
numbered (because.Height index) = refused 11 index
numbered (because.Room due) = refused 12 due
numbered (because.Year named) = refused 17 named
numbered (because.FieldImpossible offset) = refused 21 offset
numbered (because.FieldContradicts offset) = refused 22 offset
numbered (because.FieldOffTable offset) = refused 23 offset

-- the number and the place that were told, 0 where nothing was refused
abbrev pub number_told : Told → ℕ
number_told (refused number place) = number
number_told (said tag values) = 0

abbrev pub place_told : Told → ℕ
place_told (refused number place) = place
place_told (said tag values) = 0

-- the kinds of answers, and the type of each
pub data Kind : Type 0 where
  intake : Kind
  post : Kind
  position : Kind
  act : Kind

abbrev pub Answer : Kind → Type 0
Answer intake = Result Verdict Refusal
Answer post = Result Post Refusal
Answer position = Result Located Refusal
Answer act = Result ⊤ Refusal

-- what an answer tells
abbrev pub told : (k : Kind) → Answer k → Told
told intake (Ok verdict.More) = more
told intake (Ok (verdict.Accepted level columns posts)) = accepted level columns posts
told intake (Err r) = numbered r
told post (Ok (reads.Height z)) = height z
told post (Ok reads.Void) = void
told post (Err r) = numbered r
told position (Ok found) = post_at found.column found.post found.reads
told position (Err r) = numbered r
told act (Ok _) = done
told act (Err r) = numbered r
