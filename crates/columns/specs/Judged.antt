-- How a column is judged (rules C3, N4 to N6): places count from `base`, the column's offset in the file.
use Rattle.std.specs.Prelude.{ℕ, ◌+◌, ◌<◌, ◌≤◌, Bool, List, take, ◌==◌, slice_index, Result, Ok, Err, ⊤}
use Rattle.answers.specs.declared.Refusal.{Refusal}
use Rattle.octets.specs.Choice.{pick}
use Rattle.octets.specs.Scan.{first_bad}
use Rattle.octets.specs.Numbers.{number_at}
use Rattle.octets.specs.Sums.{sum_of}
use Rattle.posts.specs.Words.{word_allowed}
use Rattle.answers.specs.Told.{numbered, place_told}
use Rattle.answers.specs.declared.Refusal.TheVariants.{Preamble, Checksum, Word}
use Rattle.columns.specs.Column.{word_at, sum_at, word_in}

-- the second where the first is good
abbrev pub and_then : Result ⊤ Refusal → Result ⊤ Refusal → Result ⊤ Refusal
and_then (Ok tt) rest = rest
and_then (Err r) rest = Err r

-- C3, N4, N5: the preamble fields in their order, then the checksum
unfoldable pub head_of : List ℕ → ℕ → ℕ → ℕ → Result ⊤ Refusal
head_of s k posts base =
    pick (slice_index s 0 == 170)
    (pick (number_at s 1 3 == k)
    (pick (number_at s 4 2 == k)
    (pick (number_at s 6 2 == 0)
    (pick (number_at s (sum_at posts) 4 == sum_of (take (sum_at posts) s))
    (Ok tt)
    (Err (Checksum (base + sum_at posts))))
    (Err (Preamble (base + 6))))
    (Err (Preamble (base + 4))))
    (Err (Preamble (base + 1))))
    (Err (Preamble base))

-- N6: n words from post i on, up to the first that is not allowed
abbrev pub words_from : List ℕ → Bool → ℕ → ℕ → ℕ → Result ⊤ Refusal
words_from s voids base i n = first_bad (λ (j : ℕ). word_allowed voids (word_in s j)) (λ (j : ℕ). Err (Word (base + word_at j))) (Ok tt) i n

unfoldable pub judged_column : List ℕ → ℕ → ℕ → Bool → ℕ → Result ⊤ Refusal
judged_column s k posts voids base = and_then (head_of s k posts base) (words_from s voids base 0 posts)

-- refused, at a place from lo on and below hi
abbrev pub RefusedIn : ℕ → ℕ → Result ⊤ Refusal → Type 0
RefusedIn lo hi (Ok tt) = ⊥
RefusedIn lo hi (Err r) = (lo ≤ place_told (numbered r)) × (place_told (numbered r) < hi)
