-- The bytes of a column, for any number of posts (rules C1 to C4).
use Rattle.std.specs.Prelude.{◌≡◌, ℕ, ◌+◌, ◌*◌, ◌<◌, Bool, true, List, [], ◌∷◌, ◌++◌, map, length, take, ℤ, ◌≢◌, slice_index, slice_index_or}
use Rattle.octets.specs.Numbers.{number_at, bytes_of, bytes_of_words}
use Rattle.octets.specs.Sums.{sum_of}
use Rattle.octets.specs.Parts.{listed}
use Rattle.layout.specs.Levels.{column_bytes}
use Rattle.posts.specs.Words.{word_allowed, negative_zero}
use Rattle.posts.specs.Heights.{word_of, said_by}

-- C1, C2: sentinel, block count, longitude count and latitude count of column k
unfoldable pub preamble : ℕ → List ℕ
preamble k = (170 ∷ []) ++ bytes_of 3 k ++ bytes_of 2 k ++ bytes_of 2 0

-- C4: bytes, and after them their checksum
unfoldable pub sealed : List ℕ → List ℕ
sealed body = body ++ bytes_of 4 (sum_of body)

-- C1: column k of these words, south first, whatever they say
unfoldable pub column_of_words : ℕ → List ℕ → List ℕ
column_of_words k ws = sealed (preamble k ++ bytes_of_words ws)

-- and of heights: the writer's word of each
abbrev pub words_of : List ℤ → List ℕ
words_of zs = map word_of zs

abbrev pub column_of : ℕ → List ℤ → List ℕ
column_of k zs = column_of_words k (words_of zs)

-- where the word of post i stands in its column, and where the checksum does
abbrev pub word_at : ℕ → ℕ
word_at i = 8 + 2 * i

abbrev pub sum_at : ℕ → ℕ
sum_at posts = 8 + 2 * posts

-- the word of post i
abbrev pub word_in : List ℕ → ℕ → ℕ
word_in s i = number_at s (word_at i) 2

-- the words of a column's posts, and what they say
abbrev pub words_in : List ℕ → ℕ → List ℕ
words_in s posts = listed (word_in s) posts

abbrev pub heights_in : List ℕ → ℕ → List ℤ
heights_in s posts = map said_by (words_in s posts)

-- C1, C2: each field of the preamble is that of column k
pub record PreambleRight (s : List ℕ) (k : ℕ) : Type 0 where
  pub sentinel : slice_index_or s 0 0 ≡ 170
  pub block : number_at s 1 3 ≡ k
  pub longitude : number_at s 4 2 ≡ k
  pub latitude : number_at s 6 2 ≡ 0

-- C4: the checksum of so many posts is the sum of what stands before it
abbrev pub Summed : List ℕ → ℕ → Type 0
Summed s posts = number_at s (sum_at posts) 4 ≡ sum_of (take (sum_at posts) s)

-- C1, C2, C4: preamble and checksum are right, whatever the words are
pub record Sealed (s : List ℕ) (k posts : ℕ) : Type 0 where
  pub preamble : PreambleRight s k
  pub checksum : Summed s posts

-- C1 to C4, P4: the bytes are a good column k
pub record GoodColumn (s : List ℕ) (k posts : ℕ) (voids : Bool) : Type 0 where
  pub long : length s ≡ column_bytes posts
  pub right : Sealed s k posts
  pub words : (i : ℕ) → i < posts → word_allowed voids (word_in s i) ≡ true

-- P4: each of a list of words may stand where voids are allowed or not
abbrev pub Allowed : Bool → List ℕ → Type 0
Allowed voids ws = (i : ℕ) → i < length ws → word_allowed voids (slice_index ws i) ≡ true

-- P4, P6: none of a list of words is 8000 hex; where they are allowed too, each is the writer's
abbrev pub Plain : List ℕ → Type 0
Plain ws = (i : ℕ) → i < length ws → slice_index ws i ≢ negative_zero
