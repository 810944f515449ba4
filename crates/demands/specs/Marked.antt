-- The marked examples (rules M1 to M20): what is given, what it is, and what the definitions make of it.
use Rattle.std.specs.Prelude.{ℕ, ◌+◌, ◌*◌, true, false, List, [], ◌∷◌, map, ℤ, pos, neg_ℤ, length, drop, replicate, Option, Some, None}
use Rattle.position.specs.declared.Corner.{Corner}
use Rattle.octets.specs.Choice.{pick}
use Rattle.answers.specs.Told.{Told}
use Rattle.answers.specs.Told as telling
use Rattle.years.specs.Years.{named_of, by_named, under}
use Rattle.years.specs.declared.Year.{Year}
use Rattle.layout.specs.Zones.{edge_of}
use Rattle.layout.specs.Grid.{longitude_interval, columns_of, cell_bytes, grid_of}
use Rattle.columns.specs.Column.{sealed, column_of, heights_in, word_at, sum_at}
use Rattle.headers.specs.Judged.{voids_allowed}
use Rattle.headers.specs.declared.Facts.{Facts}
use Rattle.posts.specs.Words.{word_allowed, post_of}
use Rattle.posts.specs.declared.Post.{Post}
use Rattle.posts.specs.declared.Post.TheVariants.{Height, Void}
use Rattle.layout.specs.Levels.{degree}
use Rattle.lookup.specs.declared.reach.Spot.{Spot}
use Rattle.edit.specs.Edit.{stored_in}
use Rattle.position.specs.Position.{south_west, nearest_column, nearest_post}
use Rattle.dted.specs.Grid.{from_south}

-- a whole-degree latitude, north or south
abbrev pub north : ℕ → ℤ
north degrees = pos degrees

abbrev pub south : ℕ → ℤ
south degrees = neg_ℤ (pos degrees)

-- the near edge of a cell whose origin lies there, by the one definition that every call's grid is laid out with
abbrev pub edge_at : ℤ → ℕ
edge_at latitude = edge_of (from_south latitude)

-- what an example is about
pub data Input : Type 0 where
  -- the longitude interval, the columns, the cell's bytes of a level and an origin latitude
  interval : ℕ → ℤ → Input
  columns : ℕ → ℤ → Input
  bytes : ℕ → ℤ → Input
  -- a post word, in a cell that may hold voids
  word : ℕ → Input
  -- the checksum after these bytes, and of the column with this number and these heights
  checksum : List ℕ → Input
  column : ℕ → List ℤ → Input
  -- these bytes and their checksum as a column of so many posts, with this post edited to this height: its words then, and its checksum
  edited : List ℕ → ℕ → ℕ → ℤ → Input
  -- the same, written afresh from what the posts then say
  afresh : List ℕ → ℕ → ℕ → ℤ → Input
  -- the post nearest a position, in tenths north and east of an origin so many degrees north and east
  nearest : ℕ → ℕ → ℕ → ℕ → ℕ → Input
  -- a void under the year that is named, in a cell of this level and partial indicator
  void_under : ℕ → ℕ → ℕ → Input

-- what it is
pub data Is : Type 0 where
  number : ℕ → Is
  metres : ℤ → Is
  void : Is
  refused : Is
  octets : List ℕ → Is
  -- column and post
  post : ℕ → ℕ → Is
  -- a refusal's number and place
  told : ℕ → ℕ → Is

abbrev pub post_is : Post → Is
post_is (Height z) = metres z
post_is Void = void

abbrev pub told_is : Told → Is
told_is (telling.refused n place) = told n place
told_is (telling.said tag values) = refused

-- a cell of this level, its origin so many degrees north and east, with this partial indicator
abbrev pub cell_at : ℕ → ℕ → ℕ → ℕ → Facts
cell_at level up right partial = record {
  grid = grid_of level (edge_of (90 + up));
  latitude = 90 + up;
  longitude = 180 + right;
  partial = partial;
}

abbrev pub nearest_is : Facts → Option Corner → Is
nearest_is f (Some k) = post (nearest_column f.grid k) (nearest_post f.grid k)
nearest_is f None = refused

-- a post of a column that begins where the bytes do
abbrev pub spot_of : ℕ → Spot
spot_of posts = record { start = 0; posts = posts; voids = false; word = 0 }

-- that column, with post p edited
abbrev pub edited_column : List ℕ → ℕ → ℕ → ℤ → List ℕ
edited_column body posts p z = stored_in (sealed body) (spot_of posts) p z

-- what the definitions make of what is given
unfoldable pub made : Input → Is
made (interval level latitude) = number (longitude_interval level (edge_at latitude))
made (columns level latitude) = number (columns_of level (edge_at latitude))
made (bytes level latitude) = number (cell_bytes level (edge_at latitude))
made (checksum body) = octets (drop (length body) (sealed body))
made (column k zs) = octets (drop (sum_at (length zs)) (column_of k zs))
made (edited body posts p z) = octets (drop (word_at 0) (edited_column body posts p z))
made (afresh body posts p z) = octets (drop (word_at 0) (column_of 0 (heights_in (edited_column body posts p z) posts)))
made (nearest level up right northward eastward) =
    nearest_is (cell_at level up right 0) (south_west (cell_at level up right 0) (pos (up * degree + northward)) (pos (right * degree + eastward)))
made (word w) = pick (word_allowed true w) (post_is (post_of w)) refused
made (void_under n level partial) =
    by_named (named_of n)
    (told_is (under n (λ (year : Year). telling.done)))
    (λ (year : Year). pick (word_allowed (voids_allowed year (cell_at level 0 0 partial)) 0xFFFF) (post_is (post_of 0xFFFF)) refused)

-- a row of the table
pub record Example : Type 0 where
  pub mark : ℕ
  pub input : Input
  pub is : Is

abbrev pub m : ℕ → Input → Is → Example
m mark input is = record { mark = mark; input = input; is = is }

-- the bytes of M9
abbrev pub m9 : List ℕ
m9 = 0xAA ∷ 0 ∷ 0 ∷ 0 ∷ 0 ∷ 0 ∷ 0 ∷ 0 ∷ 0x23 ∷ 0x28 ∷ []

-- those of M14: column 0, its first post stored as 8000 hex
abbrev pub sea : List ℕ
sea = 0xAA ∷ 0 ∷ 0 ∷ 0 ∷ 0 ∷ 0 ∷ 0 ∷ 0 ∷ 0x80 ∷ 0 ∷ 0 ∷ 5 ∷ []

abbrev pub table : List Example
table =
    m 1 (interval 1 (north 49)) (number 30)
    ∷ m 1 (columns 1 (north 49)) (number 1201)
    ∷ m 2 (interval 1 (north 50)) (number 60)
    ∷ m 2 (columns 1 (north 50)) (number 601)
    ∷ m 3 (columns 1 (south 50)) (number 1201)
    ∷ m 4 (columns 1 (south 51)) (number 601)
    ∷ m 5 (interval 0 (north 89)) (number 1800)
    ∷ m 5 (bytes 0 (north 89)) (number 8762)
    ∷ m 6 (word 0x2328) (metres (pos 9000))
    ∷ m 6 (word 0x2329) refused
    ∷ m 7 (word 0xAEE0) (metres (neg_ℤ (pos 12000)))
    ∷ m 7 (word 0xAEE1) refused
    ∷ m 8 (word 0x8001) (metres (neg_ℤ (pos 1)))
    ∷ m 8 (word 0xFFFF) void
    ∷ m 9 (checksum m9) (octets (0 ∷ 0 ∷ 0 ∷ 0xF5 ∷ []))
    ∷ m 10 (edited m9 1 0 (neg_ℤ (pos 1))) (octets (0x80 ∷ 0x01 ∷ 0 ∷ 0 ∷ 1 ∷ 0x2B ∷ []))
    ∷ m 11 (column 300 (replicate 1201 (pos 0))) (octets (0 ∷ 0 ∷ 1 ∷ 4 ∷ []))
    ∷ m 12 (nearest 1 46 7 15 46) (post 2 0)
    ∷ m 13 (word 0x8000) (metres (pos 0))
    ∷ m 14 (edited sea 2 1 (pos 7)) (octets (0x80 ∷ 0 ∷ 0 ∷ 7 ∷ 0 ∷ 0 ∷ 1 ∷ 0x31 ∷ []))
    ∷ m 15 (edited sea 2 0 (pos 0)) (octets (0 ∷ 0 ∷ 0 ∷ 5 ∷ 0 ∷ 0 ∷ 0 ∷ 0xAF ∷ []))
    ∷ m 16 (afresh sea 2 1 (pos 7)) (octets (0 ∷ 0 ∷ 0 ∷ 7 ∷ 0 ∷ 0 ∷ 0 ∷ 0xB1 ∷ []))
    ∷ m 17 (void_under 1 0 1) void
    ∷ m 17 (void_under 2 0 1) refused
    ∷ m 17 (void_under 1 1 1) void
    ∷ m 17 (void_under 2 1 1) refused
    ∷ m 18 (void_under 1 2 99) void
    ∷ m 18 (void_under 2 2 99) void
    ∷ m 19 (void_under 1 2 0) refused
    ∷ m 19 (void_under 2 2 0) refused
    ∷ m 20 (void_under 0 2 1) (told 17 0)
    ∷ m 20 (void_under 3 2 1) (told 17 3)
    ∷ m 20 (void_under 4294967295 2 1) (told 17 4294967295)
    ∷ []

-- what is given and what it is, row by row
abbrev pub inputs : List Input
inputs = map (λ (e : Example). e.input) table

abbrev pub answers : List Is
answers = map (λ (e : Example). e.is) table
