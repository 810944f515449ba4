-- Levels 0, 1 and 2 (rules G1 to G3).
use Rattle.std.specs.Prelude.{ℕ, ◌+◌, ◌*◌, ◌/◌, List, [], ◌∷◌, get_or}

-- tenths of an arc-second in a degree
abbrev pub degree : ℕ
degree = 36000

-- G1: the latitude interval of each level, in tenths of an arc-second
abbrev pub intervals : List ℕ
intervals = 300 ∷ 30 ∷ 10 ∷ []

unfoldable pub latitude_interval : ℕ → ℕ
latitude_interval level = get_or intervals level 0

-- G2: posts to a column, one at each interval of the degree and one at its end
unfoldable pub posts_of : ℕ → ℕ
posts_of level = degree / latitude_interval level + 1

-- G3: a column's bytes, for any number of posts
abbrev pub column_bytes : ℕ → ℕ
column_bytes posts = 12 + 2 * posts
