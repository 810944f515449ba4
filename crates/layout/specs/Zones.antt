-- Latitude zones I to V (rules Z1 to Z3).
use Rattle.std.specs.Prelude.{ℕ, ◌-◌, List, [], ◌∷◌, ℤ, pos, negsuc, leb, ltb, get_or}
use Rattle.octets.specs.Choice.{pick}

-- Z1: the whole-degree parallel nearer the equator: a for an origin latitude a of 0 or more, else -(a + 1).
-- `negsuc n` is -(n + 1), so that its near edge is n
unfoldable pub near_edge : ℤ → ℕ
near_edge (pos a) = a
near_edge (negsuc n) = n

-- Z1 again, as every call has it: of an origin that lies so many degrees north of 90 S
unfoldable pub edge_of : ℕ → ℕ
edge_of latitude = pick (leb 90 latitude) (latitude - 90) (89 - latitude)

-- Z2: the near edges of each zone lie below its bound, and from the bound before on
abbrev pub bounds : List ℕ
bounds = 50 ∷ 70 ∷ 75 ∷ 80 ∷ 90 ∷ []

-- and so the last near edge of each, zones counted from 0
abbrev pub last_edge : ℕ → ℕ
last_edge zone = get_or bounds zone 0 - 1

-- Z3: how many latitude intervals one longitude interval of each zone is
abbrev pub factors : List ℕ
factors = 1 ∷ 2 ∷ 3 ∷ 4 ∷ 6 ∷ []

-- the factor of the first zone whose bound is above the edge, 0 past the last
unfoldable pub factor_among : List ℕ → List ℕ → ℕ → ℕ
factor_among [] fs edge = 0
factor_among (b ∷ bs) [] edge = 0
factor_among (b ∷ bs) (f ∷ fs) edge = pick (ltb edge b) f (factor_among bs fs edge)

unfoldable pub factor_of : ℕ → ℕ
factor_of edge = factor_among bounds factors edge
