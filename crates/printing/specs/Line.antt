-- The line that tells a final answer of intake (rule S7), as its bytes.
use Rattle.std.specs.Prelude.{ℕ, zero, suc, ◌/◌, List, [], ◌∷◌, ◌++◌, eqb, ltb, replicate}
use Rattle.octets.specs.Choice.{pick}
use Rattle.octets.specs.Digits.{digits_of}
use Rattle.octets.specs.Pastes.{pasted}
use Rattle.octets.specs.Texts.{ascii}
use Rattle.answers.specs.Told.{Told, refused, said, accepted_tag, count_at}

-- how many decimal digits a number has, in n turns at most: one, and those of a tenth of it where it is ten or more
unfoldable pub width_in : ℕ → ℕ → ℕ
width_in zero v = 1
width_in (suc n) v = pick (ltb v 10) 1 (suc (width_in n (v / 10)))

-- a number is tenfold smaller with each turn, and so as many turns as it counts are enough
unfoldable pub width_of : ℕ → ℕ
width_of v = width_in v v

-- a number in decimal, no zero in front
abbrev pub decimal_of : ℕ → List ℕ
decimal_of v = digits_of (width_of v) v

-- with a blank or a line feed behind it
abbrev pub blank : ℕ
blank = 0x20

abbrev pub line_feed : ℕ
line_feed = 0x0A

unfoldable pub item : ℕ → ℕ → List ℕ
item v behind = decimal_of v ++ (behind ∷ [])

-- S7: accepted LEVEL COLUMNS POSTS
unfoldable pub accepted_line : ℕ → ℕ → ℕ → List ℕ
accepted_line level columns posts = ascii "accepted " ++ (item level blank ++ (item columns blank ++ item posts line_feed))

-- S7: refused NO PLACE
unfoldable pub refused_line : ℕ → ℕ → List ℕ
refused_line number place = ascii "refused " ++ (item number blank ++ item place line_feed)

-- nothing where more is due, and for the answers of other calls
abbrev pub line_of : Told → List ℕ
line_of (refused number place) = refused_line number place
line_of (said tag values) = pick (eqb tag accepted_tag) (accepted_line (count_at values 0) (count_at values 1) (count_at values 2)) []

-- a line at the front of an array, with room for any; the rest are zeros
abbrev pub in_array : List ℕ → List ℕ
in_array line = pasted (replicate 72 0) 0 line
