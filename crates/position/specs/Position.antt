-- Lookup of a position (rules Q1 to Q3): tenths of arc-seconds, each axis by itself.
use Rattle.std.specs.Prelude.{ℕ, ◌+◌, ◌-◌, ◌*◌, ◌/◌, ◌%◌, List, ℤ, pos, negsuc, leb, ltb, Result, Ok, Err, Option, Some, None}
use Rattle.lookup.specs.declared.reach.Spot.{Spot}
use Rattle.answers.specs.declared.Refusal.{Refusal}
use Rattle.posts.specs.declared.Post.{Post}
use Rattle.std.proofs.Math.IntN.{sub_ℕ}
use Rattle.octets.specs.Choice.{pick}
use Rattle.answers.specs.Told.{Told, post_at, numbered, refused}
use Rattle.years.specs.declared.Year.{Year}
use Rattle.layout.specs.Levels.{degree}
use Rattle.layout.specs.declared.Grid.{Grid}
use Rattle.layout.specs.declared.Frame.{Frame}
use Rattle.headers.specs.Judged.{judged, frame_of}
use Rattle.headers.specs.declared.Facts.{Facts}
use Rattle.lookup.specs.Reach.{reached_in}
use Rattle.lookup.specs.Lookup.{reading_of}
use Rattle.position.specs.declared.Corner.{Corner}

-- tenths in the full circle
abbrev pub circle : ℕ
circle = 360 * degree

-- an axis reaches from -half to half: tenths from its southern or western end. `negsuc n` is -(n + 1)
abbrev pub along_axis : ℕ → ℤ → Option ℕ
along_axis half (pos n) = pick (leb n half) (Some (half + n)) None
along_axis half (negsuc n) = pick (ltb n half) (Some (half - (n + 1))) None

-- Q3: tenths from a corner that lies so many degrees from the end of the axis, round the circle: 180 E and 180 W are one meridian
abbrev pub from_corner : ℕ → ℕ → ℕ
from_corner degrees tenths = (tenths + (circle - degrees * degree)) % circle

-- Q1: within the cell's degree, edges included
abbrev pub in_cell : ℕ → Option ℕ → Option ℕ
in_cell degrees (Some tenths) = pick (leb (from_corner degrees tenths) degree) (Some (from_corner degrees tenths)) None
in_cell degrees None = None

-- the post at or to the south-west, and the two remainders
abbrev pub corner_at : Facts → Option ℕ → Option ℕ → Option Corner
corner_at f (Some north) (Some east) = Some (record {
  column = east / f.grid.interval.longitude;
  post = north / f.grid.interval.latitude;
  east = east % f.grid.interval.longitude;
  north = north % f.grid.interval.latitude;
})
corner_at f (Some north) None = None
corner_at f None east = None

unfoldable pub south_west : Facts → ℤ → ℤ → Option Corner
south_west f latitude longitude =
    corner_at f (in_cell f.latitude (along_axis (90 * degree) latitude)) (in_cell f.longitude (along_axis (180 * degree) longitude))

-- Q2: the nearest along one axis; a tie stays south or west
abbrev pub nearest : ℕ → ℕ → ℕ → ℕ
nearest interval before past = pick (ltb interval (2 * past)) (before + 1) before

abbrev pub nearest_column : Grid → Corner → ℕ
nearest_column g k = nearest g.interval.longitude k.column k.east

abbrev pub nearest_post : Grid → Corner → ℕ
nearest_post g k = nearest g.interval.latitude k.post k.north

-- where post p and column c of a cell lie on their axes
abbrev pub latitude_of : Facts → ℕ → ℤ
latitude_of f p = sub_ℕ (f.latitude * degree + p * f.grid.interval.latitude) (90 * degree)

abbrev pub longitude_of : Facts → ℕ → ℤ
longitude_of f c = sub_ℕ (f.longitude * degree + c * f.grid.interval.longitude) (180 * degree)

-- Q1: what is said of post p of column c, by what it reads as
abbrev pub said_at : ℕ → ℕ → Result Post Refusal → Told
said_at c p (Ok reads) = post_at c p reads
said_at c p (Err r) = numbered r

abbrev pub read_at : ℕ → ℕ → Result Spot Refusal → Told
read_at c p x = said_at c p (reading_of x)

-- N8, then N3 to N6 for the column of the nearest post
abbrev pub located_by : List ℕ → Frame → Option Corner → Told
located_by s f (Some k) =
    read_at (nearest_column f.grid k) (nearest_post f.grid k) (reached_in s f (nearest_column f.grid k) (nearest_post f.grid k))
located_by s f None = refused 8 0

-- N1, N21 to N23: the headers first
abbrev pub located_under : Year → List ℕ → Result Facts Refusal → ℤ → ℤ → Told
located_under year s (Ok f) latitude longitude = located_by s (frame_of year f) (south_west f latitude longitude)
located_under year s (Err r) latitude longitude = numbered r

unfoldable pub located : Year → List ℕ → ℤ → ℤ → Told
located year s latitude longitude = located_under year s (judged s) latitude longitude
