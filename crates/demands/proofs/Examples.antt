-- The marked examples hold: one statement over their whole table.
use mathlib.Core.Path.{◌≡◌, refl}
use mathlib.Core.List.{[], ◌∷◌, map}
use Rattle.years.specs.Years.{named_of}
use Rattle.layout.specs.Levels.{latitude_interval, posts_of}
use Rattle.layout.specs.Zones.{edge_of, factor_among, factor_of}
use Rattle.layout.specs.Grid.{longitude_interval, columns_of, cell_bytes, grid_of}
use Rattle.octets.specs.Numbers.{bytes_of_words}
use Rattle.octets.specs.Places.{places, value}
use Rattle.octets.specs.Parts.{listed}
use Rattle.octets.specs.Sums.{sum_of}
use Rattle.octets.specs.Pastes.{pasted}
use Rattle.columns.specs.Column.{preamble, sealed, column_of_words}
use Rattle.posts.specs.Heights.{word_of}
use Rattle.posts.specs.Words.{height_of, post_of, in_range, word_allowed}
use Rattle.column_edit.specs.Stored.{stored}
use Rattle.position.specs.Position.{south_west}
use Rattle.edit.specs.Edit.{stored_in}
use Rattle.dted.specs.Grid.{from_south}
use Rattle.demands.specs.Marked.{Example, table, made, inputs, answers}

pub marked : map made inputs ≡ answers
unfolding made named_of from_south factor_among factor_of latitude_interval posts_of longitude_interval columns_of cell_bytes grid_of edge_of south_west height_of post_of in_range word_allowed word_of places value listed sum_of preamble bytes_of_words sealed column_of_words pasted stored stored_in
marked = refl

-- and none is missing: the marks of the table's rows
pub all_marked : map (λ (e : Example). e.mark) table ≡ 1 ∷ 1 ∷ 2 ∷ 2 ∷ 3 ∷ 4 ∷ 5 ∷ 5 ∷ 6 ∷ 6 ∷ 7 ∷ 7 ∷ 8 ∷ 8 ∷ 9 ∷ 10 ∷ 11 ∷ 12 ∷ 13 ∷ 14 ∷ 15 ∷ 16 ∷ 17 ∷ 17 ∷ 17 ∷ 17 ∷ 18 ∷ 18 ∷ 19 ∷ 19 ∷ 20 ∷ 20 ∷ 20 ∷ []
all_marked = refl
