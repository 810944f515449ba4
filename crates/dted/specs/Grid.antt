-- The grid of a level and an origin latitude, as a C host asks for it (rules G5, G2, N9): 9 with item 1, then with item 2.
use Rattle.std.specs.Prelude.{ℕ, ℤ, pos, neg_ℤ, ◌+ℤ◌, Result, Ok, Err}
use Rattle.layout.specs.declared.NoGrid.TheVariants as none
use Rattle.layout.specs.declared.NoGrid.{NoGrid}
use Rattle.layout.specs.declared.Grid.{Grid}
use Rattle.octets.specs.Choice.{pick}
use Rattle.octets.specs.Ranges.{between}
use Rattle.answers.specs.Told.{Told, accepted, refused}
use Rattle.layout.specs.Zones.{near_edge}
use Rattle.layout.specs.Grid.{laid}
use Rattle.host_items.specs.Items.{counted}

abbrev pub said_of_laid : Result Grid NoGrid → Told
said_of_laid (Ok g) = accepted g.level g.columns g.posts
said_of_laid (Err none.Level) = refused 9 1
said_of_laid (Err none.Zone) = refused 9 2

unfoldable pub grid_told : ℕ → ℤ → Told
grid_told level latitude = said_of_laid (laid level (near_edge latitude))

-- how the code below counts a latitude: from 90 S. One that no origin has is 180, the pole, where no cell begins
unfoldable pub from_south : ℤ → ℕ
from_south latitude = pick (between (neg_ℤ (pos 90)) (pos 89) latitude) (counted (latitude +ℤ pos 90)) 180
