-- A grid of heights, column after column and south first, and the columns that it is written as (rules W1, X2 and D3).
use Rattle.std.specs.Prelude.{ℕ, ◌+◌, ◌*◌, List, map, ℤ, pos, get_or}
use Rattle.layout.specs.declared.Grid.{Grid}
use Rattle.posts.specs.Heights.{said_by}
use Rattle.columns.specs.Column.{words_of}
use Rattle.cells.specs.Words.{columns_of_words, cell_of_words, words_of_cell}

-- post p of column c, where a column has so many posts
abbrev pub height_at : ℕ → List ℤ → ℕ → ℕ → ℤ
height_at posts zs c p = get_or zs (c * posts + p) (pos 0)

-- the first n columns of a grid, written one after the other: the columns of its heights' words
abbrev pub columns_written : ℕ → List ℤ → ℕ → List ℕ
columns_written posts zs n = columns_of_words posts (words_of zs) n

-- headers, and after them the columns of a grid written afresh
abbrev pub afresh : List ℕ → Grid → List ℤ → List ℕ
afresh headers g zs = cell_of_words headers g (words_of zs)

-- a cell's own grid: what its words say
abbrev pub grid_in : List ℕ → List ℤ
grid_in s = map said_by (words_of_cell s)
