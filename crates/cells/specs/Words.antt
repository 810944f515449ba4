-- A cell as its headers and its words.
use Rattle.std.specs.Prelude.{ℕ, List, ◌++◌}
use Rattle.octets.specs.Parts.{part, joined}
use Rattle.layout.specs.declared.Grid.{Grid}
use Rattle.headers.specs.Judged.{facts_in}
use Rattle.columns.specs.Column.{column_of_words, words_in}
use Rattle.cells.specs.Cell.{column_at}

-- the first n columns of words, one after the other, where a column has so many posts
abbrev pub columns_of_words : ℕ → List ℕ → ℕ → List ℕ
columns_of_words posts ws n = joined (λ (k : ℕ). column_of_words k (part posts ws k)) n

-- headers, and after them every column of a grid
abbrev pub cell_of_words : List ℕ → Grid → List ℕ → List ℕ
cell_of_words h g ws = h ++ columns_of_words g.posts ws g.columns

-- the words of a grid's columns, column after column and south first
abbrev pub words_under : Grid → List ℕ → List ℕ
words_under g s = joined (λ (k : ℕ). words_in (column_at s g k) g.posts) g.columns

-- a cell's own words
abbrev pub words_of_cell : List ℕ → List ℕ
words_of_cell s = words_under (facts_in s).grid s
