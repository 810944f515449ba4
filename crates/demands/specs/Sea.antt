-- An example of 8000 hex at sea (rule P4): a cell of any description, with that word for every post.
use Rattle.std.specs.Prelude.{ℕ, List}
use Rattle.octets.specs.Parts.{listed}
use Rattle.posts.specs.Words.{negative_zero}
use Rattle.description.specs.declared.Description.{Description}
use Rattle.header_writer.specs.Written.{headers_for}
use Rattle.cells.specs.Words.{cell_of_words}
use Rattle.description.specs.Facts.{facts_for}
use Rattle.cell_writer.specs.Cell.{posts_due}

abbrev pub sea_words : Description → List ℕ
sea_words d = listed (λ (i : ℕ). negative_zero) (posts_due (facts_for d).grid)

abbrev pub sea_cell : Description → List ℕ
sea_cell d = cell_of_words (headers_for d) (facts_for d).grid (sea_words d)
