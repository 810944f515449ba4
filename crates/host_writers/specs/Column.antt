-- The column writer for a C host (rules X1 and B2): the posts are bytes.
use Rattle.std.specs.Prelude.{ℕ, List}
use Rattle.answers.specs.Told.{Told}
use Rattle.sources.specs.Heights.{in_bytes}
use Rattle.column_writer.specs.Column.{column_told_from, column_output_from}

-- X1, N15: what is told of the call, and the output at its end
abbrev pub column_bytes_told : ℕ → ℕ → List ℕ → List ℕ → Told
column_bytes_told level number posts out = column_told_from level number (in_bytes posts) out

abbrev pub column_bytes_output : ℕ → ℕ → List ℕ → List ℕ → List ℕ
column_bytes_output level number posts out = column_output_from level number (in_bytes posts) out
