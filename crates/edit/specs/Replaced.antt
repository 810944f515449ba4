-- Demand 3 (rule D3): the old bytes, with the word of each edited post and the checksum of its column replaced. Nothing here knows how an edit works.
use Rattle.std.specs.Prelude.{ℕ, Bool, false, List, [], ◌∷◌, ◌++◌, eqb, take, drop}
use Rattle.octets.specs.Choice.{pick, both, either}
use Rattle.octets.specs.Numbers.{bytes_of}
use Rattle.octets.specs.Parts.{joined}
use Rattle.layout.specs.Grid.{header_bytes}
use Rattle.layout.specs.declared.Grid.{Grid}
use Rattle.posts.specs.Heights.{word_of}
use Rattle.columns.specs.Column.{sealed, word_at}
use Rattle.cells.specs.Cell.{column_at}
use Rattle.edit.specs.Sequence.{Call}

-- of calls and their answers, done or not, the calls that were done
unfoldable pub done_among : List Call → List Bool → List Call
done_among [] ds = []
done_among (e ∷ es) [] = []
done_among (e ∷ es) (d ∷ ds) = pick d (e ∷ done_among es ds) (done_among es ds)

-- one of the calls names column c
unfoldable pub names_column : ℕ → List Call → Bool
names_column c [] = false
names_column c (e ∷ es) = either (eqb e.column c) (names_column c es)

-- the writer's word of the last height that the calls give post p of column c, as its two bytes; or the old bytes, where none names that post
unfoldable pub last_given : ℕ → ℕ → List ℕ → List Call → List ℕ
last_given c p old [] = old
last_given c p old (e ∷ es) = last_given c p (pick (both (eqb e.column c) (eqb e.post p)) (bytes_of 2 (word_of e.height)) old) es

-- what stands before the checksum of column c: the old preamble, and each post's bytes
abbrev pub body_given : ℕ → ℕ → List ℕ → List Call → List ℕ
body_given posts c column es = take (word_at 0) column ++ joined (λ (p : ℕ). last_given c p (take 2 (drop (word_at p) column)) es) posts

-- a column that a call names has the sum of that behind it; any other is the old one
unfoldable pub column_given : ℕ → ℕ → List ℕ → List Call → List ℕ
column_given posts c column es = pick (names_column c es) (sealed (body_given posts c column es)) column

-- D3: the old headers, and each column
unfoldable pub with_replaced : Grid → List ℕ → List Call → List ℕ
with_replaced g s es = take header_bytes s ++ joined (λ (c : ℕ). column_given g.posts c (column_at s g c) es) g.columns
