-- One post of a column stored anew: its word, and the checksum of what then stands before it (rules E2 and E3).
use Rattle.std.specs.Prelude.{ℕ, List, take}
use Rattle.octets.specs.Numbers.{bytes_of}
use Rattle.octets.specs.Pastes.{pasted}
use Rattle.octets.specs.Sums.{sum_of}
use Rattle.columns.specs.Column.{word_at, sum_at}

-- the two bytes of post p replaced
abbrev pub with_word : List ℕ → ℕ → ℕ → List ℕ
with_word s p w = pasted s (word_at p) (bytes_of 2 w)

-- and the four of the checksum
unfoldable pub stored : List ℕ → ℕ → ℕ → ℕ → List ℕ
stored s posts p w = pasted (with_word s p w) (sum_at posts) (bytes_of 4 (sum_of (take (sum_at posts) (with_word s p w))))
