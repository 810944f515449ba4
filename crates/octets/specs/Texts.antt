-- Fixed texts.
use Rattle.std.specs.Prelude.{ℕ, suc, ◌+◌, Bool, List, [], ◌∷◌, length, ◌==◌, slice_index}
use Prim.Native.Char.{code}
use Prim.Native.String.{String}
use Prim.Native.String as text
use Rattle.octets.specs.Choice.{pick}

-- a text as its bytes
abbrev pub ascii : String → List ℕ
ascii text.[] = []
ascii (text.◌∷◌ c s) = code c ∷ ascii s

-- the index of the first byte of `want` that s, from `at` on, does not have; the length of `want` where it has all
unfoldable pub differ : List ℕ → ℕ → List ℕ → ℕ
differ s at [] = 0
differ s at (w ∷ ws) = pick (slice_index s at == w) (suc (differ s (at + 1) ws)) 0

-- s has `want` at `at`
abbrev pub has : List ℕ → ℕ → List ℕ → Bool
has s at want = differ s at want == length want
