-- Bytes put over bytes.
use Rattle.std.specs.Prelude.{ℕ, ◌+◌, List, ◌++◌, length, take, drop}

-- l with vs over what stands from index i on
unfoldable pub pasted : {A : Type 0} → List A → ℕ → List A → List A
pasted l i vs = take i l ++ vs ++ drop (i + length vs) l
