-- Laws of lists that the library of lists does not have.
use Rattle.std.proofs.Common.{◌≡◌, ℕ, zero, suc, ◌<◌, List, [], ◌∷◌, map, length, get_or, refl, ◌∙◌, arith}
use lib.ListN.{length-map, get_or-map}

-- inside a list no default is read
pub get_or_other : {A : Type 0} (l : List A) (i : ℕ) (d e : A) → i < length l → get_or l i d ≡ get_or l i e
get_or_other [] i d e h = absurd (omega arith)
get_or_other (x ∷ l) zero d e h = refl
get_or_other (x ∷ l) (suc i) d e h = get_or_other l i d e (omega arith)

-- element i of a list, each element changed alike
pub mapped : {A B : Type 0} (f : A → B) (l : List A) (i : ℕ) (a : A) (b : B) → i < length l → get_or (map f l) i b ≡ f (get_or l i a)
mapped f l i a b h = get_or_other (map f l) i b (f a) (rw length-map h) ∙ get_or-map f l i a
