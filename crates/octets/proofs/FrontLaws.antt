-- Laws of fronts: what bytes begin with, and the numbers that stand at the end of a front.
use Rattle.std.proofs.Common.{◌≡◌, ℕ, zero, suc, ◌+◌, ◌^◌, ◌<◌, ◌≤◌, List, [], ◌∷◌, ◌++◌, length, get_or, take, sym, ap, ◌∙◌, arith, lit<, length-append, length-drop, get_or-take, take-take, get_or-append-add, take-add}
use lib.Seq.{take-append_seam}
use Rattle.octets.specs.Numbers.{number_at, bytes_of}
use Rattle.octets.proofs.NumberLaws.{length_bytes, number_back, bytes_back}
use Rattle.octets.proofs.PlaceLaws.{value_same, place_below}

-- s begins with xs
abbrev pub Begins : List ℕ → List ℕ → Type 0
Begins s xs = take (length xs) s ≡ xs

-- with less of it too
pub begins_less : (s xs ys : List ℕ) → Begins s (xs ++ ys) → Begins s xs
begins_less s xs ys b =
    sym (take-take (length xs) (length (xs ++ ys)) s (rw length-append (omega arith)))
    ∙ ap (take (length xs)) b ∙ take-append_seam xs ys

-- a number that was put after a front is read there
pub begins_read : (s xs : List ℕ) (at n v : ℕ) → length xs ≡ at → v < 256 ^ n → Begins s (xs ++ bytes_of n v) → number_at s at n ≡ v
begins_read s xs at n v l h b =
    value_same 256 (λ (i : ℕ). get_or s (at + i) 0) (λ (i : ℕ). get_or (bytes_of n v) (0 + i) 0) n
    (λ i k.
    let e : 0 + i ≡ i = omega arith in
    let m : length (xs ++ bytes_of n v) ≡ at + n = length-append xs (bytes_of n v) ∙ omega (arith, length_bytes n v) in
    rw (e, ← l)
    (sym (get_or-take (length (xs ++ bytes_of n v)) s (length xs + i) 0 (omega arith))
    ∙ ap (λ (x : List ℕ). get_or x (length xs + i) 0) b
    ∙ get_or-append-add xs (bytes_of n v) i 0))
    ∙ number_back n v h

-- the number that stands after a front makes a longer front
pub begins_more : (s xs : List ℕ) (at n v : ℕ) → ((i : ℕ) → get_or s i 0 < 256) → length xs ≡ at → at + n ≤ length s → number_at s at n ≡ v
    → Begins s xs → Begins s (xs ++ bytes_of n v)
begins_more s xs at n v f l h e b =
    let m : length (xs ++ bytes_of n v) ≡ length xs + n = length-append xs (bytes_of n v) ∙ omega (arith, length_bytes n v) in
    rw (m, take-add (length xs) n s, b, l, ← e, bytes_back s at n (rw length-drop (omega arith)) f)

-- the bytes of a number are bytes
pub byte_below : (n v i : ℕ) → get_or (bytes_of n v) i 0 < 256
byte_below n v i = place_below 256 n v i (lit< tt)

-- bytes joined to bytes are bytes
pub bytes_join : (xs ys : List ℕ) → ((i : ℕ) → get_or xs i 0 < 256) → ((i : ℕ) → get_or ys i 0 < 256) → (i : ℕ) → get_or (xs ++ ys) i 0 < 256
bytes_join [] ys f g i = g i
bytes_join (x ∷ xs) ys f g zero = f 0
bytes_join (x ∷ xs) ys f g (suc i) = bytes_join xs ys (λ j. f (suc j)) g i
