-- Laws of words side by side: how long they are, that they are those bytes, and each of them read back.
use Rattle.std.proofs.Common.{◌≡◌, ℕ, zero, suc, ◌+◌, ◌*◌, ◌<◌, ◌≤◌, List, [], ◌∷◌, ◌++◌, length, get_or, take, drop, sym, refl, ap, ◌∙◌, append_assoc, append-nil, arith, lit<, length-append, length-drop, drop-drop, take_at, take-add}
use lib.Seq.{drop-append-add}
use Rattle.octets.specs.Numbers.{number_at, bytes_of, bytes_of_words, Bytes}
use Rattle.octets.specs.Parts.{listed, joined}
use Rattle.octets.proofs.FrontLaws.{Begins, begins_less, begins_read, byte_below, bytes_join}
use Rattle.octets.proofs.JoinedLaws.{listed_same, joined_all}
use Rattle.octets.proofs.NumberLaws.{length_bytes, bytes_back}

pub length_words : (ws : List ℕ) → length (bytes_of_words ws) ≡ 2 * length ws
unfolding bytes_of_words
length_words [] = refl
length_words (w ∷ ws) = length-append (bytes_of 2 w) (bytes_of_words ws) ∙ omega (arith, length_bytes 2 w, length_words ws)

pub words_append : (us ws : List ℕ) → bytes_of_words (us ++ ws) ≡ bytes_of_words us ++ bytes_of_words ws
unfolding bytes_of_words
words_append [] ws = refl
words_append (u ∷ us) ws = rw (words_append us ws) (sym (append_assoc (bytes_of 2 u) (bytes_of_words us) (bytes_of_words ws)))

-- the two bytes of word i, whatever follows the words; and the words as such parts
pub word_part : (ws rest : List ℕ) (i : ℕ) → i < length ws → take 2 (drop (2 * i) (bytes_of_words ws ++ rest)) ≡ bytes_of 2 (get_or ws i 0)
unfolding bytes_of_words
word_part [] rest i h = absurd (omega arith)
word_part (w ∷ ws) rest zero h =
    ap (take 2) (append_assoc (bytes_of 2 w) (bytes_of_words ws) rest) ∙ take_at (bytes_of 2 w) (bytes_of_words ws ++ rest) 2 (length_bytes 2 w)
word_part (w ∷ ws) rest (suc i) h =
    let u = bytes_of 2 w in
    let at : 2 * suc i ≡ length u + 2 * i = omega (arith, length_bytes 2 w) in
    rw (at, append_assoc u (bytes_of_words ws) rest, drop-append-add u (bytes_of_words ws ++ rest) (2 * i)) (word_part ws rest i (omega arith))

pub words_joined : (ws : List ℕ) → joined (λ (i : ℕ). bytes_of 2 (get_or ws i 0)) (length ws) ≡ bytes_of_words ws
words_joined ws =
    joined_all 2 (λ (i : ℕ). bytes_of 2 (get_or ws i 0)) (bytes_of_words ws) (length ws) (length_words ws ∙ omega arith)
    (λ k h.
    let at : k * 2 ≡ 2 * k = omega arith in
    rw at (sym (ap (λ (l : List ℕ). take 2 (drop (2 * k) l)) (sym (append-nil (bytes_of_words ws))) ∙ word_part ws [] k h)))

pub words_bytes : (ws : List ℕ) → Bytes (bytes_of_words ws)
unfolding bytes_of_words
words_bytes [] i = lit< tt
words_bytes (w ∷ ws) i = bytes_join (bytes_of 2 w) (bytes_of_words ws) (byte_below 2 w) (words_bytes ws) i

-- each word has 16 bits
abbrev pub Fit : List ℕ → Type 0
Fit ws = (i : ℕ) → i < length ws → get_or ws i 0 < 65536

-- words that stand in bytes, from a place on, are those bytes
pub words_there : (s : List ℕ) (at n : ℕ) → Bytes s → at + 2 * n ≤ length s
    → bytes_of_words (listed (λ (i : ℕ). number_at s (at + 2 * i) 2) n) ≡ take (2 * n) (drop at s)
unfolding listed bytes_of_words
words_there s at zero bytes h = refl
words_there s at (suc n) bytes h =
    let here : at + 2 * 0 ≡ at = omega arith in
    let long : 2 * suc n ≡ 2 + 2 * n = omega arith in
    let first = bytes_back s at 2 (rw length-drop (omega arith)) bytes in
    let next = listed_same (λ (i : ℕ). number_at s (at + 2 * suc i) 2) (λ (i : ℕ). number_at s (at + 2 + 2 * i) 2) n
    (λ i u. let e : at + 2 * suc i ≡ at + 2 + 2 * i = omega arith in ap (λ (m : ℕ). number_at s m 2) e)
    in
    rw (here, first, next, words_there s (at + 2) n bytes (omega arith), long, take-add 2 (2 * n) (drop at s), drop-drop 2 at s)

-- word i of those that stand after a front
pub word_there : (s ws xs : List ℕ) (at i : ℕ) → length xs ≡ at → i < length ws → Fit ws
    → Begins s (xs ++ bytes_of_words ws) → number_at s (at + 2 * i) 2 ≡ get_or ws i 0
unfolding bytes_of_words
word_there s [] xs at i l h fit b = absurd (omega arith)
word_there s (w ∷ ws) xs at zero l h fit b =
    let u = bytes_of 2 w in
    let first : Begins s (xs ++ u) = begins_less s (xs ++ u) (bytes_of_words ws) (rw (append_assoc xs u (bytes_of_words ws)) b) in
    let e : at + 2 * 0 ≡ at = omega arith in
    rw e (begins_read s xs at 2 w l (fit 0 (omega arith)) first)
word_there s (w ∷ ws) xs at (suc i) l h fit b =
    let u = bytes_of 2 w in
    let m : length (xs ++ u) ≡ at + 2 = length-append xs u ∙ omega (arith, length_bytes 2 w) in
    let e : at + 2 * suc i ≡ at + 2 + 2 * i = omega arith in
    rw e (word_there s ws (xs ++ u) (at + 2) i m (omega arith) (λ j v. fit (suc j) (omega arith)) (rw (append_assoc xs u (bytes_of_words ws)) b))
