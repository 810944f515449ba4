-- Columns and words: a column with its preamble and checksum right is the column of its words, and gives back the words that it was made of.
use Rattle.std.proofs.Common.{◌≡◌, ℕ, zero, suc, ◌+◌, ◌*◌, ◌<◌, ◌≤◌, Bool, List, [], ◌∷◌, ◌++◌, length, get_or, take, drop, sym, refl, ap, ◌∙◌, append_assoc, arith, lit<, length-append, length-drop, take-append-drop, take_all, take-suc, take_at, take-add}
use lib.Seq.{take-length, take-append_seam, drop-append-add}
use Rattle.octets.specs.Numbers.{number_at, bytes_of, bytes_of_words, Bytes}
use Rattle.octets.specs.Sums.{sum_of}
use Rattle.octets.proofs.JoinedLaws.{length_listed, get_or_listed, listed_is}
use Rattle.octets.proofs.NumberLaws.{length_bytes, bytes_back}
use Rattle.octets.proofs.WordLaws.{length_words, word_part, words_bytes, Fit, words_there, word_there}
use Rattle.octets.proofs.SumLaws.{sum_bound}
use Rattle.octets.proofs.FrontLaws.{Begins, begins_less, begins_read, begins_more, byte_below, bytes_join}
use Rattle.layout.specs.Levels.{column_bytes}
use Rattle.posts.proofs.RoundTrip.{allowed_fits}
use Rattle.columns.specs.Column.{preamble, sealed, column_of_words, word_at, sum_at, word_in, words_in, Sealed, GoodColumn, Allowed}

pub length_preamble : (k : ℕ) → length (preamble k) ≡ 8
unfolding preamble
length_preamble k = simp (length-append, length_bytes)

pub preamble_bytes : (k : ℕ) → Bytes (preamble k)
unfolding preamble
preamble_bytes k =
    let a : List ℕ = 170 ∷ [] in
    let b = a ++ bytes_of 3 k in
    let c = b ++ bytes_of 2 k in
    bytes_join c (bytes_of 2 0) (bytes_join b (bytes_of 2 k) (bytes_join a (bytes_of 3 k) one (byte_below 3 k)) (byte_below 2 k)) (byte_below 2 0)
  where
    one : Bytes (170 ∷ [])
    one zero = lit< tt
    one (suc i) = lit< tt

module _ (k : ℕ) (ws : List ℕ) where
  abbrev pub body : List ℕ
  body = preamble k ++ bytes_of_words ws

  pub length_body : length (preamble k ++ bytes_of_words ws) ≡ sum_at (length ws)
  length_body = length-append (preamble k) (bytes_of_words ws) ∙ omega (arith, length_preamble k, length_words ws)

  body_bytes_below : Bytes (preamble k ++ bytes_of_words ws)
  body_bytes_below = bytes_join (preamble k) (bytes_of_words ws) (preamble_bytes k) (words_bytes ws)

  pub length_column : length (column_of_words k ws) ≡ column_bytes (length ws)
  unfolding column_of_words sealed
  length_column = length-append body (bytes_of 4 (sum_of body)) ∙ omega (arith, length_body, length_bytes 4 (sum_of body))

  pub column_bytes_lem : Bytes (column_of_words k ws)
  unfolding column_of_words sealed
  column_bytes_lem = bytes_join body (bytes_of 4 (sum_of body)) body_bytes_below (byte_below 4 (sum_of body))

module _ (s : List ℕ) (k posts : ℕ) (bytes : Bytes s) (long : length s ≡ column_bytes posts) (right : Sealed s k posts) where
  preamble_there : Begins s (preamble k)
  unfolding preamble
  preamble_there =
      let a : List ℕ = 170 ∷ [] in
      let b = a ++ bytes_of 3 k in
      let c = b ++ bytes_of 2 k in
      let lb : length b ≡ 4 = length-append a (bytes_of 3 k) ∙ omega (arith, length_bytes 3 k) in
      let lc : length c ≡ 6 = length-append b (bytes_of 2 k) ∙ omega (arith, length_bytes 2 k) in
      let p = right.preamble in
      let ba : Begins s a = take-suc s 0 0 (omega arith) ∙ rw p.sentinel in
      let bb = begins_more s a 1 3 k bytes refl (omega arith) p.block ba in
      let bc = begins_more s b 4 2 k bytes lb (omega arith) p.longitude bb in
      begins_more s c 6 2 0 bytes lc (omega arith) p.latitude bc

  body_there : preamble k ++ bytes_of_words (words_in s posts) ≡ take (sum_at posts) s
  body_there =
      let front : take 8 s ≡ preamble k = rw (length_preamble k) at preamble_there in
      rw (take-add 8 (2 * posts) s, front, words_there s 8 posts bytes (omega arith))

  -- nothing of it is free but its words
  pub column_is : column_of_words k (words_in s posts) ≡ s
  unfolding column_of_words sealed
  column_is =
      let e = sum_at posts in
      let rest : bytes_of 4 (number_at s e 4) ≡ drop e s =
      bytes_back s e 4 (rw length-drop (omega arith)) bytes ∙ take_all 4 (drop e s) (rw length-drop (omega arith))
      in
      rw (body_there, ← right.checksum, rest) (take-append-drop e s)

-- a column of words
module _ (k : ℕ) (ws : List ℕ) where
  begins_body : Begins (column_of_words k ws) (preamble k ++ bytes_of_words ws)
  unfolding column_of_words sealed
  begins_body = take-append_seam (body k ws) (bytes_of 4 (sum_of (body k ws)))

  -- its preamble, and the two bytes of each post
  pub preamble_front : take (word_at 0) (column_of_words k ws) ≡ preamble k
  unfolding column_of_words sealed
  preamble_front =
      ap (take (word_at 0)) (append_assoc (preamble k) (bytes_of_words ws) (bytes_of 4 (sum_of (body k ws)))) ∙ take_at (preamble k) _ (word_at 0) (length_preamble k)

  pub post_bytes : (p : ℕ) → p < length ws → take 2 (drop (word_at p) (column_of_words k ws)) ≡ bytes_of 2 (get_or ws p 0)
  unfolding column_of_words sealed
  post_bytes p h =
      let sum = bytes_of 4 (sum_of (body k ws)) in
      let at : word_at p ≡ length (preamble k) + 2 * p = omega (arith, length_preamble k) in
      rw (at, append_assoc (preamble k) (bytes_of_words ws) sum, drop-append-add (preamble k) (bytes_of_words ws ++ sum) (2 * p)) (word_part ws sum p h)

  -- so many words have a checksum of four bytes
  pub column_sealed : k < 65536 → length ws ≤ 8000000 → Sealed (column_of_words k ws) k (length ws)
  unfolding column_of_words sealed preamble
  column_sealed small few =
      let s = column_of_words k ws in
      let a : List ℕ = 170 ∷ [] in
      let b = a ++ bytes_of 3 k in
      let c = b ++ bytes_of 2 k in
      let lb : length b ≡ 4 = length-append a (bytes_of 3 k) ∙ omega (arith, length_bytes 3 k) in
      let lc : length c ≡ 6 = length-append b (bytes_of 2 k) ∙ omega (arith, length_bytes 2 k) in
      let all : Begins s (c ++ bytes_of 2 0) = begins_less s (preamble k) (bytes_of_words ws) begins_body in
      let bc = begins_less s c (bytes_of 2 0) all in
      let bb = begins_less s b (bytes_of 2 k) bc in
      let sum = sum_of (body k ws) in
      let fits : sum < 4294967296 = omega (arith, sum_bound (body k ws) (body_bytes_below k ws), length_body k ws) in
      record {
        preamble = record {
          sentinel = refl;
          block = begins_read s a 1 3 k refl (omega arith) bb;
          longitude = begins_read s b 4 2 k lb small bc;
          latitude = begins_read s c 6 2 0 lc (omega arith) all;
        };
        checksum =
            begins_read s (body k ws) (sum_at (length ws)) 4 sum (length_body k ws) fits (take-length s)
            ∙ ap sum_of (sym (take_at (body k ws) (bytes_of 4 sum) (sum_at (length ws)) (length_body k ws)));
      }

-- gives back its words
module _ (k : ℕ) (ws : List ℕ) (fit : Fit ws) where
  pub word_in_lem : (i : ℕ) → i < length ws → word_in (column_of_words k ws) i ≡ get_or ws i 0
  word_in_lem i h = word_there (column_of_words k ws) ws (preamble k) 8 i (length_preamble k) h fit (begins_body k ws)

  pub words_back : words_in (column_of_words k ws) (length ws) ≡ ws
  words_back = listed_is (word_in (column_of_words k ws)) (length ws) 0 ws refl word_in_lem

-- words that may stand anywhere have 16 bits
pub allowed_fit : (voids : Bool) (ws : List ℕ) → Allowed voids ws → Fit ws
allowed_fit voids ws allowed i h = allowed_fits voids (get_or ws i 0) (allowed i h)

-- the column of allowed words is a good column
pub words_good : (k posts : ℕ) (voids : Bool) (ws : List ℕ) → k < 65536 → posts ≤ 8000000 → length ws ≡ posts → Allowed voids ws
    → GoodColumn (column_of_words k ws) k posts voids
words_good k posts voids ws small few long allowed =
    record {
      long = length_column k ws ∙ omega arith;
      right = rw (← long) (column_sealed k ws small (omega arith));
      words = λ i h. rw (word_in_lem k ws (allowed_fit voids ws allowed) i (omega arith)) (allowed i (omega arith));
    }

-- and the words of a good column are allowed
pub good_allowed : (s : List ℕ) (k posts : ℕ) (voids : Bool) → GoodColumn s k posts voids → Allowed voids (words_in s posts)
good_allowed s k posts voids good i h =
    let u : i < posts = omega (arith, length_listed (word_in s) posts) in
    rw (get_or_listed (word_in s) posts i 0 u) (good.words i u)
