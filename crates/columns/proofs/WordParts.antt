-- Words put in parts, one after the other: what then stands, and the sum of its bytes.
use Rattle.std.proofs.Common.{◌≡◌, ℕ, zero, suc, ◌+◌, ◌*◌, ◌/◌, ◌%◌, ◌<◌, ◌≤◌, List, [], ◌∷◌, ◌++◌, length, sym, refl, ap, ◌∙◌, append_assoc, append-nil, arith}
use Rattle.octets.specs.Numbers.{bytes_of, bytes_of_words}
use Rattle.octets.specs.Parts.{listed}
use Rattle.octets.specs.Pastes.{pasted}
use Rattle.octets.specs.Places.{places}
use Rattle.octets.specs.Sums.{sum_of, lows_of}
use Rattle.octets.proofs.JoinedLaws.{length_listed, listed_last}
use Rattle.octets.proofs.PasteLaws.{paste_none, paste_paste}
use Rattle.octets.proofs.SumLaws.{sum_append, sum_bound, lows_step, lows_none}
use Rattle.octets.proofs.WordLaws.{length_words, words_append, words_bytes}
use Rattle.posts.specs.Heights.{word_of}
use Rattle.sources.specs.Heights.{Heights, nth_height, height_words}
use Rattle.columns.specs.Column.{word_at}

-- words, and words straight after them
module _ (us vs : List ℕ) where
  pub words_on : (out : List ℕ) (at : ℕ) → at + 2 * length us ≤ length out
      → pasted (pasted out at (bytes_of_words us)) (at + 2 * length us) (bytes_of_words vs) ≡ pasted out at (bytes_of_words (us ++ vs))
  words_on out at room =
      let n = length_words us in
      let here : at + length (bytes_of_words us) ≡ at + 2 * length us = omega arith in
      rw (words_append us vs, ← here) (paste_paste out at (bytes_of_words us) (bytes_of_words vs) (omega arith))

  pub sums_on : sum_of (bytes_of_words (us ++ vs)) ≡ sum_of (bytes_of_words us) + sum_of (bytes_of_words vs)
  sums_on = ap sum_of (words_append us vs) ∙ sum_append (bytes_of_words us) (bytes_of_words vs)

-- places in two parts
listed_parts : (f h : ℕ → ℕ) (i m : ℕ) → ((j : ℕ) → j < m → h j ≡ f (i + j)) → listed f (i + m) ≡ listed f i ++ listed h m
unfolding listed
listed_parts f h i zero same = let e : i + 0 ≡ i = omega arith in rw e (sym (append-nil (listed f i)))
listed_parts f h i (suc m) same =
    let e : i + suc m ≡ suc (i + m) = omega arith in
    rw e
    (listed_last f (i + m)
    ∙ ap (λ (l : List ℕ). l ++ (f (i + m) ∷ [])) (listed_parts f h i m (λ j u. same j (omega arith)))
    ∙ append_assoc (listed f i) (listed h m) (f (i + m) ∷ [])
    ∙ ap (λ (w : ℕ). listed f i ++ (listed h m ++ (w ∷ []))) (sym (same m (omega arith)))
    ∙ ap (λ (l : List ℕ). listed f i ++ l) (sym (listed_last h m)))

-- the words of n heights are so many, and their bytes have a sum of 510 each at most
module _ (g : Heights) (first n : ℕ) where
  heights_long : length (height_words g first n) ≡ n
  heights_long = length_listed (λ (j : ℕ). word_of (nth_height g (first + j))) n

  pub sum_most : sum_of (bytes_of_words (height_words g first n)) ≤ 510 * n
  sum_most =
      let ws = height_words g first n in
      omega (arith, sum_bound (bytes_of_words ws) (words_bytes ws), length_words ws, heights_long)

-- the words of i heights, and of m more
module _ (g : Heights) (first i m : ℕ) where
  pub heights_on : height_words g first (i + m) ≡ height_words g first i ++ height_words g (first + i) m
  heights_on =
      listed_parts (λ (j : ℕ). word_of (nth_height g (first + j))) (λ (j : ℕ). word_of (nth_height g (first + i + j))) i m
      (λ j u. ap (λ (k : ℕ). word_of (nth_height g k)) (omega arith))

  -- put from `at` on
  pub part_put : (out : List ℕ) (at : ℕ) → at + 2 * i ≤ length out
      → pasted (pasted out at (bytes_of_words (height_words g first i))) (at + 2 * i) (bytes_of_words (height_words g (first + i) m))
      ≡ pasted out at (bytes_of_words (height_words g first (i + m)))
  part_put out at room =
      let long = heights_long g first i in
      let here : at + 2 * i ≡ at + 2 * length (height_words g first i) = omega arith in
      rw (here, heights_on) (words_on (height_words g first i) (height_words g (first + i) m) out at (omega arith))

  pub part_sum : sum_of (bytes_of_words (height_words g first (i + m))) ≡ sum_of (bytes_of_words (height_words g first i)) + sum_of (bytes_of_words (height_words g (first + i) m))
  part_sum = ap (λ (ws : List ℕ). sum_of (bytes_of_words ws)) heights_on ∙ sums_on (height_words g first i) (height_words g (first + i) m)

-- the word of one height
one_word : (g : Heights) (k : ℕ) → bytes_of_words (height_words g k 1) ≡ bytes_of 2 (word_of (nth_height g k))
unfolding bytes_of_words listed
one_word g k = let here : k + 0 ≡ k = omega arith in rw here (append-nil (bytes_of 2 (word_of (nth_height g k))))

one_sum : (w : ℕ) → w < 0x10000 → sum_of (bytes_of 2 w) ≡ w / 256 + w % 256
unfolding sum_of places
one_sum w h = omega arith

-- the words of i heights stand from `at` on, and their bytes' sum is known by the words' sum and that of their high bytes
pub record Stand (before : List ℕ) (at : ℕ) (g : Heights) (first i : ℕ) (out : List ℕ) (words highs : ℕ) : Type 0 where
  pub long : length out ≡ length before
  pub put : out ≡ pasted before at (bytes_of_words (height_words g first i))
  pub narrow : words < 0x10000
  pub lows_most : lows_of words highs ≤ 255 * i
  pub highs_most : highs ≤ 255 * i
  pub sum : highs + lows_of words highs ≡ sum_of (bytes_of_words (height_words g first i))

module _ (before : List ℕ) (at : ℕ) (g : Heights) (first : ℕ) where
  pub none_stand : Stand before at g first 0 before 0 0
  unfolding bytes_of_words listed sum_of
  none_stand =
      record {
        long = refl;
        put = sym (paste_none before at);
        narrow = omega arith;
        lows_most = omega (arith, lows_none);
        highs_most = omega arith;
        sum = omega (arith, lows_none);
      }

  -- one word more
  pub one_more : (i : ℕ) (out : List ℕ) (words highs : ℕ) → Stand before at g first i out words highs → i < 256 → at + 2 * i ≤ length before
      → (w : ℕ) → w ≡ word_of (nth_height g (first + i)) → w < 0x10000
      → (after : List ℕ) → length after ≡ length out → after ≡ pasted out (at + 2 * i) (bytes_of 2 w)
      → Stand before at g first (i + 1) after ((words + w) % 0x10000) (highs + w / 256)
  one_more i out words highs s few room w is fits after long put =
      let k = lows_step words highs w s.narrow (omega (arith, s.lows_most)) in
      let bytes : bytes_of_words (height_words g (first + i) 1) ≡ bytes_of 2 w = one_word g (first + i) ∙ ap (bytes_of 2) (sym is) in
      record {
        long = long ∙ s.long;
        put =
            put
            ∙ ap (λ (l : List ℕ). pasted l (at + 2 * i) (bytes_of 2 w)) s.put
            ∙ ap (λ (l : List ℕ). pasted (pasted before at (bytes_of_words (height_words g first i))) (at + 2 * i) l) (sym bytes)
            ∙ part_put g first i 1 before at room;
        narrow = omega arith;
        lows_most = omega (arith, k, s.lows_most);
        highs_most = omega (arith, s.highs_most);
        sum = omega (arith, k, s.sum, part_sum g first i 1, ap sum_of bytes, one_sum w fits);
      }

-- the words of i heights stand after a preamble, and the sum of their bytes is known
pub record Summed (before : List ℕ) (g : Heights) (first i : ℕ) (out : List ℕ) (sum : ℕ) : Type 0 where
  pub long : length out ≡ length before
  pub put : out ≡ pasted before 8 (bytes_of_words (height_words g first i))
  pub is : sum ≡ sum_of (bytes_of_words (height_words g first i))

module _ (before : List ℕ) (g : Heights) (first : ℕ) where
  pub none_summed : Summed before g first 0 before 0
  unfolding bytes_of_words listed sum_of
  none_summed = record { long = refl; put = sym (paste_none before 8); is = refl }

  -- a part more
  pub part_more : (i m : ℕ) (out : List ℕ) (sum : ℕ) → Summed before g first i out sum → word_at i ≤ length before
      → (at : ℕ) → at ≡ word_at i → (after : List ℕ) → length after ≡ length out → after ≡ pasted out at (bytes_of_words (height_words g (first + i) m))
      → (part : ℕ) → part ≡ sum_of (bytes_of_words (height_words g (first + i) m)) → Summed before g first (i + m) after (sum + part)
  part_more i m out sum s room at here after long put part is =
      record {
        long = long ∙ s.long;
        put =
            rw here at put
            ∙ ap (λ (l : List ℕ). pasted l (word_at i) (bytes_of_words (height_words g (first + i) m))) s.put
            ∙ part_put g first i m before 8 room;
        is = rw (s.is, is) (sym (part_sum g first i m));
      }
