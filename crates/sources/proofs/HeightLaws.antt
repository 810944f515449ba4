-- Heights from either source: how many there are, each of them, the words of a part, and any heights given in bytes.
use Prim.Native.Nat.{ℕ, ◌+◌, ◌*◌, ◌/◌, ◌%◌, ◌<◌}
use native.Mathlib.Omega.{arith}
use mathlib.Core.Path.{◌≡◌, refl, sym, ap, ◌∙◌}
use mathlib.Core.Bool.{Bool, true, false}
use mathlib.Core.List.{List, [], ◌∷◌, map}
use lib.Dec.{eqb}
use lib.IntN.{ℤ, pos, negsuc, neg_ℤ}
use lib.ListN.{length, get_or, length-map}
use lib.Seq.{take-length}
use borrow.Author.Tests.{eqb-true, eqb-false, eq-eqb, ne_eqb}
use Rattle.octets.specs.Choice.{both}
use Rattle.octets.specs.Parts.{listed, part}
use Rattle.octets.specs.Places.{value}
use Rattle.octets.specs.Ranges.{between}
use Rattle.octets.specs.Twos.{twos_of, twos_word}
use Rattle.octets.proofs.ChoiceLaws.{by_equal}
use Rattle.octets.proofs.JoinedLaws.{length_listed, get_or_listed, listed_is, length_part, get_or_part, part_within}
use Rattle.octets.proofs.ListLaws.{mapped}
use Rattle.octets.proofs.WordLaws.{length_words, Fit, word_there}
use Rattle.posts.specs.Words.{in_range}
use Rattle.posts.specs.Heights.{height_allowed, word_of}
use Rattle.sources.specs.Heights.{Heights, numbers, in_bytes, count_of, nth_height, heights_of, heights_in_bytes, Counts, counts, height_words, bytes_for}
use Rattle.octets.proofs.TwosLaws.{twos_back}

-- so many heights are given exactly where the test says so
pub counts_if : (g : Heights) (n : ℕ) → Counts g n → counts g n ≡ true
counts_if (numbers zs) n e = eq-eqb (length zs) n e
counts_if (in_bytes bs) n e = eq-eqb (length bs) (2 * n) e

pub counts_only : (g : Heights) (n : ℕ) → counts g n ≡ true → Counts g n
counts_only (numbers zs) n e = eqb-true (length zs) n e
counts_only (in_bytes bs) n e = eqb-true (length bs) (2 * n) e

pub not_counted : (g : Heights) (n : ℕ) → (Counts g n → ⊥) → counts g n ≡ false
not_counted (numbers zs) n h = ne_eqb (length zs) n h
not_counted (in_bytes bs) n h = ne_eqb (length bs) (2 * n) h

pub never_counted : (g : Heights) (n : ℕ) → counts g n ≡ false → Counts g n → ⊥
never_counted (numbers zs) n e = eqb-false (length zs) n e
never_counted (in_bytes bs) n e = eqb-false (length bs) (2 * n) e

-- B2, N10 in plain numbers: two bytes a height, so that an odd length is no count
pub bytes_counted : (bs : List ℕ) (n : ℕ) → (counts (in_bytes bs) n ≡ true → length bs ≡ 2 * n) × (length bs ≡ 2 * n → counts (in_bytes bs) n ≡ true)
bytes_counted bs n = (counts_only (in_bytes bs) n, counts_if (in_bytes bs) n)

-- B2 by an example: the high byte first, and the sign bit in it
pub high_byte_first : heights_in_bytes (0x01 ∷ 0x02 ∷ 0xFF ∷ 0xFE ∷ 0x80 ∷ 0x00 ∷ []) ≡ pos 258 ∷ negsuc 1 ∷ negsuc 32767 ∷ []
unfolding listed twos_of value
high_byte_first = refl

-- and 80 00 is no height there, though a cell may hold that word
pub lowest_refused : (voids : Bool) → height_allowed voids (twos_of 0x8000) ≡ false
unfolding height_allowed in_range twos_of
lowest_refused voids = refl

pub counted : (g : Heights) (n : ℕ) → Counts g n → count_of g ≡ n
counted (numbers zs) n e = e
counted (in_bytes bs) n e = omega arith

-- two bytes a height, as the code counts them
pub even_half : (n m : ℕ) → both (eqb (n % 2) 0) (eqb (n / 2) m) ≡ eqb n (2 * m)
even_half n m =
    by_equal n (2 * m)
    (λ e. rw (eq-eqb n (2 * m) e, eq-eqb (n % 2) 0 (omega arith)) (eq-eqb (n / 2) m (omega arith)))
    (λ other.
    rw (ne_eqb n (2 * m) other)
    (by_equal (n % 2) 0
    (λ even. rw (eq-eqb (n % 2) 0 even) (ne_eqb (n / 2) m (λ half. other (omega arith))))
    (λ odd. rw (ne_eqb (n % 2) 0 odd))))

module _ (g : Heights) where
  pub heights_counted : length (heights_of g) ≡ count_of g
  heights_counted = length_listed (nth_height g) (count_of g)

  pub height_listed : (i : ℕ) → i < count_of g → get_or (heights_of g) i (pos 0) ≡ nth_height g i
  height_listed i h = get_or_listed (nth_height g) (count_of g) i (pos 0) h

  -- the word of each, as a list has it
  word_listed : (i : ℕ) → i < count_of g → word_of (nth_height g i) ≡ get_or (map word_of (heights_of g)) i 0
  word_listed i h = sym (mapped word_of (heights_of g) i (pos 0) 0 (omega (arith, heights_counted)) ∙ ap word_of (height_listed i h))

  pub words_counted : length (map word_of (heights_of g)) ≡ count_of g
  words_counted = length-map (heights_of g) word_of ∙ heights_counted

  -- the words of part k, where a part has so many posts
  pub part_words : (columns posts k : ℕ) → count_of g ≡ columns * posts → k < columns
      → height_words g (k * posts) posts ≡ part posts (map word_of (heights_of g)) k
  part_words columns posts k all h =
      let ws = map word_of (heights_of g) in
      listed_is (λ (i : ℕ). word_of (nth_height g (k * posts + i))) posts 0 (part posts ws k) (length_part posts ws columns k (words_counted ∙ all) h)
      (λ i u.
      let w = part_within k columns posts h in
      word_listed (k * posts + i) (omega arith) ∙ sym (get_or_part posts ws k i 0 u))

  -- and of all
  pub all_words : (n : ℕ) → count_of g ≡ n → height_words g 0 n ≡ map word_of (heights_of g)
  all_words n all =
      listed_is (λ (i : ℕ). word_of (nth_height g (0 + i))) n 0 (map word_of (heights_of g)) (words_counted ∙ all)
      (λ i u. let here : 0 + i ≡ i = omega arith in rw here (word_listed i (omega arith)))

-- numbers are their own heights
pub numbers_are : (zs : List ℤ) → heights_of (numbers zs) ≡ zs
numbers_are zs = listed_is (nth_height (numbers zs)) (length zs) (pos 0) zs refl (λ i h. refl)

-- every height is one of 16 bits
abbrev pub Words : List ℤ → Type 0
Words zs = (i : ℕ) → i < length zs → between (neg_ℤ (pos 32768)) (pos 32767) (get_or zs i (pos 0)) ≡ true

pub length_bytes_for : (zs : List ℤ) → length (bytes_for zs) ≡ 2 * length zs
length_bytes_for zs = length_words (map twos_word zs) ∙ ap (λ (n : ℕ). 2 * n) (length-map zs twos_word)

-- B2: any such heights can be given in bytes
pub heights_back : (zs : List ℤ) → Words zs → heights_in_bytes (bytes_for zs) ≡ zs
heights_back zs words =
    let ws = map twos_word zs in
    let n = length-map zs twos_word in
    let at : (i : ℕ) → i < length zs → get_or ws i 0 ≡ twos_word (get_or zs i (pos 0)) = λ i h. mapped twos_word zs i (pos 0) 0 h in
    let fit : Fit ws = λ i h. let u : i < length zs = omega arith in rw (at i u) (twos_back (get_or zs i (pos 0)) (words i u)).0 in
    let many : length (bytes_for zs) / 2 ≡ length zs = omega (arith, length_bytes_for zs) in
    listed_is (nth_height (in_bytes (bytes_for zs))) (length (bytes_for zs) / 2) (pos 0) zs (sym many)
    (λ i h.
    let u : i < length zs = omega arith in
    let here : 0 + 2 * i ≡ 2 * i = omega arith in
    ap twos_of (rw here at (word_there (bytes_for zs) ws [] 0 i refl (omega arith) fit (take-length (bytes_for zs))) ∙ at i u)
    ∙ (twos_back (get_or zs i (pos 0)) (words i u)).1)
