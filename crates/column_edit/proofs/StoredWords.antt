-- A word stored in a column is that word set among the column's words, whatever the words are (rule E2).
use Prim.Native.Nat.{ℕ, suc, ◌+◌, ◌<◌}
use native.Mathlib.Omega.{arith}
use mathlib.Core.Path.{◌≡◌, sym, ap, ◌∙◌}
use mathlib.Core.List.{List, ◌∷◌, ◌++◌, append_assoc}
use lib.ListN.{length, get_or, take, drop, set, length-append, length-set}
use lib.Seq.{take_at, length-take-le, set_split, set-get_or}
use Rattle.octets.specs.Numbers.{bytes_of, bytes_of_words}
use Rattle.octets.specs.Sums.{sum_of}
use Rattle.octets.proofs.WordLaws.{length_words, words_append}
use Rattle.octets.proofs.NumberLaws.{length_bytes}
use Rattle.octets.proofs.PasteLaws.{paste_end, paste_over}
use Rattle.columns.specs.Column.{preamble, sealed, column_of_words, word_at, sum_at}
use Rattle.columns.proofs.ColumnWords.{length_preamble, length_body}
use Rattle.column_edit.specs.Stored.{with_word, stored}

module _ (k : ℕ) (ws : List ℕ) (p : ℕ) (h : p < length ws) where
  -- what stands before the word of post p
  abbrev before : List ℕ
  before = preamble k ++ bytes_of_words (take p ws)

  length_before : length before ≡ word_at p
  length_before =
      length-append (preamble k) (bytes_of_words (take p ws))
      ∙ omega (arith, length_preamble k, length_words (take p ws), length-take-le p ws (omega arith))

  around : (w : ℕ) (end : List ℕ) → preamble k ++ bytes_of_words (set ws p w) ++ end ≡ before ++ (bytes_of 2 w ++ (bytes_of_words (drop (suc p) ws) ++ end))
  unfolding bytes_of_words
  around w end =
      ap (λ (l : List ℕ). preamble k ++ l ++ end) (ap bytes_of_words (set_split ws p w h) ∙ words_append (take p ws) (w ∷ drop (suc p) ws))
      ∙ simp append_assoc

  -- two bytes replaced are one word replaced
  word_set : (w : ℕ) (end : List ℕ) → with_word (preamble k ++ bytes_of_words ws ++ end) p w ≡ preamble k ++ bytes_of_words (set ws p w) ++ end
  word_set w end =
      let old = get_or ws p 0 in
      let rest = bytes_of_words (drop (suc p) ws) ++ end in
      ap (λ (us : List ℕ). with_word (preamble k ++ bytes_of_words us ++ end) p w) (sym (set-get_or ws p 0))
      ∙ ap (λ (l : List ℕ). with_word l p w) (around old end)
      ∙ paste_over before (bytes_of 2 old) rest (bytes_of 2 w) (word_at p) length_before (length_bytes 2 w ∙ sym (length_bytes 2 old))
      ∙ sym (around w end)

  -- and with the checksum after it a column is stored
  pub stored_set : (w : ℕ) → stored (column_of_words k ws) (length ws) p w ≡ column_of_words k (set ws p w)
  unfolding stored column_of_words sealed
  stored_set w =
      let end = bytes_of 4 (sum_of (preamble k ++ bytes_of_words ws)) in
      let body = preamble k ++ bytes_of_words (set ws p w) in
      let sum = bytes_of 4 (sum_of body) in
      let l : length body ≡ sum_at (length ws) = length_body k (set ws p w) ∙ omega (arith, length-set ws p w) in
      let all : sum_at (length ws) + length sum ≡ length (body ++ end) =
      sym (length-append body end ∙ omega (arith, length_bytes 4 (sum_of body), length_bytes 4 (sum_of (preamble k ++ bytes_of_words ws))))
      in
      let front = take_at body end (sum_at (length ws)) l in
      rw (word_set w end, front) (paste_end (body ++ end) (sum_at (length ws)) sum all ∙ ap (λ (xs : List ℕ). xs ++ sum) front)
