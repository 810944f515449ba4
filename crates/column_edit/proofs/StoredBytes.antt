-- A column with one post stored anew, as bytes: as many as before, and every one but six the old one (rule E3).
use Prim.Native.Nat.{ℕ, ◌+◌, ◌-◌, ◌<◌, ◌≤◌}
use native.Mathlib.Nat.{add-zero}
use native.Mathlib.Omega.{arith}
use mathlib.Core.Path.{◌≡◌, sym, ap, ◌∙◌}
use mathlib.Core.List.{List}
use lib.ListN.{length, get_or, take, drop}
use Rattle.octets.specs.Numbers.{bytes_of}
use Rattle.octets.specs.Pastes.{pasted}
use Rattle.octets.specs.Sums.{sum_of}
use Rattle.octets.proofs.ChoiceLaws.{by_order}
use Rattle.octets.proofs.NumberLaws.{length_bytes}
use Rattle.octets.proofs.PasteLaws.{length_paste}
use Rattle.octets.proofs.PartLaws.{paste_before, paste_behind, byte_part}
use Rattle.layout.specs.Levels.{column_bytes}
use Rattle.columns.specs.Column.{word_at, sum_at}
use Rattle.column_edit.specs.Stored.{with_word, stored}

-- i is none of the n offsets from `at` on
abbrev pub NoneOf : ℕ → ℕ → ℕ → Type 0
NoneOf at n i = (k : ℕ) → k < n → i ≡ at + k → ⊥

-- then it stands before them or behind them
pub none_of : {C : Type 0} (at n i : ℕ) → NoneOf at n i → (i < at → C) → (at + n ≤ i → C) → C
none_of at n i apart before behind =
    by_order at i
    (λ h. by_order (at + n) i behind (λ u. absurd (apart (i - at) (omega arith) (omega arith))))
    before

-- parts of one byte that are alike
same_byte : (a b : List ℕ) (i : ℕ) → take 1 (drop i a) ≡ take 1 (drop i b) → get_or a i 0 ≡ get_or b i 0
same_byte a b i e =
    let of_part : (l : List ℕ) → get_or (take 1 (drop i l)) 0 0 ≡ get_or l i 0 = λ l. byte_part l i 1 0 (omega arith) ∙ ap (λ (m : ℕ). get_or l m 0) (add-zero i) in
    sym (of_part a) ∙ ap (λ (x : List ℕ). get_or x 0 0) e ∙ of_part b

-- a byte that a paste does not cover
pub paste_leaves : (l : List ℕ) (at : ℕ) (vs : List ℕ) → at + length vs ≤ length l → (i : ℕ) → NoneOf at (length vs) i → get_or (pasted l at vs) i 0 ≡ get_or l i 0
paste_leaves l at vs inside i apart =
    none_of at (length vs) i apart
    (λ h. same_byte (pasted l at vs) l i (paste_before l at vs i 1 (omega arith) (omega arith)))
    (λ h. same_byte (pasted l at vs) l i (paste_behind l at vs i 1 inside h))

module _ (s : List ℕ) (posts p w : ℕ) (long : length s ≡ column_bytes posts) (inside : p < posts) where
  length_word : length (with_word s p w) ≡ length s
  length_word = length_paste s (word_at p) (bytes_of 2 w) (omega (arith, length_bytes 2 w))

  abbrev sum : List ℕ
  sum = bytes_of 4 (sum_of (take (sum_at posts) (with_word s p w)))

  pub length_stored : length (stored s posts p w) ≡ length s
  unfolding stored
  length_stored =
      length_paste (with_word s p w) (sum_at posts) sum (omega (arith, length_word, length_bytes 4 (sum_of (take (sum_at posts) (with_word s p w)))))
      ∙ length_word

  -- E3: a byte that is neither of the post nor of the checksum
  pub stored_leaves : (i : ℕ) → NoneOf (word_at p) 2 i → NoneOf (sum_at posts) 4 i → get_or (stored s posts p w) i 0 ≡ get_or s i 0
  unfolding stored
  stored_leaves i apart beyond =
      let four = length_bytes 4 (sum_of (take (sum_at posts) (with_word s p w))) in
      paste_leaves (with_word s p w) (sum_at posts) sum (omega (arith, length_word, four)) i (rw four beyond)
      ∙ paste_leaves s (word_at p) (bytes_of 2 w) (omega (arith, length_bytes 2 w)) i (rw (length_bytes 2 w) apart)
