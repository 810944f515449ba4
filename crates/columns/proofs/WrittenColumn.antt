-- A column as it is put: the pastes that make it, and the sum of its preamble.
use Rattle.std.proofs.Common.{◌≡◌, ℕ, ◌+◌, ◌≤◌, List, [], ◌∷◌, ◌++◌, length, take, set, sym, ap, ◌∙◌, arith, length-append, take_at}
use Rattle.octets.specs.Numbers.{bytes_of, bytes_of_words}
use Rattle.octets.specs.Pastes.{pasted}
use Rattle.octets.specs.Sums.{sum_of}
use Rattle.octets.proofs.NumberLaws.{length_bytes}
use Rattle.octets.proofs.PasteLaws.{store, paste_paste, paste_front, paste_all}
use Rattle.octets.proofs.SumLaws.{sum_append, sum_bound}
use Rattle.layout.specs.Levels.{column_bytes}
use Rattle.columns.specs.Column.{preamble, sealed, column_of_words, sum_at}
use Rattle.columns.proofs.ColumnWords.{length_preamble, preamble_bytes, length_body}

-- the preamble's four parts, put one after the other
pub preamble_put : (out : List ℕ) (k : ℕ) → 8 ≤ length out
    → pasted (pasted (pasted (set out 0 170) 1 (bytes_of 3 k)) 4 (bytes_of 2 k)) 6 (bytes_of 2 0) ≡ pasted out 0 (preamble k)
unfolding preamble
preamble_put out k h =
    let a : List ℕ = 170 ∷ [] in
    let b = a ++ bytes_of 3 k in
    let c = b ++ bytes_of 2 k in
    let lb : 0 + length b ≡ 4 = omega (arith, length-append a (bytes_of 3 k), length_bytes 3 k) in
    let lc : 0 + length c ≡ 6 = omega (arith, lb, length-append b (bytes_of 2 k), length_bytes 2 k) in
    ap (λ (l : List ℕ). pasted (pasted (pasted l 1 (bytes_of 3 k)) 4 (bytes_of 2 k)) 6 (bytes_of 2 0)) (store out 0 170 (omega arith))
    ∙ ap (λ (l : List ℕ). pasted (pasted l 4 (bytes_of 2 k)) 6 (bytes_of 2 0)) (paste_paste out 0 a (bytes_of 3 k) (omega arith))
    ∙ ap (λ (m : ℕ). pasted (pasted (pasted out 0 b) m (bytes_of 2 k)) 6 (bytes_of 2 0)) (sym lb)
    ∙ ap (λ (l : List ℕ). pasted l 6 (bytes_of 2 0)) (paste_paste out 0 b (bytes_of 2 k) (omega (arith, lb)))
    ∙ ap (λ (m : ℕ). pasted (pasted out 0 c) m (bytes_of 2 0)) (sym lc)
    ∙ paste_paste out 0 c (bytes_of 2 0) (omega (arith, lc))

-- what is summed of it, and how much that is at most
pub preamble_there : (out : List ℕ) (k : ℕ) → take 8 (pasted out 0 (preamble k)) ≡ preamble k
preamble_there out k = ap (take 8) (paste_front out (preamble k)) ∙ take_at (preamble k) _ 8 (length_preamble k)

pub preamble_most : (k : ℕ) → sum_of (preamble k) ≤ 2040
preamble_most k = omega (arith, sum_bound (preamble k) (preamble_bytes k), length_preamble k)

-- preamble, words and checksum, put one after the other over bytes of the column's length
module _ (out : List ℕ) (k : ℕ) (ws : List ℕ) (n : ℕ) (counted : length ws ≡ n) (long : length out ≡ column_bytes n) where
  abbrev body : List ℕ
  body = preamble k ++ bytes_of_words ws

  length_here : length body ≡ sum_at n
  length_here = length_body k ws ∙ omega arith

  body_put : pasted (pasted out 0 (preamble k)) 8 (bytes_of_words ws) ≡ pasted out 0 body
  body_put =
      let e : 0 + length (preamble k) ≡ 8 = omega (arith, length_preamble k) in
      ap (λ (m : ℕ). pasted (pasted out 0 (preamble k)) m (bytes_of_words ws)) (sym e) ∙ paste_paste out 0 (preamble k) (bytes_of_words ws) (omega arith)

  pub column_put : (v : ℕ) → v ≡ sum_of (preamble k) + sum_of (bytes_of_words ws)
      → pasted (pasted (pasted out 0 (preamble k)) 8 (bytes_of_words ws)) (sum_at n) (bytes_of 4 v) ≡ column_of_words k ws
  unfolding column_of_words sealed
  column_put v e =
      let m : 0 + length body ≡ sum_at n = omega (arith, length_here) in
      let all : length (body ++ bytes_of 4 v) ≡ length out = length-append body (bytes_of 4 v) ∙ omega (arith, length_here, length_bytes 4 v) in
      ap (λ (l : List ℕ). pasted l (sum_at n) (bytes_of 4 v)) body_put
      ∙ ap (λ (x : ℕ). pasted (pasted out 0 body) x (bytes_of 4 v)) (sym m)
      ∙ paste_paste out 0 body (bytes_of 4 v) (omega (arith, length_here))
      ∙ paste_all out (body ++ bytes_of 4 v) all
      ∙ ap (λ (x : ℕ). body ++ bytes_of 4 x) (e ∙ sym (sum_append (preamble k) (bytes_of_words ws)))
