-- The checksum of a column with one post stored anew: the old bytes' sum taken off, and the new bytes' sum added.
use Prim.Native.Nat.{ℕ, ◌+◌, ◌-◌, ◌<◌, ◌≤◌}
use native.Mathlib.Omega.{arith}
use mathlib.Core.Path.{◌≡◌, refl, ap, ◌∙◌}
use mathlib.Core.List.{List}
use lib.ListN.{length, get_or, take, drop}
use lib.Seq.{take-add}
use Rattle.octets.specs.Numbers.{bytes_of}
use Rattle.octets.specs.Pastes.{pasted}
use Rattle.octets.specs.Sums.{sum_of}
use Rattle.octets.proofs.NumberLaws.{length_bytes}
use Rattle.octets.proofs.PartLaws.{paste_shown, paste_before, paste_behind}
use Rattle.octets.proofs.SumLaws.{sum_append, sum_take, sum_bound}
use Rattle.layout.specs.Levels.{column_bytes}
use Rattle.columns.specs.Column.{word_at, sum_at}
use Rattle.column_edit.specs.Stored.{with_word}

-- the first e bytes, as what stands before a part of n from i on, that part, and what stands behind it
sum_parts : (l : List ℕ) (i n e : ℕ) → i + n ≤ e
    → sum_of (take e l) ≡ sum_of (take i l) + sum_of (take n (drop i l)) + sum_of (take (e - (i + n)) (drop (i + n) l))
sum_parts l i n e h =
    let k : e ≡ i + n + (e - (i + n)) = omega arith in
    ap (λ (m : ℕ). sum_of (take m l)) k
    ∙ ap sum_of (take-add (i + n) (e - (i + n)) l)
    ∙ sum_append (take (i + n) l) (take (e - (i + n)) (drop (i + n) l))
    ∙ ap (λ (m : ℕ). m + sum_of (take (e - (i + n)) (drop (i + n) l))) (ap sum_of (take-add i n l) ∙ sum_append (take i l) (take n (drop i l)))

-- a paste adds its own sum and takes the sum off that stood there
sum_paste : (l : List ℕ) (i e : ℕ) (vs : List ℕ) → i + length vs ≤ e → e ≤ length l
    → sum_of (take e (pasted l i vs)) + sum_of (take (length vs) (drop i l)) ≡ sum_of (take e l) + sum_of vs
sum_paste l i e vs h k =
    let n = length vs in
    let m = e - (i + n) in
    let before : sum_of (take i (pasted l i vs)) ≡ sum_of (take i l) = ap sum_of (paste_before l i vs 0 i (omega arith) (omega arith)) in
    let shown : sum_of (take n (drop i (pasted l i vs))) ≡ sum_of vs = ap sum_of (paste_shown l i vs (omega arith)) in
    let behind : sum_of (take m (drop (i + n) (pasted l i vs))) ≡ sum_of (take m (drop (i + n) l)) =
    ap sum_of (paste_behind l i vs (i + n) m (omega arith) (omega arith))
    in
    omega (arith, sum_parts (pasted l i vs) i n e h, sum_parts l i n e h)

module _ (s : List ℕ) (posts p w : ℕ) (long : length s ≡ column_bytes posts) (inside : p < posts) where
  -- what stands at a post, and what is put there
  abbrev pub post_sum : List ℕ → ℕ
  post_sum l = sum_of (take (word_at p + 2 - word_at p) (drop (word_at p) l))

  two : word_at p + 2 - word_at p ≡ length (bytes_of 2 w)
  two = omega (arith, length_bytes 2 w)

  -- the post's bytes are among those that are summed
  pub post_under : post_sum s ≤ sum_of (take (sum_at posts) s)
  post_under =
      let n = word_at p + 2 - word_at p in
      omega (arith, sum_parts s (word_at p) n (sum_at posts) (omega arith))

  sum_stored : sum_of (take (sum_at posts) s) - post_sum s + post_sum (with_word s p w) ≡ sum_of (take (sum_at posts) (with_word s p w))
  sum_stored =
      let put : post_sum (with_word s p w) ≡ sum_of (bytes_of 2 w) = rw two (ap sum_of (paste_shown s (word_at p) (bytes_of 2 w) (omega arith))) in
      let was : post_sum s ≡ sum_of (take (length (bytes_of 2 w)) (drop (word_at p) s)) = rw two refl in
      omega (arith, post_under, put, was, sum_paste s (word_at p) (sum_at posts) (bytes_of 2 w) (omega (arith, length_bytes 2 w)) (omega arith))

  -- the same, by the bytes and the sums that were found
  pub sum_found : (after : List ℕ) → after ≡ with_word s p w → (x old new : ℕ) → x ≡ sum_of (take (sum_at posts) s) → old ≡ post_sum s → new ≡ post_sum after
      → x - old + new ≡ sum_of (take (sum_at posts) (with_word s p w))
  sum_found after e x old new all o n = rw (all, o, n, e) sum_stored

-- the bytes of a column of so few posts sum to a small number
pub sum_small : (l : List ℕ) (n posts : ℕ) → length l ≡ column_bytes posts → posts ≤ 3601 → ((i : ℕ) → get_or l i 0 < 256) → sum_of (take n l) ≤ 1839570
sum_small l n posts long few bytes = omega (arith, sum_take n l, sum_bound l bytes)
