-- Parts put one after another over a whole list.
use Rattle.std.proofs.Common.{◌≡◌, ℕ, suc, ◌+◌, ◌≤◌, List, [], ◌∷◌, ◌++◌, length, set, ap, ◌∙◌, arith, length-append}
use Rattle.octets.specs.Pastes.{pasted}
use Rattle.octets.proofs.PasteLaws.{paste_paste, paste_snoc, paste_all, store}

-- a part at the front and one straight after it
module _ (l xs ys : List ℕ) (n : ℕ) (e : length xs ≡ n) where
  after : n ≤ length l → pasted (pasted l 0 xs) n ys ≡ pasted l 0 (xs ++ ys)
  after h =
      let at : n ≡ 0 + length xs = omega arith in
      ap (λ (k : ℕ). pasted (pasted l 0 xs) k ys) at ∙ paste_paste l 0 xs ys (omega arith)

  pub put_two : length l ≡ n + length ys → pasted (pasted l 0 xs) n ys ≡ xs ++ ys
  put_two h = after (omega arith) ∙ paste_all l (xs ++ ys) (length-append xs ys ∙ omega arith)

  -- and one byte after those
  pub put_three : (b : ℕ) → length l ≡ suc (n + length ys) → set (pasted (pasted l 0 xs) n ys) (n + length ys) b ≡ xs ++ ys ++ (b ∷ [])
  put_three b h =
      let m : length (xs ++ ys) ≡ n + length ys = length-append xs ys ∙ omega arith in
      let at : n + length ys ≡ 0 + (n + length ys) = omega arith in
      let w : length (xs ++ ys ++ (b ∷ [])) ≡ length l = length-append (xs ++ ys) (b ∷ []) ∙ omega arith in
      ap (λ (s : List ℕ). set s (n + length ys) b) (after (omega arith))
      ∙ ap (λ (k : ℕ). set (pasted l 0 (xs ++ ys)) k b) at
      ∙ paste_snoc l 0 (n + length ys) (xs ++ ys) b m (omega arith)
      ∙ paste_all l (xs ++ ys ++ (b ∷ [])) w

-- one byte, and a part straight after it
pub put_byte : (l : List ℕ) (b : ℕ) (ys : List ℕ) → length l ≡ suc (length ys) → pasted (set l 0 b) 1 ys ≡ b ∷ ys
put_byte l b ys h =
    ap (λ (s : List ℕ). pasted s 1 ys) (store l 0 b (omega arith))
    ∙ put_two l (b ∷ []) ys 1 (omega arith) (omega arith)
