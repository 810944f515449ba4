-- Laws of pastes: lengths, one paste after another, single stores, parts that were lent and came back, and that bytes stay bytes.
use Rattle.std.proofs.Common.{◌≡◌, ℕ, suc, ◌+◌, ◌-◌, ◌<◌, ◌≤◌, List, [], ◌∷◌, ◌++◌, length, get_or, take, drop, set, sym, ap, ◌∙◌, append_assoc, append-nil, arith, lit<, length-append, length-drop, take-append-drop, drop_of_length-le, length-take, length-take-le, get_or-drop, get_or-take, drop-drop, take_at, drop_at}
use lib.ListN.{get_or-eq_default}
use lib.Seq.{sets, sets-eq, set_split, take-set-le, drop-append-add}
use borrow.Rule.Slice.PartMut.{put_mid}
use Rattle.octets.specs.Pastes.{pasted}
use Rattle.octets.proofs.ChoiceLaws.{by_order}
use Rattle.octets.proofs.FrontLaws.{bytes_join}

module _ {A : Type 0} (l : List A) (i : ℕ) where
  pub paste_none : pasted l i [] ≡ l
  unfolding pasted
  paste_none = let e : i + 0 ≡ i = omega arith in rw (e, append-nil) (take-append-drop i l)

  pub length_paste : (vs : List A) → i + length vs ≤ length l → length (pasted l i vs) ≡ length l
  unfolding pasted
  length_paste vs h = simp (length-append, length-drop, length-take-le i l (omega arith)) (omega arith)

  -- a paste straight after a paste
  pub paste_paste : (xs ys : List A) → i + length xs ≤ length l → pasted (pasted l i xs) (i + length xs) ys ≡ pasted l i (xs ++ ys)
  unfolding pasted
  paste_paste xs ys h =
      let n : length (take i l ++ xs) ≡ i + length xs = simp (length-append, length-take-le i l (omega arith)) in
      let t : take (i + length xs) (take i l ++ xs ++ drop (i + length xs) l) ≡ take i l ++ xs = take_at (take i l ++ xs) _ _ n in
      let d : drop (i + length xs + length ys) (take i l ++ xs ++ drop (i + length xs) l) ≡ drop (length ys) (drop (i + length xs) l) =
      ap (λ (k : ℕ). drop (k + length ys) (take i l ++ xs ++ drop (i + length xs) l)) (sym n)
      ∙ drop-append-add (take i l ++ xs) (drop (i + length xs) l) (length ys)
      in
      let e : i + length xs + length ys ≡ i + (length xs + length ys) = omega arith in
      rw (t, d, drop-drop, length-append, e) (simp append_assoc)

  -- stores one after another are a paste
  pub stores : (vs : List A) → i + length vs ≤ length l → sets l i vs ≡ pasted l i vs
  unfolding pasted
  stores vs h = sets-eq vs l i h

  pub store : (a : A) → i < length l → set l i a ≡ pasted l i (a ∷ [])
  store a h = stores (a ∷ []) (omega arith)

-- a paste at the front
pub paste_front : {A : Type 0} (l vs : List A) → pasted l 0 vs ≡ vs ++ drop (length vs) l
unfolding pasted
paste_front l vs = let e : 0 + length vs ≡ length vs = omega arith in rw e

-- a paste up to the end
pub paste_end : {A : Type 0} (l : List A) (i : ℕ) (vs : List A) → i + length vs ≡ length l → pasted l i vs ≡ take i l ++ vs
unfolding pasted
paste_end l i vs h = rw (drop_of_length-le l {i = i + length vs} (omega arith), append-nil)

-- a paste over the middle of three parts
pub paste_over : {A : Type 0} (xs ys zs vs : List A) (i : ℕ) → length xs ≡ i → length vs ≡ length ys
    → pasted (xs ++ (ys ++ zs)) i vs ≡ xs ++ (vs ++ zs)
unfolding pasted
paste_over xs ys zs vs i l m =
    let n : length (xs ++ ys) ≡ i + length vs = length-append xs ys ∙ omega arith in
    let d : drop (i + length vs) (xs ++ (ys ++ zs)) ≡ zs =
    ap (drop (i + length vs)) (sym (append_assoc xs ys zs)) ∙ drop_at (xs ++ ys) zs (i + length vs) n
    in
    rw (take_at xs (ys ++ zs) i l, d) (append_assoc xs vs zs)

-- one element stored straight after a paste
pub paste_snoc : {A : Type 0} (l : List A) (i n : ℕ) (vs : List A) (v : A) → length vs ≡ n → i + n < length l
    → set (pasted l i vs) (i + n) v ≡ pasted l i (vs ++ (v ∷ []))
paste_snoc l i n vs v e h =
    let m = length_paste l i vs (omega arith) in
    store (pasted l i vs) (i + n) v (omega arith) ∙ rw (← e) (paste_paste l i vs (v ∷ []) (omega arith))

-- a part that was lent as `&mut l[i..i + k]` and came back as ys
pub part_back : {A : Type 0} (l : List A) (i k : ℕ) (ys : List A) → length ys ≡ k → put_mid i k l ys ≡ pasted l i ys
unfolding pasted
part_back l i k ys h = rw (drop-drop k i l, h, append_assoc)

-- a part that was lent as `&l[i..e]` has the length that its ends say
pub length_part : {A : Type 0} (l : List A) (i e : ℕ) → i ≤ e → e ≤ length l → length (take (e - i) (drop i l)) ≡ e - i
length_part l i e p q = length-take-le (e - i) (drop i l) (rw length-drop (omega arith))

-- the last element of a paste may be stored first
pub paste_last : {A : Type 0} (l : List A) (i n : ℕ) (vs : List A) (v : A) → length vs ≡ n → i + n < length l
    → pasted l i (vs ++ (v ∷ [])) ≡ pasted (set l (i + n) v) i vs
unfolding pasted
paste_last l i n vs v e h =
    let k : i + length (vs ++ (v ∷ [])) ≡ suc (i + n) = rw length-append (omega arith) in
    let d : drop (i + n) (set l (i + n) v) ≡ v ∷ drop (suc (i + n)) l =
    ap (drop (i + n)) (set_split l (i + n) v h) ∙ drop_at (take (i + n) l) (v ∷ drop (suc (i + n)) l) (i + n) (length-take-le (i + n) l (omega arith))
    in
    rw (k, e, d, take-set-le i l (i + n) v (omega arith)) (simp append_assoc)

-- a paste over the whole
pub paste_all : {A : Type 0} (l vs : List A) → length vs ≡ length l → pasted l 0 vs ≡ vs
paste_all l vs h = paste_front l vs ∙ rw (drop_of_length-le l {i = length vs} (omega arith), append-nil)

-- bytes pasted over bytes are bytes
pub paste_bytes : (l : List ℕ) (at : ℕ) (vs : List ℕ) → ((i : ℕ) → get_or l i 0 < 256) → ((i : ℕ) → get_or vs i 0 < 256)
    → (i : ℕ) → get_or (pasted l at vs) i 0 < 256
unfolding pasted
paste_bytes l at vs f g = bytes_join (take at l ++ vs) (drop (at + length vs) l) (bytes_join (take at l) vs front g) behind
  where
    front : (i : ℕ) → get_or (take at l) i 0 < 256
    front i =
        by_order at i
        (λ h. rw (get_or-eq_default (take at l) 0 {n = i} (omega (arith, length-take at l))) (lit< tt))
        (λ h. rw (get_or-take at l i 0 h) (f i))

    behind : (i : ℕ) → get_or (drop (at + length vs) l) i 0 < 256
    behind i = rw (get_or-drop (at + length vs) l i 0) (f (at + length vs + i))
