-- Parts of bytes: what a paste shows and what it leaves, and that a reader of a part reads no more than the part.
use Rattle.std.proofs.Common.{◌≡◌, ℕ, zero, suc, ◌+◌, ◌-◌, ◌<◌, ◌≤◌, eqb, List, [], ◌∷◌, ◌++◌, length, get_or, take, drop, sym, refl, ap, ◌∙◌, append_assoc, add-zero, arith, lit<, length-append, length-drop, take-append-drop, length-take-le, get_or-drop, get_or-take, drop-drop, drop_at}
use lib.Seq.{take-append-le, take-append_seam, drop-append-le, drop-append-add}
use Rattle.octets.specs.Digits.{digits_at, digit_of, decimal_at}
use Rattle.octets.specs.Texts.{differ, has}
use Rattle.octets.specs.Pastes.{pasted}
use Rattle.octets.proofs.PlaceLaws.{value_same}

-- a part that ends before the second list begins
pub part_front : {A : Type 0} (xs ys : List A) (at n : ℕ) → at + n ≤ length xs → take n (drop at (xs ++ ys)) ≡ take n (drop at xs)
part_front xs ys at n h =
    rw (drop-append-le at xs ys (omega arith)) (take-append-le n (drop at xs) ys (rw length-drop (omega arith)))

-- a part of a list's front is a part of the list
pub part_of_front : {A : Type 0} (l : List A) (i at n : ℕ) → i ≤ length l → at + n ≤ i → take n (drop at (take i l)) ≡ take n (drop at l)
part_of_front l i at n k h =
    let e = length-take-le i l k in
    sym (part_front (take i l) (drop i l) at n (omega arith)) ∙ ap (λ (x : List _). take n (drop at x)) (take-append-drop i l)

module _ {A : Type 0} (l : List A) (i : ℕ) (vs : List A) where
  -- a paste shows itself
  pub paste_shown : i ≤ length l → take (length vs) (drop i (pasted l i vs)) ≡ vs
  unfolding pasted
  paste_shown h =
      let e = drop_at (take i l) (vs ++ drop (i + length vs) l) i (length-take-le i l h) in
      rw (append_assoc, e) (take-append_seam vs (drop (i + length vs) l))

  -- what lies before a paste, and behind it, is left as it was
  pub paste_before : (at n : ℕ) → i ≤ length l → at + n ≤ i → take n (drop at (pasted l i vs)) ≡ take n (drop at l)
  unfolding pasted
  paste_before at n k h =
      let e = length-take-le i l k in
      rw append_assoc (part_front (take i l) (vs ++ drop (i + length vs) l) at n (omega arith))
      ∙ part_of_front l i at n k h

  pub paste_behind : (at n : ℕ) → i + length vs ≤ length l → i + length vs ≤ at → take n (drop at (pasted l i vs)) ≡ take n (drop at l)
  unfolding pasted
  paste_behind at n k h =
      let p : length (take i l ++ vs) ≡ i + length vs = simp (length-append, length-take-le i l (omega arith)) in
      let m = at - (i + length vs) in
      let e : at ≡ i + length vs + m = omega arith in
      let f : at ≡ length (take i l ++ vs) + m = omega arith in
      ap (λ (a : ℕ). take n (drop a (take i l ++ vs ++ drop (i + length vs) l))) f
      ∙ ap (take n) (drop-append-add (take i l ++ vs) (drop (i + length vs) l) m ∙ drop-drop m (i + length vs) l)
      ∙ ap (λ (a : ℕ). take n (drop a l)) (sym e)

-- a byte of a part
pub byte_part : (s : List ℕ) (at n i : ℕ) → i < n → get_or (take n (drop at s)) i 0 ≡ get_or s (at + i) 0
byte_part s at n i h = get_or-take n (drop at s) i 0 h ∙ get_or-drop at s i 0

-- a part of bytes is bytes
front_bytes : (n : ℕ) (s : List ℕ) → ((i : ℕ) → get_or s i 0 < 256) → (i : ℕ) → get_or (take n s) i 0 < 256
front_bytes zero s f i = lit< tt
front_bytes (suc n) [] f i = lit< tt
front_bytes (suc n) (x ∷ s) f zero = f 0
front_bytes (suc n) (x ∷ s) f (suc i) = front_bytes n s (λ j. f (suc j)) i

pub part_bytes : (s : List ℕ) (at n : ℕ) → ((i : ℕ) → get_or s i 0 < 256) → (i : ℕ) → get_or (take n (drop at s)) i 0 < 256
part_bytes s at n f = front_bytes n (drop at s) (λ i. rw (get_or-drop at s i 0) (f (at + i)))

-- readers of the same bytes read the same
digits_same : (s t : List ℕ) (a b n : ℕ) → ((i : ℕ) → i < n → get_or s (a + i) 0 ≡ get_or t (b + i) 0) → digits_at s a n ≡ digits_at t b n
unfolding digits_at
digits_same s t a b zero f = refl
digits_same s t a b (suc n) f =
    let first : get_or s a 0 ≡ get_or t b 0 = rw (add-zero a, add-zero b) at (f 0 (omega arith)) in
    let rest = digits_same s t (a + 1) (b + 1) n
    (λ i h.
    let p : a + 1 + i ≡ a + suc i = omega arith in
    let q : b + 1 + i ≡ b + suc i = omega arith in
    rw (p, q) (f (suc i) (omega arith)))
    in
    rw (first, rest)

differ_same : (s t : List ℕ) (a b : ℕ) (want : List ℕ) → ((i : ℕ) → i < length want → get_or s (a + i) 0 ≡ get_or t (b + i) 0)
    → differ s a want ≡ differ t b want
unfolding differ
differ_same s t a b [] f = refl
differ_same s t a b (w ∷ ws) f =
    let first : get_or s a 0 ≡ get_or t b 0 = rw (add-zero a, add-zero b) at (f 0 (omega arith)) in
    let rest = differ_same s t (a + 1) (b + 1) ws
    (λ i h.
    let p : a + 1 + i ≡ a + suc i = omega arith in
    let q : b + 1 + i ≡ b + suc i = omega arith in
    rw (p, q) (f (suc i) (omega arith)))
    in
    rw (first, rest)

-- the readers of bytes, seen from the part that they read
module _ (s : List ℕ) (at n : ℕ) where
  part_byte : (i : ℕ) → i < n → get_or s (at + i) 0 ≡ get_or (take n (drop at s)) (0 + i) 0
  part_byte i h = let e : 0 + i ≡ i = omega arith in rw e (sym (byte_part s at n i h))

  pub decimal_part : decimal_at s at n ≡ decimal_at (take n (drop at s)) 0 n
  decimal_part =
      value_same 10 (λ (i : ℕ). digit_of (get_or s (at + i) 0)) (λ (i : ℕ). digit_of (get_or (take n (drop at s)) (0 + i) 0)) n
      (λ i h. ap digit_of (part_byte i h))

  pub digits_part : digits_at s at n ≡ digits_at (take n (drop at s)) 0 n
  digits_part = digits_same s (take n (drop at s)) at 0 n part_byte

pub text_part : (s : List ℕ) (at : ℕ) (want : List ℕ) → has s at want ≡ has (take (length want) (drop at s)) 0 want
text_part s at want =
    ap (λ (k : ℕ). eqb k (length want)) (differ_same s (take (length want) (drop at s)) at 0 want (part_byte s at (length want)))

-- and from two lists that hold the same part
module _ (s t : List ℕ) (at n : ℕ) (same : take n (drop at s) ≡ take n (drop at t)) where
  pub byte_alike : (i : ℕ) → i < n → get_or s (at + i) 0 ≡ get_or t (at + i) 0
  byte_alike i h = sym (byte_part s at n i h) ∙ ap (λ (l : List ℕ). get_or l i 0) same ∙ byte_part t at n i h

  pub decimal_alike : decimal_at s at n ≡ decimal_at t at n
  decimal_alike = decimal_part s at n ∙ ap (λ (l : List ℕ). decimal_at l 0 n) same ∙ sym (decimal_part t at n)

  pub digits_alike : digits_at s at n ≡ digits_at t at n
  digits_alike = digits_part s at n ∙ ap (λ (l : List ℕ). digits_at l 0 n) same ∙ sym (digits_part t at n)

pub text_alike : (s t : List ℕ) (at : ℕ) (want : List ℕ) → take (length want) (drop at s) ≡ take (length want) (drop at t)
    → has s at want ≡ has t at want
text_alike s t at want same = text_part s at want ∙ ap (λ (l : List ℕ). has l 0 want) same ∙ sym (text_part t at want)

-- lists with the same front hold the same parts of it
pub part_alike : {A : Type 0} (s t : List A) (i at n : ℕ) → i ≤ length s → i ≤ length t → at + n ≤ i → take i s ≡ take i t
    → take n (drop at s) ≡ take n (drop at t)
part_alike s t i at n ls lt h e =
    sym (part_of_front s i at n ls h) ∙ ap (λ (l : List _). take n (drop at l)) e ∙ part_of_front t i at n lt h
