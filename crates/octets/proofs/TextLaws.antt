-- Laws of fixed texts: the steps of a comparison, its bound, and that a text stands where it is found.
use Rattle.std.proofs.Common.{◌≡◌, ℕ, suc, ◌+◌, ◌<◌, ◌≤◌, Bool, true, eqb, List, [], ◌∷◌, ◌++◌, length, get_or, take, drop, sym, refl, ap, ◌∙◌, add-zero, le_antisymm, add-one, arith, lit≤, length-append, take_all, drop-cons, eq-eqb, ne_eqb, eqb-true}
use lib.Seq.{drop-length, take-length}
use borrow.Author.Tests.{eqb-false}
use Rattle.octets.specs.Choice.{pick, both, either}
use Rattle.octets.specs.Texts.{differ, has}
use Rattle.octets.proofs.ChoiceLaws.{by_test, same_test}

pub differ_bound : (s : List ℕ) (at : ℕ) (want : List ℕ) → differ s at want ≤ length want
unfolding differ
differ_bound s at [] = lit≤ tt
differ_bound s at (w ∷ ws) =
    by_test (eqb (get_or s at 0) w)
    (λ e. rw e (omega (arith, differ_bound s (at + 1) ws)))
    (λ e. rw e (omega arith))

module _ (s want : List ℕ) (at i : ℕ) where
  differ_step : i < length want
      → differ s (at + i) (drop i want) ≡ pick (eqb (get_or s (at + i) 0) (get_or want i 0)) (suc (differ s (at + (i + 1)) (drop (i + 1) want))) 0
  unfolding differ
  differ_step h =
      let e : at + i + 1 ≡ at + (i + 1) = omega arith in
      rw (drop-cons want i 0, e, add-one i)

  pub differ_here : i < length want → (get_or s (at + i) 0 ≡ get_or want i 0 → ⊥) → differ s (at + i) (drop i want) ≡ 0
  differ_here h ne = differ_step h ∙ rw (ne_eqb (get_or s (at + i) 0) (get_or want i 0) ne)

  pub differ_on : i < length want → get_or s (at + i) 0 ≡ get_or want i 0
      → differ s (at + i) (drop i want) ≡ suc (differ s (at + (i + 1)) (drop (i + 1) want))
  differ_on h e = differ_step h ∙ rw (eq-eqb (get_or s (at + i) 0) (get_or want i 0) e)

  pub differ_done : i ≤ length want → length want ≤ i → differ s (at + i) (drop i want) ≡ 0
  unfolding differ
  differ_done h k = rw (le_antisymm h k, drop-length)

-- a text is found exactly where it stands
module _ (s : List ℕ) where
  pub has_part : (at : ℕ) (want : List ℕ) → at + length want ≤ length s → has s at want ≡ true → take (length want) (drop at s) ≡ want
  unfolding differ
  has_part at [] h e = refl
  has_part at (w ∷ ws) h e =
      by_test (eqb (get_or s at 0) w)
      (λ t.
      let d : differ s (at + 1) ws ≡ length ws = omega (arith, eqb-true (suc (differ s (at + 1) ws)) (suc (length ws)) (rw t at e)) in
      rw (drop-cons s at 0 (omega arith), ← add-one at, has_part (at + 1) ws (omega arith) (eq-eqb _ _ d), eqb-true (get_or s at 0) w t))
      (λ t. absurd (let d : 0 ≡ suc (length ws) = eqb-true 0 (suc (length ws)) (rw t at e) in omega arith))

  pub part_has : (at : ℕ) (want : List ℕ) → at + length want ≤ length s → take (length want) (drop at s) ≡ want → has s at want ≡ true
  unfolding differ
  part_has at [] h e = refl
  part_has at (w ∷ ws) h e =
      let c : get_or s at 0 ∷ take (length ws) (drop (suc at) s) ≡ w ∷ ws = rw (drop-cons s at 0 (omega arith)) at e in
      let t : get_or s at 0 ≡ w = cc in
      let r : take (length ws) (drop (at + 1) s) ≡ ws = rw (add-one at) (cc) in
      let d = eqb-true (differ s (at + 1) ws) (length ws) (part_has (at + 1) ws (omega arith) r) in
      rw (eq-eqb (get_or s at 0) w t) (eq-eqb (suc (differ s (at + 1) ws)) (suc (length ws)) (omega arith))

-- what stands before the first byte that differs is the text's, and that byte is not
module _ (s : List ℕ) where
  pub differ_front : (at : ℕ) (want : List ℕ) → at + length want ≤ length s → take (differ s at want) (drop at s) ≡ take (differ s at want) want
  unfolding differ
  differ_front at [] h = refl
  differ_front at (w ∷ ws) h =
      by_test (eqb (get_or s at 0) w)
      (λ t. rw (t, drop-cons s at 0 (omega arith), ← add-one at) (λ k. eqb-true (get_or s at 0) w t k ∷ differ_front (at + 1) ws (omega arith) k))
      (λ t. rw t)

  pub differ_there : (at : ℕ) (want : List ℕ) → differ s at want < length want → get_or s (at + differ s at want) 0 ≡ get_or want (differ s at want) 0 → ⊥
  unfolding differ
  differ_there at [] h e = omega arith
  differ_there at (w ∷ ws) h e =
      by_test (eqb (get_or s at 0) w)
      (λ t.
      let next : at + suc (differ s (at + 1) ws) ≡ at + 1 + differ s (at + 1) ws = omega arith in
      differ_there (at + 1) ws (omega (arith, rw t at h)) (rw (t, next) at e))
      (λ t. eqb-false (get_or s at 0) w t (rw (t, add-zero at) at e))

-- a list in which all of a text stands, and no more, is the text
pub text_whole : (s want : List ℕ) → length want ≡ length s → differ s 0 want ≡ length s → s ≡ want
text_whole s want long e =
    sym (take_all (length want) s (omega arith)) ∙ has_part s 0 want (omega arith) (eq-eqb (differ s 0 want) (length want) (e ∙ sym long))

-- a text stands in itself
pub text_self : (t : List ℕ) → has t 0 t ≡ true
text_self t = part_has t 0 t (omega arith) (take-length t)

eqb_suc : (a b : ℕ) → eqb (suc a) (suc b) ≡ eqb a b
eqb_suc a b =
    same_test (eqb (suc a) (suc b)) (eqb a b)
    (λ e. eq-eqb a b (omega (arith, eqb-true (suc a) (suc b) e)))
    (λ e. eq-eqb (suc a) (suc b) (omega (arith, eqb-true a b e)))

-- one byte stands where it is
pub has_byte : (s : List ℕ) (at c : ℕ) → has s at (c ∷ []) ≡ eqb (get_or s at 0) c
unfolding differ
has_byte s at c =
    by_test (eqb (get_or s at 0) c)
    (λ e. rw e)
    (λ e. rw e)

-- a text of two parts stands where each part does
pub has_append : (s : List ℕ) (at : ℕ) (xs ys : List ℕ) → has s at (xs ++ ys) ≡ both (has s at xs) (has s (at + length xs) ys)
unfolding differ
has_append s at [] ys = rw (add-zero at)
has_append s at (x ∷ xs) ys =
    let next : at + 1 + length xs ≡ at + suc (length xs) = omega arith in
    by_test (eqb (get_or s at 0) x)
    (λ e.
    rw (e, ← next)
    (eqb_suc (differ s (at + 1) (xs ++ ys)) (length (xs ++ ys))
    ∙ has_append s (at + 1) xs ys
    ∙ ap (λ (b : Bool). both b (has s (at + 1 + length xs) ys)) (sym (eqb_suc (differ s (at + 1) xs) (length xs)))))
    (λ e. rw (e, ne_eqb 0 (suc (length (xs ++ ys))) (λ z. omega arith), ne_eqb 0 (suc (length xs)) (λ z. omega arith)))

-- a text whose last byte may be another too, by a test of its own: the front stands, and the last byte or the test does
pub ends_either : (s : List ℕ) (at : ℕ) (xs : List ℕ) (c : ℕ) (other : Bool)
    → either (has s at (xs ++ (c ∷ []))) (both (eqb (suc (differ s at (xs ++ (c ∷ [])))) (length (xs ++ (c ∷ [])))) other)
    ≡ both (has s at xs) (either (eqb (get_or s (at + length xs) 0) c) other)
unfolding differ
ends_either s at [] c other =
    rw (add-zero at)
    (by_test (eqb (get_or s at 0) c)
    (λ e. rw e)
    (λ e. rw e))
ends_either s at (x ∷ xs) c other =
    let next : at + 1 + length xs ≡ at + suc (length xs) = omega arith in
    by_test (eqb (get_or s at 0) x)
    (λ e.
    let text = xs ++ (c ∷ []) in
    rw (e, ← next)
    ((λ k. either (eqb_suc (differ s (at + 1) text) (length text) k) (both (eqb_suc (suc (differ s (at + 1) text)) (length text) k) other))
    ∙ ends_either s (at + 1) xs c other
    ∙ ap (λ (b : Bool). both b (either (eqb (get_or s (at + 1 + length xs) 0) c) other)) (sym (eqb_suc (differ s (at + 1) xs) (length xs)))))
    (λ e.
    let text = xs ++ (c ∷ []) in
    let long : length text ≡ length xs + 1 = length-append xs (c ∷ []) in
    rw (e, ne_eqb 0 (suc (length text)) (λ z. omega arith), ne_eqb 1 (suc (length text)) (λ z. omega arith), ne_eqb 0 (suc (length xs)) (λ z. omega arith)))
