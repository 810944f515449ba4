-- Laws of places, over the base and the number of places: a number and its places restore each other.
use Rattle.std.proofs.Common.{◌≡◌, ℕ, zero, suc, ◌+◌, ◌*◌, ◌/◌, ◌%◌, ◌^◌, ◌<◌, ◌≤◌, List, [], ◌∷◌, ◌++◌, length, get_or, take, sym, refl, ap, ◌∙◌, add-zero, mul-le-mul_right, mod-lt, mod-eq_of_lt, div-lt_iff_lt-mul, pow-suc, div-add-mod', mul-div_cancel, arith, length-append, take-suc}
use native.Mathlib.Nat.{mul-add-div_right, mul-add-mod_self_right, div-eq_of_lt, pow-zero}
use lib.ListN.{get_or-append, get_or-eq_default}
use lib.Seq.{get_or_at}
use Rattle.octets.specs.Places.{places, value}
use Rattle.octets.proofs.ChoiceLaws.{by_order}

module _ (base : ℕ) where
  pub length_places : (n v : ℕ) → length (places base n v) ≡ n
  unfolding places
  length_places zero v = refl
  length_places (suc n) v = simp length-append (omega (arith, length_places n (v / base)))

  pub place_below : (n v i : ℕ) → 0 < base → get_or (places base n v) i 0 < base
  unfolding places
  place_below zero v i b = b
  place_below (suc n) v i b =
      let l = length_places n (v / base) in
      by_order (suc i) n
      (λ h. rw (get_or-append (places base n (v / base)) (v % base ∷ []) 0 i (omega arith)) (place_below n (v / base) i b))
      (λ h. by_order i n
      (λ k. let e : i ≡ n = omega arith in rw (e, get_or_at (places base n (v / base)) (v % base) [] 0 n l) (mod-lt v b))
      (λ k. rw (get_or-eq_default (places base n (v / base) ++ (v % base ∷ [])) 0 {n = i} (rw length-append (omega arith))) b))

  -- a value depends on its places alone
  pub value_same : (p q : ℕ → ℕ) (n : ℕ) → ((i : ℕ) → i < n → p i ≡ q i) → value base p n ≡ value base q n
  unfolding value
  value_same p q zero f = refl
  value_same p q (suc n) f = rw (value_same p q n (λ i h. f i (omega arith)), f n (omega arith))

  -- n places hold a number below base to the n
  pub value_below : (p : ℕ → ℕ) (n : ℕ) → ((i : ℕ) → i < n → p i < base) → value base p n < base ^ n
  unfolding value
  value_below p zero f = rw pow-zero (omega arith)
  value_below p (suc n) f =
      let ih = value_below p n (λ i h. f i (omega arith)) in
      let m : suc (value base p n) * base ≤ base ^ n * base = mul-le-mul_right base ih in
      let d : suc (value base p n) * base ≡ value base p n * base + base = omega arith in
      rw pow-suc (omega (arith, f n (omega arith)))

  -- the places of a number give the number back
  pub value_places : (n v : ℕ) → 0 < base → v < base ^ n → value base (λ (i : ℕ). get_or (places base n v) i 0) n ≡ v
  unfolding places value
  value_places zero v b h = omega (arith, rw pow-zero at h)
  value_places (suc n) v b h =
      let l = length_places n (v / base) in
      let e = value_same (λ (i : ℕ). get_or (places base n (v / base) ++ (v % base ∷ [])) i 0) (λ (i : ℕ). get_or (places base n (v / base)) i 0) n
      (λ i k. get_or-append (places base n (v / base)) (v % base ∷ []) 0 i (omega arith)) in
      let ih = value_places n (v / base) b ((div-lt_iff_lt-mul b).1 (rw pow-suc at h)) in
      rw (e, ih, get_or_at (places base n (v / base)) (v % base) [] 0 n l) (div-add-mod' v base)

  -- the places of a value are the places it was made of
  pub places_value : (l : List ℕ) (n : ℕ) → n ≤ length l → ((i : ℕ) → i < n → get_or l i 0 < base)
      → places base n (value base (λ (i : ℕ). get_or l i 0) n) ≡ take n l
  unfolding places value
  places_value l zero h f = refl
  places_value l (suc n) h f =
      let d = f n (omega arith) in
      let b : 0 < base = omega arith in
      let q : (value base (λ (i : ℕ). get_or l i 0) n * base + get_or l n 0) / base ≡ value base (λ (i : ℕ). get_or l i 0) n =
      mul-add-div_right b (value base (λ (i : ℕ). get_or l i 0) n) (get_or l n 0) ∙ rw (div-eq_of_lt d, add-zero)
      in
      let r : (value base (λ (i : ℕ). get_or l i 0) n * base + get_or l n 0) % base ≡ get_or l n 0 =
      mul-add-mod_self_right (value base (λ (i : ℕ). get_or l i 0) n) base (get_or l n 0) ∙ mod-eq_of_lt d
      in
      rw (q, r, places_value l n (omega arith) (λ i k. f i (omega arith))) (sym (take-suc l n 0 (omega arith)))

  -- values that agree in all places but one agree in that one too
  pub value_one : (p q : ℕ → ℕ) (n i : ℕ) → 0 < base → i < n → ((j : ℕ) → j < n → (j ≡ i → ⊥) → p j ≡ q j)
      → value base p n ≡ value base q n → p i ≡ q i
  unfolding value
  value_one p q zero i b h f e = absurd (omega arith)
  value_one p q (suc n) i b h f e =
      by_order (suc i) n
      (λ k.
      let last : p n ≡ q n = f n (omega arith) (λ m. omega arith) in
      let front : value base p n * base ≡ value base q n * base = omega arith in
      value_one p q n i b k (λ j m. f j (omega arith)) (sym (mul-div_cancel (value base p n) b) ∙ ap (λ (x : ℕ). x / base) front ∙ mul-div_cancel (value base q n) b))
      (λ k.
      let i-last : i ≡ n = omega arith in
      let same = value_same p q n (λ j m. f j (omega arith) (λ m2. omega arith)) in
      let front : value base p n * base ≡ value base q n * base = ap (λ (x : ℕ). x * base) same in
      rw i-last (omega arith))
