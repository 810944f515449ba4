-- Lists by their places, and parts of one width: each part of what was joined, a list cut and joined, one part replaced.
use Rattle.std.proofs.Common.{◌≡◌, ℕ, zero, suc, ◌+◌, ◌-◌, ◌*◌, ◌/◌, ◌%◌, ◌<◌, ◌≤◌, List, [], ◌∷◌, ◌++◌, map, length, get_or, take, drop, set, sym, refl, ap, ◌∙◌, subst, append_assoc, mul-le-mul_right, mod-lt, div-lt_iff_lt-mul, add-mul, mul-le-mul, div-add-mod', zero-mul, add-one, arith, length-append, length-drop, length-set, length-take-le, get_or-drop, take_all, get_or-set_other, get_or-take, get_or-set_same, drop-set-lt, ext_get_or, take-add, drop_at}
use lib.Seq.{take-append-le, take-append-add, drop-append-add, drop-append-le, take-set-lt, take-set-le, drop-set-add}
use Rattle.octets.specs.Pastes.{pasted}
use Rattle.octets.proofs.ChoiceLaws.{by_order, by_equal}
use Rattle.octets.proofs.PartLaws.{paste_shown, paste_before, paste_behind}
use Rattle.octets.proofs.PasteLaws.{length_paste, paste_paste}
use Rattle.octets.specs.Parts.{listed, part, joined}

module _ {A : Type 0} where
  pub length_listed : (f : ℕ → A) (n : ℕ) → length (listed f n) ≡ n
  unfolding listed
  length_listed f zero = refl
  length_listed f (suc n) = ap suc (length_listed (λ (i : ℕ). f (suc i)) n)

  pub get_or_listed : (f : ℕ → A) (n i : ℕ) (d : A) → i < n → get_or (listed f n) i d ≡ f i
  unfolding listed
  get_or_listed f zero i d h = absurd (omega arith)
  get_or_listed f (suc n) zero d h = refl
  get_or_listed f (suc n) (suc i) d h = get_or_listed (λ (j : ℕ). f (suc j)) n i d (omega arith)

  pub listed_same : (f g : ℕ → A) (n : ℕ) → ((i : ℕ) → i < n → f i ≡ g i) → listed f n ≡ listed g n
  unfolding listed
  listed_same f g zero same = refl
  listed_same f g (suc n) same =
      let rest = listed_same (λ (i : ℕ). f (suc i)) (λ (i : ℕ). g (suc i)) n (λ i h. same (suc i) (omega arith)) in
      λ j. same 0 (omega arith) j ∷ rest j

  -- one place more
  pub listed_last : (f : ℕ → A) (n : ℕ) → listed f (suc n) ≡ listed f n ++ (f n ∷ [])
  unfolding listed
  listed_last f zero = refl
  listed_last f (suc n) = ap (λ (l : List A). f 0 ∷ l) (listed_last (λ (i : ℕ). f (suc i)) n)

  -- a list is what stands at its places
  pub listed_is : (f : ℕ → A) (n : ℕ) (d : A) (l : List A) → length l ≡ n → ((i : ℕ) → i < n → f i ≡ get_or l i d) → listed f n ≡ l
  listed_is f n d l e same =
      let m = length_listed f n in
      ext_get_or d (listed f n) l (m ∙ sym e) (λ i h. get_or_listed f n i d (omega arith) ∙ same i (omega arith))

-- parts that are equal, joined
pub joined_same : {A : Type 0} (f g : ℕ → List A) (n : ℕ) → ((k : ℕ) → k < n → f k ≡ g k) → joined f n ≡ joined g n
unfolding joined
joined_same f g zero same = refl
joined_same f g (suc n) same = rw (joined_same f g n (λ k h. same k (omega arith)), same n (omega arith))

-- a paste behind a front
pub paste_append : {A : Type 0} (xs l : List A) (i n : ℕ) (vs : List A) → length xs ≡ n → pasted (xs ++ l) (n + i) vs ≡ xs ++ pasted l i vs
unfolding pasted
paste_append xs l i n vs e =
    let at : length xs + i + length vs ≡ length xs + (i + length vs) = omega arith in
    rw (← e, at, take-append-add xs l i, drop-append-add xs l (i + length vs)) (simp append_assoc)

-- parts of one width, side by side
pub next_part : (k width : ℕ) → (k + 1) * width ≡ k * width + width
next_part k width = add-mul k 1 width ∙ omega arith

pub part_within : (k n width : ℕ) → k < n → k * width + width ≤ n * width
part_within k n width h =
    let up : (k + 1) * width ≤ n * width = mul-le-mul_right width (omega arith) in
    omega (arith, next_part k width)

-- two of them do not meet
pub parts_apart : {C : Type 0} (a b width : ℕ) → (a ≡ b → ⊥) → (a * width + width ≤ b * width → C) → (b * width + width ≤ a * width → C) → C
parts_apart a b width other f g = by_order a b (λ h. f (part_within a b width (omega arith))) (λ h. g (part_within b a width h))

-- places of different parts, or different places of one part, differ
pub places_apart : (c p k i width : ℕ) → p < width → i < width → (k ≡ c → i ≡ p → ⊥) → k * width + i ≡ c * width + p → ⊥
places_apart c p k i width hp hi other e =
    by_equal k c
    (λ same.
    let m : k * width ≡ c * width = ap (λ (x : ℕ). x * width) same in
    other same (omega arith))
    (λ apart. parts_apart k c width apart (λ u. omega arith) (λ u. omega arith))

pub parts_small : (n width : ℕ) → n ≤ 3601 → width ≤ 7214 → n * width ≤ 3601 * 7214
parts_small n width h w = mul-le-mul h w

-- an index among n parts lies in one part, at a place of it
pub record Split (n width i : ℕ) : Type 0 where
  pub part : i / width < n
  pub place : i % width < width
  pub is : i / width * width + i % width ≡ i

pub split : (n width i : ℕ) → i < n * width → Split n width i
split n zero i h = absurd (omega arith)
split n (suc w) i h =
    let b : 0 < suc w = omega arith in
    record { part = (div-lt_iff_lt-mul b).1 h; place = mod-lt i b; is = div-add-mod' i (suc w) }

module _ {A : Type 0} (width : ℕ) where
  pub length_part : (l : List A) (n k : ℕ) → length l ≡ n * width → k < n → length (part width l k) ≡ width
  length_part l n k e h =
      let w = part_within k n width h in
      length-take-le width (drop (k * width) l) (rw length-drop (omega arith))

  pub get_or_part : (l : List A) (k i : ℕ) (d : A) → i < width → get_or (part width l k) i d ≡ get_or l (k * width + i) d
  get_or_part l k i d h = get_or-take width (drop (k * width) l) i d h ∙ get_or-drop (k * width) l i d

  -- parts of a list, joined, are its front
  pub joined_parts : (f : ℕ → List A) (l : List A) (n : ℕ) → ((k : ℕ) → k < n → f k ≡ part width l k) → joined f n ≡ take (n * width) l
  unfolding joined
  joined_parts f l zero same = rw (zero-mul width)
  joined_parts f l (suc n) same =
      let e : suc n * width ≡ n * width + width = omega arith in
      rw (joined_parts f l n (λ k h. same k (omega arith)), same n (omega arith), e, take-add (n * width) width l)

  -- and the whole list, where there is no more of it
  pub joined_all : (f : ℕ → List A) (l : List A) (n : ℕ) → length l ≡ n * width → ((k : ℕ) → k < n → f k ≡ part width l k) → joined f n ≡ l
  joined_all f l n e same = joined_parts f l n same ∙ take_all (n * width) l (omega arith)

  -- what was joined
  pub length_joined : (f : ℕ → List A) (n : ℕ) → ((k : ℕ) → k < n → length (f k) ≡ width) → length (joined f n) ≡ n * width
  unfolding joined
  length_joined f zero long = rw (zero-mul width)
  length_joined f (suc n) long =
      length-append (joined f n) (f n) ∙ omega (arith, length_joined f n (λ k h. long k (omega arith)), long n (omega arith))

  pub part_joined : (f : ℕ → List A) (n : ℕ) → ((k : ℕ) → k < n → length (f k) ≡ width) → (k : ℕ) → k < n → part width (joined f n) k ≡ f k
  unfolding joined
  part_joined f zero long k h = absurd (omega arith)
  part_joined f (suc n) long k h =
      let before : (j : ℕ) → j < n → length (f j) ≡ width = λ j u. long j (omega arith) in
      let l = length_joined f n before in
      by_order (suc k) n
      (λ u.
      let w = part_within k n width u in
      rw (drop-append-le (k * width) (joined f n) (f n) (omega arith))
      (take-append-le width (drop (k * width) (joined f n)) (f n) (rw length-drop (omega arith)) ∙ part_joined f n before k u))
      (λ u.
      let e : k ≡ n = omega arith in
      rw (e, drop_at (joined f n) (f n) (n * width) l) (take_all width (f n) (omega (arith, long n (omega arith)))))

  -- one part more, put where it stands
  pub joined_put : (f : ℕ → List A) (n : ℕ) → ((k : ℕ) → k < n → length (f k) ≡ width) → (out : List A) → length out ≡ n * width
      → (k : ℕ) → k < n → pasted (pasted out 0 (joined f k)) (k * width) (f k) ≡ pasted out 0 (joined f (k + 1))
  unfolding joined
  joined_put f n long out room k h =
      let e : 0 + length (joined f k) ≡ k * width = omega (arith, length_joined f k (λ j u. long j (omega arith))) in
      rw (add-one k, ← e) (paste_paste out 0 (joined f k) (f k) (omega (arith, part_within k n width h)))

  -- lists are equal by their parts
  pub same_parts : (l m : List A) (n : ℕ) → length l ≡ n * width → length m ≡ n * width → ((k : ℕ) → k < n → part width l k ≡ part width m k) → l ≡ m
  same_parts l m n a b same = sym (joined_all (part width l) l n a (λ k h. refl)) ∙ joined_all (part width l) m n b same

  -- one part replaced: it is there, and every other part is as it was
  module _ (l : List A) (n c : ℕ) (long : length l ≡ n * width) (h : c < n) (vs : List A) (wide : length vs ≡ width) where
    fits : c * width + length vs ≤ length l
    fits = omega (arith, part_within c n width h)

    pub length_replaced : length (pasted l (c * width) vs) ≡ length l
    length_replaced = length_paste l (c * width) vs fits

    pub part_replaced : part width (pasted l (c * width) vs) c ≡ vs
    part_replaced =
        ap (λ (m : ℕ). take m (drop (c * width) (pasted l (c * width) vs))) (sym wide) ∙ paste_shown l (c * width) vs (omega (arith, fits))

    pub part_kept : (k : ℕ) → (k ≡ c → ⊥) → part width (pasted l (c * width) vs) k ≡ part width l k
    part_kept k other =
        parts_apart k c width other
        (λ u. paste_before l (c * width) vs (k * width) width (omega (arith, fits)) u)
        (λ u. paste_behind l (c * width) vs (k * width) width fits (omega arith))

  -- one element replaced is its part replaced
  module _ (l : List A) (n c i : ℕ) (long : length l ≡ n * width) (h : c < n) (u : i < width) (a : A) where
    pub set_in_part : set l (c * width + i) a ≡ pasted l (c * width) (set (part width l c) i a)
    set_in_part =
        let vs = set (part width l c) i a in
        let wide : length vs ≡ width = length-set (part width l c) i a ∙ length_part l n c long h in
        same_parts (set l (c * width + i) a) (pasted l (c * width) vs) n (length-set l (c * width + i) a ∙ long)
        (length_replaced l n c long h vs wide ∙ long)
        (λ k v. by_equal k c
        (λ same. rw same (own ∙ sym (part_replaced l n c long h vs wide)))
        (λ other. others k other ∙ sym (part_kept l n c long h vs wide k other)))
      where
        own : part width (set l (c * width + i) a) c ≡ set (part width l c) i a
        own = ap (take width) (drop-set-add (c * width) l i a) ∙ take-set-lt width (drop (c * width) l) i a u

        others : (k : ℕ) → (k ≡ c → ⊥) → part width (set l (c * width + i) a) k ≡ part width l k
        others k other =
            parts_apart k c width other
            (λ v.
            let j = c * width + i - k * width in
            let at : k * width + j ≡ c * width + i = omega arith in
            rw (← at) (ap (take width) (drop-set-add (k * width) l j a) ∙ take-set-le width (drop (k * width) l) j a (omega arith)))
            (λ v. ap (take width) (drop-set-lt (k * width) l (c * width + i) a (omega arith)))

  -- what holds of each element holds of each element of each part, and the other way
  pub part_each : (P : A → Type 0) (l : List A) (n : ℕ) (d : A) → ((j : ℕ) → j < n * width → P (get_or l j d))
      → (k : ℕ) → k < n → (i : ℕ) → i < width → P (get_or (part width l k) i d)
  part_each P l n d f k h i u =
      let w = part_within k n width h in
      subst P (sym (get_or_part l k i d u)) (f (k * width + i) (omega arith))

  pub each_part : (P : A → Type 0) (l : List A) (n : ℕ) (d : A) → ((k : ℕ) → k < n → (i : ℕ) → i < width → P (get_or (part width l k) i d))
      → (j : ℕ) → j < n * width → P (get_or l j d)
  each_part P l n d f j h =
      let at = split n width j h in
      let e : get_or (part width l (j / width)) (j % width) d ≡ get_or l j d =
      get_or_part l (j / width) (j % width) d at.place ∙ ap (λ (m : ℕ). get_or l m d) at.is
      in
      subst P e (f (j / width) at.part (j % width) at.place)

-- what holds of each element still does where one is replaced by another of which it holds
pub each_set : {A : Type 0} (P : A → Type 0) (l : List A) (j : ℕ) (a d : A) → P a → ((i : ℕ) → i < length l → P (get_or l i d))
    → (i : ℕ) → i < length (set l j a) → P (get_or (set l j a) i d)
each_set P l j a d p f i h =
    let u : i < length l = omega (arith, length-set l j a) in
    by_equal i j
    (λ same. let v : j < length l = omega arith in rw (same, get_or-set_same l j a d v) p)
    (λ other. rw (get_or-set_other l j i a d other) (f i u))

-- every element changed alike: a front, a rest, one element set, a part
module _ {A B : Type 0} (f : A → B) where
  pub map_take : (n : ℕ) (l : List A) → take n (map f l) ≡ map f (take n l)
  map_take zero l = refl
  map_take (suc n) [] = refl
  map_take (suc n) (x ∷ l) = ap (λ (r : List B). f x ∷ r) (map_take n l)

  map_drop : (n : ℕ) (l : List A) → drop n (map f l) ≡ map f (drop n l)
  map_drop zero l = refl
  map_drop (suc n) [] = refl
  map_drop (suc n) (x ∷ l) = map_drop n l

  pub map_set : (l : List A) (i : ℕ) (a : A) → map f (set l i a) ≡ set (map f l) i (f a)
  map_set [] i a = refl
  map_set (x ∷ l) zero a = refl
  map_set (x ∷ l) (suc i) a = ap (λ (r : List B). f x ∷ r) (map_set l i a)

  pub part_map : (width : ℕ) (l : List A) (k : ℕ) → part width (map f l) k ≡ map f (part width l k)
  part_map width l k = ap (take width) (map_drop (k * width) l) ∙ map_take width (drop (k * width) l)

-- parts made of parts, of another width: one replaced on both sides
module _ {A B : Type 0} (width wide : ℕ) (f : ℕ → List A → List B)
    (long : (k : ℕ) (vs : List A) → length vs ≡ width → length (f k vs) ≡ wide) where
  pub replaced_joined : (l : List A) (n c : ℕ) → length l ≡ n * width → c < n → (vs : List A) → length vs ≡ width
      → joined (λ (k : ℕ). f k (part width (pasted l (c * width) vs) k)) n ≡ pasted (joined (λ (k : ℕ). f k (part width l k)) n) (c * wide) (f c vs)
  replaced_joined l n c e h vs v =
      let old : ℕ → List B = λ k. f k (part width l k) in
      let new : ℕ → List B = λ k. f k (part width (pasted l (c * width) vs) k) in
      let old-long : (k : ℕ) → k < n → length (old k) ≡ wide = λ k u. long k (part width l k) (length_part width l n k e u) in
      let m = length_joined wide old n old-long in
      joined_all wide new (pasted (joined old n) (c * wide) (f c vs)) n (length_replaced wide (joined old n) n c m h (f c vs) (long c vs v) ∙ m)
      (λ k u. by_equal k c
      (λ same. rw same (ap (f c) (part_replaced width l n c e h vs v) ∙ sym (part_replaced wide (joined old n) n c m h (f c vs) (long c vs v))))
      (λ other.
      ap (f k) (part_kept width l n c e h vs v k other)
      ∙ sym (part_kept wide (joined old n) n c m h (f c vs) (long c vs v) k other ∙ part_joined wide old n old-long k u)))
