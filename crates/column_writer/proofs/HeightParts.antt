-- Heights judged in parts: a part of which each height may be held is passed over, and how a part is judged, height by height.
use Rattle.std.specs.Prelude.{Result, Ok, Err, ⊤}
use Rattle.answers.specs.declared.Refusal.{Refusal}
use Prim.Native.Nat.{ℕ, zero, suc, ◌+◌, ◌-◌, ◌<◌, ◌≤◌}
use native.Mathlib.Omega.{arith}
use mathlib.Core.Path.{◌≡◌, refl, sym, ap, ◌∙◌}
use mathlib.Core.Bool.{Bool, true, false}
use lib.IntN.{ℤ}
use lib.Signed.{le_z}
use Rattle.octets.specs.Choice.{pick, both}
use Rattle.octets.specs.Scan.{first_bad}
use Rattle.octets.proofs.ChoiceLaws.{both_true}
use Rattle.octets.proofs.SearchLaws.{search_on, search_end}
use Rattle.posts.specs.Heights.{height_allowed}
use Rattle.posts.specs.Spans.{counted_as, span_in_range}
use Rattle.posts.proofs.SpanLaws.{span_more, counted_held}
use Rattle.sources.specs.Heights.{Heights, nth_height}
use Rattle.answers.specs.declared.Refusal.TheVariants.{Height}
use Rattle.columns.specs.Judged.{and_then}
use Rattle.column_writer.specs.Judged.{heights_allowed, heights_from_then, heights_then}

pick_both : (a b : Bool) → pick a b false ≡ both a b
pick_both true b = refl
pick_both false b = refl

both_joined : (a b c : Bool) → both (both a b) c ≡ both a (both b c)
both_joined true b c = refl
both_joined false b c = refl

both_last : (a : Bool) → both a true ≡ a
both_last true = refl
both_last false = refl

pick_then : (b : Bool) (x : Result ⊤ Refusal) (r : Refusal) (rest : Result ⊤ Refusal) → pick b (and_then x rest) (Err r) ≡ and_then (pick b x (Err r)) rest
pick_then true x r rest = refl
pick_then false x r rest = refl

-- the answer where a height may not be held
abbrev pub refusal : ℕ → Result ⊤ Refusal
refusal i = Err (Height i)

module _ (voids : Bool) (g : Heights) where
  abbrev pub test : ℕ → Bool
  test i = height_allowed voids (nth_height g i)

  -- of n heights from `from` on, i of which were judged: the next one and the rest
  allowed_next : (from i n : ℕ) → i < n
      → heights_allowed voids g (from + i) (n - i) ≡ both (height_allowed voids (nth_height g (from + i))) (heights_allowed voids g (from + (i + 1)) (n - (i + 1)))
  unfolding heights_allowed first_bad
  allowed_next from i n h =
      let left : n - i ≡ suc (n - (i + 1)) = omega arith in
      let next : from + i + 1 ≡ from + (i + 1) = omega arith in
      rw (left, next) (pick_both (height_allowed voids (nth_height g (from + i))) (heights_allowed voids g (from + (i + 1)) (n - (i + 1))))

  allowed_end : (from i n : ℕ) → n ≤ i → heights_allowed voids g (from + i) (n - i) ≡ true
  unfolding heights_allowed first_bad
  allowed_end from i n h = let none : n - i ≡ 0 = omega arith in rw none

  -- a turn: the lowest and the highest so far with one height more
  pub height_more : (from i n : ℕ) → i < n → (lowest highest low high : ℤ)
      → ((least : ℤ) → le_z least low ≡ both (le_z least lowest) (le_z least (counted_as voids (nth_height g (from + i)))))
      → ((most : ℤ) → le_z high most ≡ both (le_z highest most) (le_z (counted_as voids (nth_height g (from + i))) most))
      → both (span_in_range low high) (heights_allowed voids g (from + (i + 1)) (n - (i + 1))) ≡ both (span_in_range lowest highest) (heights_allowed voids g (from + i) (n - i))
  height_more from i n h lowest highest low high below above =
      let z = nth_height g (from + i) in
      rw (span_more lowest highest (counted_as voids z) low high below above, counted_held voids z, allowed_next from i n h)
      (both_joined (span_in_range lowest highest) (height_allowed voids z) (heights_allowed voids g (from + (i + 1)) (n - (i + 1))))

  pub heights_judged : (from i n : ℕ) → n ≤ i → (b : Bool) → both b (heights_allowed voids g (from + i) (n - i)) ≡ b
  heights_judged from i n h b = rw (allowed_end from i n h) (both_last b)

  -- m heights that may be held are passed over
  pub part_passed : (i m n : ℕ) (rest : Result ⊤ Refusal) → i + m ≤ n → heights_allowed voids g i m ≡ true
      → heights_from_then voids g i (n - i) rest ≡ heights_from_then voids g (i + m) (n - (i + m)) rest
  unfolding heights_allowed first_bad
  part_passed i zero n rest h e = let same : i + 0 ≡ i = omega arith in rw same
  part_passed i (suc m) n rest h e =
      let t = both_true (test i) (heights_allowed voids g (i + 1) m) (sym (pick_both (test i) (heights_allowed voids g (i + 1) m)) ∙ e) in
      let on : i + 1 + m ≡ i + suc m = omega arith in
      search_on test refusal rest i n (omega arith) t.0
      ∙ part_passed (i + 1) m n rest (omega arith) t.1
      ∙ ap (λ (k : ℕ). heights_from_then voids g k (n - k) rest) on

  -- and where all that are left may be held, the rest is answered
  pub all_passed : (i n : ℕ) (rest : Result ⊤ Refusal) → i ≤ n → heights_allowed voids g i (n - i) ≡ true → heights_from_then voids g i (n - i) rest ≡ rest
  all_passed i n rest h e = part_passed i (n - i) n rest (omega arith) e ∙ search_end test refusal rest (i + (n - i)) n (omega arith)

  -- the rest comes after the heights alone
  all_then : (i n : ℕ) (rest : Result ⊤ Refusal) → heights_from_then voids g i n rest ≡ and_then (heights_from_then voids g i n (Ok tt)) rest
  unfolding first_bad
  all_then i zero rest = refl
  all_then i (suc n) rest =
      ap (λ (x : Result ⊤ Refusal). pick (test i) x (refusal i)) (all_then (i + 1) n rest)
      ∙ pick_then (test i) (heights_from_then voids g (i + 1) n (Ok tt)) (Height i) rest

  pub then_rest : (n : ℕ) (rest : Result ⊤ Refusal) → heights_then voids g n rest ≡ and_then (heights_then voids g n (Ok tt)) rest
  unfolding heights_then
  then_rest n rest = all_then 0 n rest
