-- Void among the heights of the writer's form.
use Rattle.std.proofs.Common.{◌≡◌, ◌-◌, ◌<◌, false, ℤ, pos, negsuc, refl, ap, arith, le-leb}
use native.Mathlib.Decide.{dec_lt}
use borrow.Author.Tests.{lt-leb}
use Rattle.posts.specs.Heights.{void_depth, void_number, is_void}

-- no height but void's number is void
pub not_void : (z : ℤ) → (z ≡ void_number → ⊥) → is_void z ≡ false
not_void (pos n) h = refl
not_void (negsuc n) h =
    elim (dec_lt n (void_depth - 1)) [
      | yes below ↦ simp (le-leb n (void_depth - 1) (omega arith), lt-leb (void_depth - 1) n below)
      | no above ↦
          let apart : n ≡ void_depth - 1 → ⊥ = λ e. h (ap negsuc e) in
          let past : void_depth - 1 < n = omega arith in
          simp (lt-leb n (void_depth - 1) past)
    ]
