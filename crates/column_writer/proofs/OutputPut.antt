-- The output once a column, or headers and columns, were put into it: what was written, and past it what was there.
use Rattle.std.specs.Prelude.{Ok}
use Prim.Native.Nat.{ℕ, ◌+◌, ◌-◌, ◌≤◌}
use native.Mathlib.Omega.{arith}
use mathlib.Core.Path.{◌≡◌, sym, ap, ◌∙◌}
use mathlib.Core.List.{List, ◌++◌}
use lib.ListN.{length, drop}
use borrow.Rule.Slice.PartMut.{put_mid}
use Rattle.octets.specs.Pastes.{pasted}
use Rattle.octets.proofs.PasteLaws.{paste_front, paste_paste, part_back}
use Rattle.column_writer.specs.Judged.{output_after}

-- a part at the front came back as what was written
pub front_put : (out written back : List ℕ) (end : ℕ) → length written ≡ end → back ≡ written
    → put_mid 0 (end - 0) out back ≡ output_after (Ok tt) written out
front_put out written back end l e =
    let n : length back ≡ end - 0 = ap length e ∙ omega (arith, l) in
    part_back out 0 (end - 0) back n ∙ ap (pasted out 0) e ∙ paste_front out written

-- a part behind the front came back, too
pub behind_put : (out front now written back : List ℕ) (at end : ℕ) → length front ≡ at → at ≤ length out → at + length written ≡ end
    → now ≡ front ++ drop at out → back ≡ written → put_mid at (end - at) now back ≡ output_after (Ok tt) (front ++ written) out
behind_put out front now written back at end f h l e b =
    let n : length back ≡ end - at = ap length b ∙ omega (arith, l) in
    let first : now ≡ pasted out 0 front = e ∙ ap (λ (m : ℕ). front ++ drop m out) (sym f) ∙ sym (paste_front out front) in
    let there : at ≡ 0 + length front = omega (arith, f) in
    part_back now at (end - at) back n
    ∙ rw (b, first, there) (paste_paste out 0 front written (omega (arith, f)))
    ∙ paste_front out (front ++ written)
