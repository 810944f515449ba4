-- `write_out`: what a write took stands behind what was written before, and is gone from the rest.
use Rattle.std.proofs.Common.{◌≡◌, ℕ, List, ◌+◌, ◌-◌, ◌≤◌, length, drop, sym, ap, ◌∙◌, arith, length-drop}
use lib.Seq.{take-add}
use Rattle.std.proofs.KnownBytes.{Appends-trans}
use Rattle.std.proofs.lemmas.List.{take_rest, drop-drop}
use Rattle.printing.proofs.write_out.Goals as goal

-- so many bytes are gone after n more
gone : (bytes rest : List ℕ) (n : ℕ) → length rest ≤ length bytes → n ≤ length rest → length bytes - length (drop n rest) ≡ (length bytes - length rest) + n
gone bytes rest n h u = omega (arith, length-drop n rest)

pub loop-rest-preserved : goal.loop-rest-preserved
loop-rest-preserved g c =
    let bytes = c.args.bytes.now in
    let rest = c.loop-rest.rest.now in
    let n = c.in_ok-taken.taken in
    let inv = c.loop-rest.invariant in
    let k = length bytes - length rest in
    let fits : n ≤ length rest = c.in_ok-taken.ensures.bound in
    let more = gone bytes rest n inv.within fits in
    rw (take_rest rest n)
    (record {
      within = omega (arith, length-drop n rest, inv.within);
      left = ap (drop n) inv.left ∙ drop-drop n k bytes ∙ sym (ap (λ (m : ℕ). drop m bytes) more);
      front = rw (more, take-add k n bytes, ← inv.left) (Appends-trans _ _ _ _ _ inv.front c.in_ok-taken.ensures.bytes);
    })
