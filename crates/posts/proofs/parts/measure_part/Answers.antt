-- `measure_part`: what is summed and found so far, and what is left, are the whole.
use Rattle.std.proofs.Common.{◌≡◌, ◌+◌, ◌*◌, ◌/◌, ◌%◌, ℤ, pos, ap, ◌∙◌, add-zero, arith, to_z-of_z, w16, to_z, of_z}
use native.Mathlib.Nat.{sub-zero}
use lib.Signed.{le_z}
use Rattle.octets.specs.Choice.{both}
use Rattle.octets.specs.Sums.{lows_of}
use Rattle.octets.specs.Twos.{twos_of}
use Rattle.octets.proofs.ExtremeLaws.{at_most}
use Rattle.octets.proofs.NumberLaws.{swapped_number}
use Rattle.octets.proofs.SumLaws.{lows_none, lows_step, sum_parts}
use Rattle.posts.specs.Parts.{turn_by, deepest_turned}
use Rattle.posts.proofs.PartLaws.{word_on, words_end, sum_two}
use Rattle.posts.proofs.parts.measure_part.Goals as goal

pub loop-i-init : goal.loop-i-init
loop-i-init c =
    let start = add-zero c.args.at in
    record {
      kept = omega arith;
      high_bytes = omega arith;
      low_bytes = rw lows_none (omega arith);
      summed = rw start (omega (arith, lows_none));
      left = rw (start, sub-zero);
    }

pub overflow_add-highs : goal.overflow_add-highs
overflow_add-highs c = omega (arith, c.loop-i.invariant.high_bytes)

pub loop-i-preserved : goal.loop-i-preserved
loop-i-preserved c =
    let l = c.loop-i in
    let x = c.low_first-read in
    let w = c.swapped-word in
    let a = c.args in
    let at = a.at + 2 * l.i in
    let next = a.at + 2 * (l.i + 1) in
    let on : next ≡ at + 2 = omega arith in
    let words = (l.words + x.result) % 0x10000 in
    let highs = l.highs + x.result / 256 in
    let lows : lows_of words highs ≡ lows_of l.words l.highs + x.result % 256 =
    lows_step l.words l.highs x.result l.invariant.kept (omega (arith, l.invariant.low_bytes)) in
    let top : ℤ = pos 9000 in
    let high = le_z (to_z w16 l.highest-bits) top in
    let higher : le_z (to_z w16 (of_z w16 c.larger-highest.result)) top ≡ both high (le_z (twos_of w.result) top) =
    rw (to_z-of_z {w = w16} (record { sfits = c.larger-highest.type_inv }))
    (rw (to_z-of_z {w = w16} (record { sfits = c.number_of.type_inv }), c.number_of.ensures)
    at (ap (λ (z : ℤ). le_z z top) c.larger-highest.ensures ∙ at_most _ _ top)) in
    let bottom = deepest_turned a.voids in
    let turned = (w.result + turn_by a.voids) % 0x10000 in
    let m = c.number_of-in-loop-i in
    let deep = le_z (to_z w16 l.deepest-bits) bottom in
    let deeper : le_z (to_z w16 (of_z w16 c.larger-deepest.result)) bottom ≡ both deep (le_z (twos_of turned) bottom) =
    rw (to_z-of_z {w = w16} (record { sfits = c.larger-deepest.type_inv }))
    (rw (to_z-of_z {w = w16} (record { sfits = m.type_inv }), m.ensures, c.turn_for-turn.ensures)
    at (ap (λ (z : ℤ). le_z z bottom) c.larger-deepest.ensures ∙ at_most _ _ bottom)) in
    let word = w.ensures ∙ swapped_number a.s.now at x.result x.ensures.bytes.0 x.ensures.bytes.1 in
    let left = word_on a.voids a.s.now at next l.i a.n w.result high _ deep _ (omega arith) on word (omega arith) higher deeper in
    record {
      kept = omega arith;
      high_bytes = omega (arith, l.invariant.high_bytes);
      low_bytes = rw lows (omega (arith, l.invariant.low_bytes));
      summed = rw (on, lows) (omega (arith, l.invariant.summed, sum_two a.s.now at (omega arith), x.ensures.bytes.0, x.ensures.bytes.1));
      left = left ∙ l.invariant.left;
    }

pub returns-clause-summed : goal.returns-clause-summed
returns-clause-summed c =
    let l = c.loop-i in
    let a = c.args in
    let end : a.at + 2 * l.i ≡ a.at + 2 * a.n = omega arith in
    let sums = sum_parts a.s.now a.at (2 * a.n) in
    let all = c.bytes_of.ensures in
    let whole = rw end at l.invariant.summed in
    (omega arith, omega (arith, l.invariant.high_bytes, l.invariant.low_bytes))

pub returns-clause-allowed : goal.returns-clause-allowed
returns-clause-allowed c =
    let l = c.loop-i in
    let a = c.args in
    c.are_allowed.ensures ∙ words_end a.voids a.s.now (a.at + 2 * l.i) l.i a.n _ _ (omega arith) l.invariant.left
