-- `measure`: the parts so far, and what is left, are the whole column.
use Rattle.std.proofs.Common.{◌≡◌, ◌+◌, ◌-◌, ◌*◌, ◌/◌, ◌%◌, take, drop, zero-add, arith}
use native.Mathlib.Nat.{sub-zero}
use Rattle.octets.specs.Sums.{sum_of}
use Rattle.octets.proofs.SumLaws.{sum_parts}
use Rattle.posts.proofs.PartLaws.{part_on}
use Rattle.columns.proofs.measure.measure.Goals as goal

pub loop-part-init : goal.loop-part-init
loop-part-init c =
    let first = c.measure_part-preamble.ensures.summed in
    record {
      due = omega arith;
      small = first.1;
      summed = omega (arith, first.0, sum_parts c.args.column.now 0 8);
      left = rw sub-zero;
    }

pub loop-part-preserved : goal.loop-part-preserved
loop-part-preserved c =
    let p = c.measure_part-measured in
    let w = c.word_at.ensures in
    let l = c.loop-part in
    let a = c.args in
    let i = l.part * 256 in
    let at = 8 + 2 * i in
    let next : (l.part + 1) * 256 ≡ i + 256 = omega arith in
    let on : 8 + 2 * (i + 256) ≡ at + 2 * 256 = omega arith in
    let sums = rw w at p.ensures.summed in
    let alls = rw w at p.ensures.allowed in
    rw next
    (record {
      due = omega arith;
      small = omega (arith, l.invariant.small, sums.1);
      summed = rw on (omega (arith, l.invariant.summed, sums.0, sum_parts a.column.now at 512));
      left =
          rw c.both-allowed.ensures
          (part_on a.voids a.column.now at (8 + 2 * (i + 256)) 256 (a.posts - (i + 256)) (a.posts - i) l.allowed p.result.allowed _ (omega arith) on alls l.invariant.left);
    })

pub returns-clause-summed : goal.returns-clause-summed
returns-clause-summed c =
    let l = c.loop-part in
    let a = c.args in
    let i = a.posts / 256 * 256 in
    let at = 8 + 2 * i in
    let end = 8 + 2 * a.posts in
    let n : l.part ≡ a.posts / 256 = omega arith in
    let last : at + 2 * (a.posts % 256) ≡ end = omega arith in
    let sums = rw c.word_at-2.ensures at c.measure_part-rest.ensures.summed in
    let rest = rw last at (sum_parts a.column.now at (2 * (a.posts % 256))) in
    let whole : sum_of (take end a.column.now) + sum_of (drop end a.column.now) ≡ sum_of a.column.now = rw (zero-add end) at (sum_parts a.column.now 0 end) in
    omega (arith, rw n at l.invariant.summed, sums.0, rest, whole)
