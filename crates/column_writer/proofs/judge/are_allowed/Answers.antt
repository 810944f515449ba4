-- `are_allowed`: the span so far and what is left of the heights answer as all of them.
use Prim.Native.Nat.{◌+◌}
use native.Mathlib.Nat.{add-zero, sub-zero}
use native.Mathlib.Omega.{arith}
use mathlib.Core.Path.{◌≡◌, sym, ap, ◌∙◌}
use lib.IntN.{ℤ}
use lib.Signed.{le_z}
use mir.Facts.{to_z-of_z}
use mir.Syntax.{w16}
use mir.Val.{to_z, of_z}
use Rattle.octets.proofs.ExtremeLaws.{at_least, at_most}
use Rattle.posts.specs.Spans.{counted_as, span_in_range}
use Rattle.posts.proofs.SpanLaws.{span_none}
use Rattle.sources.specs.Heights.{nth_height}
use Rattle.column_writer.proofs.HeightParts.{height_more, heights_judged}
use Rattle.column_writer.proofs.judge.are_allowed.Given.{Over}
use Rattle.column_writer.proofs.judge.are_allowed.Goals as goal
use Rattle.column_writer.proofs.judge.are_allowed.Goals.{After-counted-height}

-- the height that was read counts as the definition says
counts : (g : Over) (c : After-counted-height g) →
    let a = c.args in
    to_z w16 (of_z w16 c.counted-height.result) ≡ counted_as a.voids (nth_height (g.H.Heights.given a.heights) (a.from + c.loop-i.i))
counts g c =
    to_z-of_z {w = w16} (record { sfits = c.counted-height.type_inv })
    ∙ rw (to_z-of_z {w = w16} (record { sfits = c.at.type_inv }), c.at.ensures) at c.counted-height.ensures

pub loop-i-init : goal.loop-i-init
loop-i-init g c = rw (span_none, add-zero, sub-zero)

pub loop-i-preserved : goal.loop-i-preserved
loop-i-preserved g c =
    let a = c.args in
    let l = c.loop-i in
    let k = counts g (goal.at.loop-i-preserved g c).After-counted-height in
    rw (to_z-of_z {w = w16} {z = c.smaller-lowest.result} (record { sfits = c.smaller-lowest.type_inv }), to_z-of_z {w = w16} {z = c.larger-highest.result} (record { sfits = c.larger-highest.type_inv }))
    (height_more a.voids (g.H.Heights.given a.heights) a.from l.i a.n (omega arith) (to_z w16 l.lowest-bits) (to_z w16 l.highest-bits) c.smaller-lowest.result c.larger-highest.result
    (λ least. rw k at (ap (λ (z : ℤ). le_z least z) c.smaller-lowest.ensures ∙ at_least _ _ least))
    (λ most. rw k at (ap (λ (z : ℤ). le_z z most) c.larger-highest.ensures ∙ at_most _ _ most)))
    ∙ l.invariant

pub returns : goal.returns
returns g c =
    let a = c.args in
    let l = c.loop-i in
    c.in_range.ensures
    ∙ sym (heights_judged a.voids (g.H.Heights.given a.heights) a.from l.i a.n c.loop-i-test.false (span_in_range (to_z w16 l.lowest-bits) (to_z w16 l.highest-bits)))
    ∙ l.invariant
