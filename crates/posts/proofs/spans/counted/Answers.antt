-- `spans::counted`: the number that is passed over, and any other.
use Rattle.std.proofs.Common.{sym, ap, ◌∙◌, to_z-of_z, w16, of_z}
use Rattle.octets.proofs.Signed.{same_bits}
use Rattle.posts.proofs.SpanLaws.{counted_passed, counted_other}
use Rattle.posts.proofs.spans.counted.Goals as goal

pub returns-then-height-passed_over : goal.returns-then-height-passed_over
returns-then-height-passed_over c =
    let a = c.args in
    counted_passed a.voids a.height
    (same_bits w16 c.ranges.height (record { sfits = c.passed_over.type_inv }) c.if-height-passed_over.true ∙ c.passed_over.ensures)

pub returns-else-height-passed_over : goal.returns-else-height-passed_over
returns-else-height-passed_over c =
    let a = c.args in
    rw (to_z-of_z c.ranges.height)
    (counted_other a.voids a.height (λ e. c.if-height-passed_over.false (ap (of_z w16) (e ∙ sym c.passed_over.ensures))))
