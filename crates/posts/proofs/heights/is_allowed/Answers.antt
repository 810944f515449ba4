-- `heights::is_allowed`: its tests of 64 bits are the definition's tests of the number.
use Rattle.std.proofs.Common.{ap, to_z-of_z, w64, of_z, rules}
use mir.Facts.{sfits_lit}
use Rattle.posts.specs.Words.{in_range}
use Rattle.posts.specs.Heights.{void_number, height_allowed}
use Rattle.octets.proofs.Signed.{same_bits}
use Rattle.posts.proofs.Voids.{not_void}
use Rattle.posts.proofs.heights.is_allowed.Goals as goal

pub returns-then-height : goal.returns-then-height
unfolding height_allowed
returns-then-height c = rw (same_bits w64 {z = void_number} c.ranges.height (sfits_lit tt) c.if-height.true)

pub returns : goal.returns
unfolding height_allowed in_range
returns c =
    let z = c.args.height in
    let n = not_void z (λ e. c.if-height.false (ap (of_z w64) e)) in
    rw n (search (rules, to_z-of_z))
