-- Laws of heights judged at once: a height beside those that were counted, and how one counts.
use Rattle.std.proofs.Common.{◌≡◌, ◌-◌, Bool, true, false, ℤ, pos, negsuc, neg_ℤ, sym, refl}
use lib.Signed.{le_z}
use Rattle.octets.specs.Choice.{both}
use Rattle.octets.proofs.ChoiceLaws.{by_test, by_equal, clash}
use Rattle.posts.specs.Words.{in_range}
use Rattle.posts.specs.Heights.{void_depth, is_void, height_allowed}
use Rattle.posts.specs.Spans.{passed_over, counted_as, span_in_range}
use Rattle.posts.proofs.Voids.{not_void}

regroup : (p q r s : Bool) → both (both p q) (both r s) ≡ both (both p r) (both q s)
regroup true true r s = refl
regroup true false true s = refl
regroup true false false s = refl
regroup false q r s = refl

-- one height more: the span with it is in range exactly where the span without it and the height are
pub span_more : (lowest highest z low high : ℤ) → ((least : ℤ) → le_z least low ≡ both (le_z least lowest) (le_z least z))
    → ((most : ℤ) → le_z high most ≡ both (le_z highest most) (le_z z most)) → span_in_range low high ≡ both (span_in_range lowest highest) (in_range z)
unfolding span_in_range in_range
span_more lowest highest z low high below above =
    rw (below (neg_ℤ (pos 12000)), above (pos 9000)) (regroup (le_z (neg_ℤ (pos 12000)) lowest) (le_z (neg_ℤ (pos 12000)) z) (le_z highest (pos 9000)) (le_z z (pos 9000)))

pub span_none : span_in_range (pos 0) (pos 0) ≡ true
unfolding span_in_range
span_none = refl

-- void's number is no height
void_out : (z : ℤ) → is_void z ≡ true → in_range z ≡ false
unfolding in_range
void_out (pos n) e = clash e refl
void_out (negsuc n) e =
    by_equal n (void_depth - 1) (λ same. rw same) (λ other. clash e (not_void (negsuc n) (λ q. other (cc))))

-- a height may be held exactly where it counts as one in range
pub counted_held : (voids : Bool) (z : ℤ) → in_range (counted_as voids z) ≡ height_allowed voids z
unfolding counted_as height_allowed in_range
counted_held true z = by_test (is_void z) (λ e. rw e) (λ e. rw e)
counted_held false z = by_test (is_void z) (λ e. rw e (void_out z e)) (λ e. rw e)

-- the number that is passed over counts as 0, every other one as it stands
pub counted_passed : (voids : Bool) (z : ℤ) → z ≡ passed_over voids → pos 0 ≡ counted_as voids z
unfolding counted_as
counted_passed true z e = rw e
counted_passed false z e = sym e

pub counted_other : (voids : Bool) (z : ℤ) → (z ≡ passed_over voids → ⊥) → z ≡ counted_as voids z
unfolding counted_as
counted_other true z other = rw (not_void z other)
counted_other false z other = refl
