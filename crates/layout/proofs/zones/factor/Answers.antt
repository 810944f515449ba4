-- `zones::factor` meets its contract: the zones that are left give the factor that all give.
use Rattle.std.proofs.Common.{◌≡◌, refl, sym, ◌∙◌, ℕ, List, [], ◌∷◌, length, arith}
use mathlib.Core.Logic.{◌⊎◌, inl, inr}
use borrow.Author.Tests.{lt-ltb, le-ltb}
use Rattle.layout.specs.Zones.{factor_among, factor_of}
use Rattle.layout.proofs.zones.factor.Goals as goal

pub loop-bound-init : goal.loop-bound-init
unfolding factor_of
loop-bound-init c = rw (c.into_iter-bound-iterator.ensures.into_iter_gives, c.zip-bound-items.ensures.first, c.zip-bound-items.ensures.second.0, c.iter.ensures.rest)

pub returns-then-edge-bound : goal.returns-then-edge-bound
unfolding factor_among
returns-then-edge-bound c =
    sym (c.loop-bound.invariant ∙ rw (c.in-Some.ensures.steps.0, c.in-Some.ensures.steps.1, lt-ltb _ _ c.if-edge-bound.true))

pub loop-bound-preserved : goal.loop-bound-preserved
unfolding factor_among
loop-bound-preserved c =
    c.loop-bound.invariant ∙ rw (c.in-Some.ensures.steps.0, c.in-Some.ensures.steps.1, le-ltb _ _ c.if-edge-bound.false)

-- no zone is left
none_left : (bs fs : List ℕ) (edge : ℕ) → (length bs ≡ 0) ⊎ (length fs ≡ 0) → factor_among bs fs edge ≡ 0
unfolding factor_among
none_left [] fs edge e = refl
none_left (b ∷ bs) [] edge e = refl
none_left (b ∷ bs) (f ∷ fs) edge (inl e) = absurd (omega arith)
none_left (b ∷ bs) (f ∷ fs) edge (inr e) = absurd (omega arith)

pub returns : goal.returns
returns c =
    sym (c.loop-bound.invariant ∙ none_left _ _ c.args.edge (elim c.in-None.ensures.steps [ inl h ↦ inl h.1.0 | inr h ↦ inr h.1.0 ]))
