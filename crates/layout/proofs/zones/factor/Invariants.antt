-- `zones::factor` meets its contract: the zones that are left give the factor that all give.
use mathlib.Core.Path.{◌≡◌}
use Rattle.layout.specs.Zones.{factor_among, factor_of}
use Rattle.layout.proofs.zones.factor.Given as goal

abbrev pub invariant-loop-bound : goal.invariant-loop-bound
invariant-loop-bound l = factor_of l.edge ≡ factor_among l.bound-iterator.a.rest.now l.bound-iterator.b.rest.now l.edge
