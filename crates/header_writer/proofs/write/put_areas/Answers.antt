-- `put_areas`: the areas that are left give what all give.
use Prim.Native.Nat.{ℕ, ◌+◌}
use Rattle.header_writer.proofs.TableTurns.{areas_on, areas_done}
use Rattle.header_writer.specs.Written.{with_areas}
use Rattle.fields.specs.Free.{areas}
use lib.ListN.{drop}
use mathlib.Core.List.{List}
use mathlib.Core.Path.{sym, ap, ◌∙◌}
use native.Mathlib.Omega.{arith}
use Rattle.header_writer.proofs.write.put_areas.Goals as goal

pub loop-area-preserved : goal.loop-area-preserved
loop-area-preserved c =
    let i = c.loop-area.area-index in (
      c.fill.auto.dst ∙ c.loop-area.invariant.0,
      ap (λ (s : List ℕ). with_areas s (drop (i + 1) areas)) c.fill.ensures ∙ sym (areas_on c.loop-area.head i (omega arith)) ∙ c.loop-area.invariant.1,
    )

pub returns : goal.returns
returns c = sym (areas_done c.loop-area.head c.loop-area.area-index (omega arith)) ∙ c.loop-area.invariant.1
