-- `put_areas`: the areas that are left give what all give.
use Rattle.header_writer.specs.Written.{with_areas}
use Rattle.fields.specs.Free.{areas}
use Rattle.layout.specs.Grid.{header_bytes}
use lib.ListN.{length, drop}
use mathlib.Core.Path.{◌≡◌}
use Rattle.header_writer.proofs.write.put_areas.Given as goal

abbrev pub invariant-loop-area : goal.invariant-loop-area
invariant-loop-area l = (length l.head ≡ header_bytes) × (with_areas l.head (drop l.area-index areas) ≡ with_areas l.initial.head areas)
