-- `put_fields`: the fields that are left give what all give.
use Rattle.fields.specs.Table.{fields}
use Rattle.header_writer.specs.Written.{with_fields}
use Rattle.layout.specs.Grid.{header_bytes}
use lib.ListN.{length, drop}
use mathlib.Core.Path.{◌≡◌}
use Rattle.header_writer.proofs.write.put_fields.Given as goal

abbrev pub invariant-loop-i : goal.invariant-loop-i
invariant-loop-i l = (length l.head ≡ header_bytes) × (with_fields l.head l.d (drop l.i fields) ≡ with_fields l.initial.head l.d fields)
