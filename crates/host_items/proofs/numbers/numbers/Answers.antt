-- `numbers`: each item is what the definition says of it.
use Rattle.description.proofs.RangedItems.{RangedItems, ranged_items}
use Rattle.host_items.specs.Items.{numbers_of}
use lib.IntN.{ℤ}
use mathlib.Core.Path.{◌≡◌, ◌∙◌}
use mir.Facts.{to_z-of_z}
use mir.Syntax.{w64}
use mir.Val.{SFits, to_z, of_z}
use native.Mathlib.Omega.{arith}
use Rattle.host_items.proofs.numbers.numbers.Goals as goal
use Rattle.host_items.proofs.numbers.numbers.Goals.{Start}

within : (c : Start) → RangedItems c.args.d
within c = ranged_items c.args.d c.requires

back : {y z : ℤ} → SFits w64 y → y ≡ z → to_z w64 (of_z w64 y) ≡ z
back f e = to_z-of_z f ∙ e

pub counting-requires : goal.counting-requires
counting-requires c = omega (arith, (within (goal.at.counting-requires c).Start).level)

pub degrees-requires : goal.degrees-requires
degrees-requires c = record { angle = omega (arith, (within (goal.at.degrees-requires c).Start).latitude); side = omega arith }

pub degrees-requires-2 : goal.degrees-requires-2
degrees-requires-2 c = record { angle = omega (arith, (within (goal.at.degrees-requires-2 c).Start).longitude); side = omega arith }

pub counting-requires-2 : goal.counting-requires-2
counting-requires-2 c = omega (arith, (within (goal.at.counting-requires-2 c).Start).edition_high)

pub counting-requires-3 : goal.counting-requires-3
counting-requires-3 c = omega (arith, (within (goal.at.counting-requires-3 c).Start).partial)

pub returns : goal.returns
unfolding numbers_of
returns c =
    rw (
      back (record { sfits = c.counting.type_inv }) c.counting.ensures,
      back (record { sfits = c.degrees.type_inv }) c.degrees.ensures,
      back (record { sfits = c.degrees-2.type_inv }) c.degrees-2.ensures,
      back (record { sfits = c.from.type_inv }) c.from.ensures,
      back (record { sfits = c.counting-2.type_inv }) c.counting-2.ensures,
      back (record { sfits = c.from-2.type_inv }) c.from-2.ensures,
      back (record { sfits = c.datum_number.type_inv }) c.datum_number.ensures,
      back (record { sfits = c.accuracy_number.type_inv }) c.accuracy_number.ensures,
      back (record { sfits = c.accuracy_number-2.type_inv }) c.accuracy_number-2.ensures,
      back (record { sfits = c.accuracy_number-3.type_inv }) c.accuracy_number-3.ensures,
      back (record { sfits = c.accuracy_number-4.type_inv }) c.accuracy_number-4.ensures,
      back (record { sfits = c.accuracy_number-5.type_inv }) c.accuracy_number-5.ensures,
      back (record { sfits = c.counting-3.type_inv }) c.counting-3.ensures,
    )
