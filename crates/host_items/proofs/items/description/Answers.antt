-- `description`: each item is in its range, and is what the definition makes of it.
use Rattle.rules.specs.Rules.{is_letter, is_version}
use Rattle.fields.specs.declared.Whose.TheVariants.{Uhl, AbsoluteHorizontal, AbsoluteVertical, RelativeHorizontal, RelativeVertical}
use Rattle.fields.specs.declared.Item.{Item}
use Rattle.fields.specs.declared.Item.TheVariants as items
use Rattle.host_items.proofs.NumberRanges.{from_zero, letters, versions, passes_byte}
use Rattle.host_items.proofs.RangedNumbers.{ranged_numbers}
use Rattle.host_items.specs.Items.{item, item_in, number_test, description_of}
use mathlib.Core.Path.{◌≡◌}
use mathlib.Core.Bool.{true}
use native.Mathlib.Omega.{arith}
use Rattle.host_items.proofs.items.description.Goals as goal
use Rattle.host_items.proofs.items.description.Goals.{Start}

within : (c : Start) (i : Item) → number_test i (item_in c.args.items.now i) ≡ true
within c = ranged_numbers c.args.items.now c.requires

pub count-requires : goal.count-requires
count-requires c = record { there = omega arith; passed = from_zero 0 2 (item c.args.items.now 0) (within (goal.at.count-requires c).Start items.Level) }

pub angle-requires : goal.angle-requires
angle-requires c = record { there = omega arith; positive = omega arith; most = omega arith; degrees = within (goal.at.angle-requires c).Start items.Latitude }

pub angle-requires-2 : goal.angle-requires-2
angle-requires-2 c = record { there = omega arith; positive = omega arith; most = omega arith; degrees = within (goal.at.angle-requires-2 c).Start items.Longitude }

pub letter-requires : goal.letter-requires
letter-requires c = record { there = omega arith; passed = passes_byte is_letter letters (item c.args.items.now 3) (within (goal.at.letter-requires c).Start items.Security) }

pub count-requires-2 : goal.count-requires-2
count-requires-2 c = record { there = omega arith; passed = from_zero 1 99 (item c.args.items.now 4) (within (goal.at.count-requires-2 c).Start items.Edition) }

pub letter-requires-2 : goal.letter-requires-2
letter-requires-2 c = record { there = omega arith; passed = passes_byte is_version versions (item c.args.items.now 5) (within (goal.at.letter-requires-2 c).Start items.Version) }

pub accuracy-requires : goal.accuracy-requires
accuracy-requires c = record { there = omega arith; passed = within (goal.at.accuracy-requires c).Start (items.Accuracy Uhl) }

pub accuracy-requires-2 : goal.accuracy-requires-2
accuracy-requires-2 c = record { there = omega arith; passed = within (goal.at.accuracy-requires-2 c).Start (items.Accuracy AbsoluteHorizontal) }

pub accuracy-requires-3 : goal.accuracy-requires-3
accuracy-requires-3 c = record { there = omega arith; passed = within (goal.at.accuracy-requires-3 c).Start (items.Accuracy AbsoluteVertical) }

pub accuracy-requires-4 : goal.accuracy-requires-4
accuracy-requires-4 c = record { there = omega arith; passed = within (goal.at.accuracy-requires-4 c).Start (items.Accuracy RelativeHorizontal) }

pub accuracy-requires-5 : goal.accuracy-requires-5
accuracy-requires-5 c = record { there = omega arith; passed = within (goal.at.accuracy-requires-5 c).Start (items.Accuracy RelativeVertical) }

pub count-requires-3 : goal.count-requires-3
count-requires-3 c = record { there = omega arith; passed = from_zero 0 99 (item c.args.items.now 12) (within (goal.at.count-requires-3 c).Start items.Partial) }

pub returns : goal.returns
unfolding description_of
returns c =
    rw (
      c.count.ensures,
      c.angle.ensures,
      c.angle-2.ensures,
      c.letter.ensures,
      c.count-2.ensures,
      c.letter-2.ensures,
      c.datum.ensures,
      c.accuracy.ensures,
      c.accuracy-2.ensures,
      c.accuracy-3.ensures,
      c.accuracy-4.ensures,
      c.accuracy-5.ensures,
      c.count-3.ensures,
    )
