-- `reach`: good headers give a grid in range.
use Rattle.headers.proofs.FirstFour.{good_facts}
use Rattle.std.proofs.Common.{sym}
use Rattle.lookup.proofs.reach.reach.Goals as goal

pub reach_in-requires : goal.reach_in-requires
reach_in-requires c = rw c.frame_of.ensures (good_facts c.args.cell.now _ (sym c.in_ok-facts.ensures)).grid
