-- `locate_under`: good headers give a corner and a grid in range.
use Rattle.headers.proofs.FirstFour.{good_facts}
use Rattle.std.proofs.Common.{sym}
use Rattle.position.proofs.locate_under.Goals as goal

pub locate_in-requires : goal.locate_in-requires
locate_in-requires c =
    let f = good_facts c.args.cell.now _ (sym c.in_ok-facts.ensures) in
    record { grid = f.grid; latitude = f.latitude; longitude = f.longitude }
