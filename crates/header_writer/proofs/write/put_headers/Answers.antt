-- `put_headers`: the headers stand at the front.
use Rattle.description.proofs.RangedItems.{ranged_items}
use Rattle.octets.proofs.PasteLaws.{length_part}
use Rattle.header_writer.proofs.TableTurns.{basis_is}
use native.Mathlib.Omega.{arith}
use Rattle.header_writer.proofs.write.put_headers.Goals as goal

pub put_all-requires : goal.put_all-requires
put_all-requires c =
    let r = ranged_items c.args.d c.requires.ranged in
    record { wide = length_part c.args.out.now 0 3428 (omega arith) c.requires.room; basis = basis_is c.args.d c.args.grid c.requires.grid; origin = omega arith }
