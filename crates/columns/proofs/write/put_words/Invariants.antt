-- `put_words`: the words of the parts so far stand, and the sum of their bytes is known.
use Rattle.std.proofs.Common.{◌*◌}
use Rattle.columns.proofs.WordParts.{Summed}
use Rattle.columns.proofs.write.put_words.Given as goal

abbrev pub invariant-loop-part : goal.invariant-loop-part
invariant-loop-part g l = Summed l.initial.out (g.H.Heights.given l.heights) l.first (l.part * 256) l.out l.sum
