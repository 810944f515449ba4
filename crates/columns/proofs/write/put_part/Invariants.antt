-- `put_part`: the words of the first heights stand, and their sums are known.
use Rattle.columns.proofs.WordParts.{Stand}
use Rattle.columns.proofs.write.put_part.Given as goal

abbrev pub invariant-loop-i : goal.invariant-loop-i
invariant-loop-i g l = Stand l.initial.out l.at (g.H.Heights.given l.heights) l.first l.i l.out l.words l.highs
