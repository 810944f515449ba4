-- `put_columns`: after k turns the first k columns stand.
use Rattle.columns.specs.Column.{words_of}
use Rattle.sources.specs.Heights.{heights_of}
use Rattle.cell_writer.proofs.SoFar.{SoFar}
use Rattle.cell_writer.proofs.put_columns.Given as goal

abbrev pub invariant-loop-k : goal.invariant-loop-k
invariant-loop-k g l = SoFar l.posts (words_of (heights_of (g.H.Heights.given l.heights))) l.initial.out l.out l.k
