-- `write`: the heights are the numbers that are given.
use Rattle.columns.specs.Column.{column_of}
use Rattle.sources.specs.Heights.{numbers}
use Rattle.sources.proofs.HeightLaws.{numbers_are}
use Rattle.column_writer.specs.Column.{judged_column_write, column_told_from, column_output_from, column_told, column_output}
use Rattle.column_writer.specs.Judged.{output_after}
use lib.IntN.{ℤ}
use lib.ListN.{length}
use mathlib.Core.List.{List}
use mathlib.Core.Path.{ap, ◌∙◌}
use Rattle.column_writer.proofs.write.Goals as goal

pub returns-clause-answer : goal.returns-clause-answer
unfolding column_told_from column_told
returns-clause-answer c = c.write_from.ensures.answer

pub returns-clause-lent : goal.returns-clause-lent
unfolding column_output_from column_output
returns-clause-lent c =
    let a = c.args in
    let judged = judged_column_write a.level a.number (numbers a.heights.now) (length a.out.now) in
    c.write_from.ensures.lent ∙ ap (λ (zs : List ℤ). output_after judged (column_of a.number zs) a.out.now) (numbers_are a.heights.now)
