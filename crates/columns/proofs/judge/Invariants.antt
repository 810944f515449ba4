-- `judge`: what is left of the words answers as the whole column.
use Rattle.std.proofs.Common.{◌≡◌, ◌-◌, ◌≤◌}
use Rattle.columns.specs.Judged.{words_from, judged_column}
use Rattle.columns.proofs.judge.Given as goal

abbrev pub invariant-loop-i : goal.invariant-loop-i
invariant-loop-i l = (l.i ≤ l.posts) × (words_from l.column l.voids l.base l.i (l.posts - l.i) ≡ judged_column l.column l.number l.posts l.voids l.base)
