-- `put_columns`: after k turns the first k columns stand.
use Prim.Native.Nat.{◌*◌}
use Rattle.columns.specs.Column.{column_of_words, words_of}
use Rattle.sources.specs.Heights.{Heights, heights_of}
use Rattle.sources.proofs.HeightLaws.{part_words, words_counted}
use Rattle.cell_writer.proofs.SoFar.{none, next, every}
use lib.ListN.{length}
use mathlib.Core.Path.{◌≡◌, ap, ◌∙◌}
use native.Mathlib.Omega.{arith}
use Rattle.cell_writer.proofs.put_columns.Given.{Over}
use Rattle.cell_writer.proofs.put_columns.Goals as goal
use Rattle.cell_writer.proofs.put_columns.Goals.{In-loop-k, Start}

-- what is given
abbrev given : (g : Over) → Start g → Heights
given g c = g.H.Heights.given c.args.heights

all : (g : Over) (c : Start g) → length (words_of (heights_of (given g c))) ≡ c.args.columns * c.args.posts
all g c = words_counted (given g c) ∙ c.requires.all

pub loop-k-init : goal.loop-k-init
loop-k-init g c = none _ _ _

pub loop-k-preserved : goal.loop-k-preserved
loop-k-preserved g c =
    let a = c.args in
    let s = (goal.at.loop-k-preserved g c).Start in
    next a.posts a.columns (words_of (heights_of (given g s))) (all g s) a.out.now c.requires.long c.loop-k.out c.loop-k.k c.loop-k.invariant
    c.loop-k-test.true _ c.column_bytes-size.ensures c.put_column.new.out
    (c.put_column.ensures ∙ ap (column_of_words c.loop-k.k) (part_words (given g s) a.columns a.posts c.loop-k.k c.requires.all c.loop-k-test.true))

pub returns : goal.returns
returns g c =
    let a = c.args in
    let s = (goal.at.returns g c).Start in
    every a.posts a.columns (words_of (heights_of (given g s))) (all g s) a.out.now c.requires.long c.loop-k.out c.loop-k.k c.loop-k.invariant (omega arith)
