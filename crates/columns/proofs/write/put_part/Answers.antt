-- `put_part`: the words of the first heights stand, and their sums are known.
use Rattle.std.proofs.Common.{◌≡◌, ◌+◌, arith, to_z-of_z, w16, to_z, of_z}
use Rattle.posts.specs.Heights.{word_of}
use Rattle.sources.specs.Heights.{nth_height}
use Rattle.columns.proofs.WordParts.{none_stand, one_more}
use Rattle.columns.proofs.write.put_part.Goals as goal

pub loop-i-init : goal.loop-i-init
loop-i-init g c = none_stand _ _ _ _

pub loop-i-preserved : goal.loop-i-preserved
loop-i-preserved g c =
    let a = c.args in
    let heights = g.H.Heights.given a.heights in
    -- the height that was read, as the machine has it
    let back : to_z w16 (of_z w16 c.at.result) ≡ c.at.result = to_z-of_z {w = w16} (record { sfits = c.at.type_inv }) in
    let word : c.word_of_short-word.result ≡ word_of (nth_height heights (a.first + c.loop-i.i)) =
    rw (back, c.at.ensures) at c.word_of_short-word.ensures
    in
    one_more a.out.now a.at heights a.first c.loop-i.i c.loop-i.out c.loop-i.words c.loop-i.highs c.loop-i.invariant (omega arith) (omega arith)
    c.word_of_short-word.result word (omega arith) c.put16.new.s c.put16.auto.s c.put16.ensures
