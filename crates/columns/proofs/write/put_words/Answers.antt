-- `put_words`: the words of the parts so far stand, and the sum of their bytes is known.
use Rattle.std.proofs.Common.{◌≡◌, ℕ, ◌+◌, ◌*◌, ◌/◌, ◌%◌, ◌≤◌, arith}
use Rattle.octets.specs.Numbers.{bytes_of_words}
use Rattle.octets.specs.Sums.{sum_of}
use Rattle.sources.specs.Heights.{Heights, height_words}
use Rattle.columns.proofs.WordParts.{Summed, none_summed, part_more, sum_most}
use Rattle.columns.proofs.write.put_words.Given.{Over}
use Rattle.columns.proofs.write.put_words.Goals as goal
use Rattle.columns.proofs.write.put_words.Goals.{After-put_part}

-- what a part's sum is at most, however many words it has
most : (g : Heights) (first n r : ℕ) → r ≡ sum_of (bytes_of_words (height_words g first n)) → r ≤ 510 * n
most g first n r e = rw e (sum_most g first n)

pub loop-part-init : goal.loop-part-init
loop-part-init g c = none_summed _ _ _

pub overflow_add-sum : goal.overflow_add-sum
overflow_add-sum g c =
    let heights = g.H.Heights.given c.args.heights in
    omega (arith, most heights _ _ _ c.loop-part.invariant.is, most heights _ _ _ c.put_part-sum.ensures.summed)

pub loop-part-preserved : goal.loop-part-preserved
loop-part-preserved g c =
    let a = c.args in
    let l = c.loop-part in
    let on : (l.part + 1) * 256 ≡ l.part * 256 + 256 = omega arith in
    rw on
    (part_more a.out.now (g.H.Heights.given a.heights) a.first (l.part * 256) 256 l.out l.sum l.invariant
    (omega (arith, c.requires.room)) c.word_at.result c.word_at.ensures c.put_part-sum.new.out c.put_part-sum.auto.out
    c.put_part-sum.ensures.lent c.put_part-sum.result c.put_part-sum.ensures.summed)

pub overflow_add-result : goal.overflow_add-result
overflow_add-result g c =
    let heights = g.H.Heights.given c.args.heights in
    omega (arith, most heights _ _ _ c.loop-part.invariant.is, most heights _ _ _ c.put_part.ensures.summed)

-- the rest, after the parts
last : (g : Over) (c : After-put_part g) →
    let a = c.args in
    Summed a.out.now (g.H.Heights.given a.heights) a.first a.posts c.put_part.new.out (c.loop-part.sum + c.put_part.result)
last g c =
    let a = c.args in
    let l = c.loop-part in
    let n : l.part ≡ a.posts / 256 = omega arith in
    let all : a.posts / 256 * 256 + a.posts % 256 ≡ a.posts = omega arith in
    rw all
    at (part_more a.out.now (g.H.Heights.given a.heights) a.first (a.posts / 256 * 256) (a.posts % 256) l.out l.sum (rw n at l.invariant)
    (omega (arith, c.requires.room)) c.word_at-2.result c.word_at-2.ensures c.put_part.new.out c.put_part.auto.out
    c.put_part.ensures.lent c.put_part.result c.put_part.ensures.summed)

pub returns-clause-summed : goal.returns-clause-summed
returns-clause-summed g c = (last g (goal.at.returns-clause-summed g c).After-put_part).is

pub returns-clause-lent : goal.returns-clause-lent
returns-clause-lent g c = (last g (goal.at.returns-clause-lent g c).After-put_part).put
