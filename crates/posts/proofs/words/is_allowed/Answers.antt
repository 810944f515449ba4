-- `words::is_allowed`: each of its tests settles the definition, or is all that the definition leaves.
use Rattle.std.proofs.Common.{sym, arith, eq-eqb}
use Rattle.posts.specs.Words.{word_allowed}
use Rattle.posts.proofs.PostWords.{up_allowed, down_allowed}
use Rattle.posts.proofs.words.is_allowed.Goals as goal

pub returns-then-word-eq65535 : goal.returns-then-word-eq65535
unfolding word_allowed
returns-then-word-eq65535 c = simp (eq-eqb _ _ c.if-word-eq65535.true)

pub returns-then-word-lt32768 : goal.returns-then-word-lt32768
returns-then-word-lt32768 c = sym (up_allowed c.args.voids c.args.word c.if-word-lt32768.true)

pub returns : goal.returns
returns c =
    let args = c.args in
    sym (down_allowed args.voids args.word (omega arith) c.if-word-eq65535.false)
