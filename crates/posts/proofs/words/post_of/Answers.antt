-- `words::post_of`: what the machine reads back from 16 bits is the height that the definition names.
use Rattle.std.proofs.Common.{◌≡◌, ◌-◌, pos, ◌-ℤ◌, neg_ℤ, sym, ap, ◌∙◌, w16, to_z, of_z, arith, eq-eqb}
use Rattle.std.proofs.lemmas.Int.{ints}
use Rattle.posts.specs.Words.{post_of}
use Rattle.posts.specs.declared.Post.TheVariants.{Height}
use Rattle.posts.proofs.PostWords.{up_post, down_post}
use Rattle.posts.proofs.words.post_of.Goals as goal

pub returns-then-word-eq65535 : goal.returns-then-word-eq65535
unfolding post_of
returns-then-word-eq65535 c = simp (eq-eqb _ _ c.if-word-eq65535.true)

pub returns-then-word-lt32768 : goal.returns-then-word-lt32768
returns-then-word-lt32768 c =
    let w = c.args.word in
    let height : to_z w16 (of_z w16 c.cast_signed.result) ≡ pos w = omega (arith, ints) in
    ap Height height ∙ sym (up_post w c.if-word-lt32768.true)

pub returns : goal.returns
returns c =
    let w = c.args.word in
    let m = c.cast_signed-magnitude.result in
    let depth : to_z w16 (of_z w16 (pos 0 -ℤ to_z w16 (of_z w16 m))) ≡ neg_ℤ (pos (w - 0x8000)) = omega (arith, ints) in
    ap Height depth ∙ sym (down_post w c.if-word-lt32768.false c.if-word-eq65535.false)
