-- `put_column`: preamble and words, then the sum of what stands before the checksum.
use Rattle.std.proofs.Common.{◌≡◌, ℕ, ◌+◌, List, take, ap, ◌∙◌, arith}
use Rattle.columns.proofs.WordParts.{sum_most}
use Rattle.columns.proofs.WrittenColumn.{preamble_there, preamble_most, column_put}
use Rattle.columns.specs.Column.{preamble, sum_at}
use Rattle.octets.proofs.JoinedLaws.{length_listed}
use Rattle.octets.specs.Numbers.{bytes_of, bytes_of_words}
use Rattle.octets.specs.Pastes.{pasted}
use Rattle.octets.specs.Sums.{sum_of}
use Rattle.sources.specs.Heights.{Heights, height_words}
use Rattle.columns.proofs.write.put_column.Given.{Over}
use Rattle.columns.proofs.write.put_column.Goals as goal
use Rattle.columns.proofs.write.put_column.Goals.{After-put_words-words}

module _ (g : Over) (c : After-put_words-words g) where
  abbrev given : Heights
  given = g.H.Heights.given c.args.heights

  abbrev words : List ℕ
  words = height_words given c.args.first c.args.posts

  summed : c.sum-before.result ≡ sum_of (preamble c.args.number)
  summed =
      c.sum-before.ensures
      ∙ ap (λ (l : List ℕ). sum_of (take 8 l)) c.put_preamble.ensures
      ∙ ap sum_of (preamble_there c.args.out.now c.args.number)

  words_put : c.put_words-words.new.out ≡ pasted (pasted c.args.out.now 0 (preamble c.args.number)) 8 (bytes_of_words words)
  words_put =
      c.put_words-words.ensures.lent
      ∙ ap (λ (l : List ℕ). pasted l 8 (bytes_of_words words)) c.put_preamble.ensures

pub overflow_add-before : goal.overflow_add-before
overflow_add-before g c =
    let p = (goal.at.overflow_add-before g c).After-put_words-words in
    let a = c.args in
    omega (arith, summed g p, preamble_most a.number, c.put_words-words.ensures.summed, sum_most (given g p) a.first a.posts, c.requires.few)

pub returns : goal.returns
returns g c =
    let p = (goal.at.returns g c).After-put_words-words in
    let a = c.args in
    let total = c.sum-before.result + c.put_words-words.result in
    rw c.sum_at.ensures at c.put32.ensures
    ∙ ap (λ (l : List ℕ). pasted l (sum_at a.posts) (bytes_of 4 total)) (words_put g p)
    ∙ column_put a.out.now a.number (words g p) a.posts (length_listed _ a.posts) c.requires.long total
    (omega (arith, summed g p, c.put_words-words.ensures.summed))
