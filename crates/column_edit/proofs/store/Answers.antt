-- `store`: the post's two bytes, then what the checksum was without the old ones and with the new.
use Rattle.std.proofs.Common.{◌≡◌, ℕ, ◌+◌, ◌-◌, ◌≤◌, List, take, drop, ap, ◌∙◌, ◌<◌, get_or, arith, rules}
use Rattle.column_edit.proofs.SumStored.{post_under, sum_found, sum_small}
use Rattle.columns.specs.Column.{word_at, sum_at}
use Rattle.column_edit.specs.Stored.{with_word, stored}
use Rattle.octets.specs.Numbers.{number_at, bytes_of}
use Rattle.octets.specs.Pastes.{pasted}
use Rattle.octets.specs.Sums.{sum_of}
use Rattle.column_edit.proofs.store.Goals as goal
use Rattle.column_edit.proofs.store.Goals.{After-be32, After-sum-new}

-- the checksum that stood there is at least the old bytes' sum
under : (c : After-be32) → c.sum-old.result ≤ c.be32.result
under c =
    let a = c.args in
    let old = rw c.word_at-at.ensures at c.sum-old.ensures in
    let all = rw c.sum_at-end.ensures at c.be32.ensures in
    omega (arith, old, all, c.requires.checksum, post_under a.column.now a.posts a.post a.word c.requires.long c.requires.inside)

-- the sum of two bytes, as it was asked for
abbrev two_at : List ℕ → ℕ → ℕ
two_at l at = sum_of (take (at + 2 - at) (drop at l))

-- once the word was put
module _ (c : After-sum-new) where
  abbrev after : List ℕ
  after = with_word c.args.column.now c.args.post c.args.word

  -- what was put, read and summed, at the places that the definitions have
  word_put : c.put16.new.s ≡ after
  word_put = c.put16.ensures ∙ ap (λ (at : ℕ). pasted c.args.column.now at (bytes_of 2 c.args.word)) c.word_at-at.ensures

  all_is : c.be32.result ≡ number_at c.args.column.now (sum_at c.args.posts) 4
  all_is = c.be32.ensures ∙ ap (λ (end : ℕ). number_at c.args.column.now end 4) c.sum_at-end.ensures

  old_is : c.sum-old.result ≡ two_at c.args.column.now (word_at c.args.post)
  old_is = c.sum-old.ensures ∙ ap (two_at c.args.column.now) c.word_at-at.ensures

  new_is : c.sum-new.result ≡ two_at c.put16.new.s (word_at c.args.post)
  new_is = c.sum-new.ensures ∙ ap (two_at c.put16.new.s) c.word_at-at.ensures

  total : c.be32.result - c.sum-old.result + c.sum-new.result ≡ sum_of (take (sum_at c.args.posts) after)
  total =
      let a = c.args in
      sum_found a.column.now a.posts a.post a.word c.requires.long c.requires.inside c.put16.new.s word_put
      c.be32.result c.sum-old.result c.sum-new.result
      (all_is ∙ c.requires.checksum) old_is new_is

pub overflow_sub-rest : goal.overflow_sub-rest
overflow_sub-rest c = under (goal.at.overflow_sub-rest c).After-be32

pub overflow_add-rest : goal.overflow_add-rest
overflow_add-rest c =
    let t = (goal.at.overflow_add-rest c).After-sum-new in
    let a = c.args in
    let l = c.put16.new.s in
    let long = c.put16.auto.s ∙ c.requires.long in
    let was : (i : ℕ) → get_or a.column.now i 0 < 256 = λ i. search rules in
    let is : (i : ℕ) → get_or l i 0 < 256 = λ i. search rules in
    omega (
      arith,
      new_is t,
      post_under l a.posts a.post a.word long c.requires.inside,
      sum_small l (sum_at a.posts) a.posts long c.requires.few is,
      all_is t,
      c.requires.checksum,
      sum_small a.column.now (sum_at a.posts) a.posts c.requires.long c.requires.few was,
    )

pub returns : goal.returns
unfolding stored
returns c =
    let t = (goal.at.returns c).After-sum-new in
    let end = sum_at c.args.posts in
    rw c.sum_at-end.ensures at c.put32.ensures
    ∙ ap (λ (l : List ℕ). pasted l end (bytes_of 4 (c.be32.result - c.sum-old.result + c.sum-new.result))) (word_put t)
    ∙ ap (λ (v : ℕ). pasted (after t) end (bytes_of 4 v)) (total t)
