-- X1 and P6 over the column writers' own promises, inner and exported: a call that was done leaves the writer's words of its heights, none of them 8000 hex.
use Rattle.std.specs.Prelude.{Result, Ok, ⊤}
use Rattle.answers.specs.declared.Refusal.{Refusal}
use Prim.Native.Nat.{ℕ, ◌<◌}
use mathlib.Core.Path.{◌≡◌, sym, subst, ◌∙◌}
use mathlib.Core.Bool.{true}
use mathlib.Core.List.{List, ◌++◌}
use lib.IntN.{ℤ}
use lib.ListN.{length, drop, length-map}
use lib.Seq.{take-append_seam}
use contract.Lifetimes as L
use borrow.Fn.Kinds as K
use Rattle.octets.specs.Numbers.{bytes_of, bytes_of_words}
use Rattle.octets.specs.Sums.{sum_of}
use Rattle.octets.proofs.FrontLaws.{Begins, begins_less}
use Rattle.octets.proofs.JoinedLaws.{listed_is}
use Rattle.octets.proofs.WordLaws.{word_there}
use Rattle.answers.specs.Told.{act}
use Rattle.answers.proofs.Injective.{told_injective}
use Rattle.layout.specs.Levels.{posts_of}
use Rattle.posts.specs.Heights.{word_of}
use Rattle.columns.specs.Column.{preamble, sealed, column_of_words, words_of, column_of, word_in, words_in, Plain}
use Rattle.columns.proofs.ColumnWords.{length_preamble, allowed_fit}
use Rattle.columns.proofs.ColumnHeights.{Held, words_allowed_lem, words_plain}
use Rattle.sources.specs.Heights.{Heights, numbers, in_bytes, heights_of, heights_in_bytes}
use Rattle.sources.proofs.HeightLaws.{numbers_are}
use Rattle.column_writer.specs.Column.{judged_column_write, column_told_from, column_output_from, column_told, column_output}
use Rattle.column_writer.specs.Judged.{output_after}
use Rattle.column_writer.proofs.ColumnExactly.{ready}
use Rattle.column_writer.proofs.PostsExactly.{fine_long, fine_held}
use Rattle.column_writer.proofs.write.Reads as write-column
use Rattle.column_writer.proofs.write.Kinds as write-column-kinds
use Rattle.dted.proofs.writers.dted_write_column.Reads as host-write-column
use Rattle.dted.proofs.writers.dted_write_column.Kinds as host-write-column-kinds
use Rattle.demands.proofs.HostAnswers.{was_done}

-- the words that stand in an output, post by post, are the writer's of these heights, and plain
pub record Put (posts : ℕ) (zs : List ℤ) (out : List ℕ) : Type 0 where
  pub words : words_in out posts ≡ words_of zs
  pub plain : Plain (words_in out posts)

-- a column of heights in front of anything
column_put : (k : ℕ) (zs : List ℤ) (rest : List ℕ) → Held true zs → Put (length zs) zs (column_of k zs ++ rest)
unfolding column_of_words sealed
column_put k zs rest held =
    let body = preamble k ++ bytes_of_words (words_of zs) in
    let out = column_of k zs ++ rest in
    let begins : Begins out body = begins_less out body (bytes_of 4 (sum_of body)) (take-append_seam (column_of k zs) rest) in
    let fit = allowed_fit true (words_of zs) (words_allowed_lem true zs held) in
    let same : words_in out (length zs) ≡ words_of zs =
    listed_is (word_in out) (length zs) 0 (words_of zs) (length-map zs word_of)
    (λ i h. word_there out (words_of zs) (preamble k) 8 i (length_preamble k) (subst (λ (n : ℕ). i < n) (sym (length-map zs word_of)) h) fit begins)
    in
    record { words = same; plain = subst Plain (sym same) (words_plain true zs held) }

-- heights from any source, once a call was done
done_put : (level number : ℕ) (g : Heights) (out : List ℕ) → judged_column_write level number g (length out) ≡ Ok tt
    → Put (posts_of level) (heights_of g) (output_after (judged_column_write level number g (length out)) (column_of number (heights_of g)) out)
done_put level number g out done =
    let zs = heights_of g in
    let column = column_of number zs in
    let fine = (ready level number g (length out) done).fine in
    subst (λ (x : Result ⊤ Refusal). Put (posts_of level) zs (output_after x column out)) (sym done)
    (subst (λ (n : ℕ). Put n zs (output_after (Ok tt) column out)) (fine_long _ _ _ _ _ fine) (column_put number zs (drop (length column) out) (fine_held _ _ _ _ _ fine)))

-- the column writer over heights
pub column_words : (κs : L.Lfts 2) (a : K.Dens κs write-column-kinds.ps) (r : _) (s : _) → write-column.Post κs a r s → r ≡ Ok tt
    → Put (posts_of a.1.0) a.1.1.1.0.now s.0.now
unfolding column_told column_output
column_words κs a r s kept was =
    let zs = a.1.1.1.0.now in
    let out = a.0.now in
    let x = judged_column_write a.1.0 a.1.1.0 (numbers zs) (length out) in
    let done : x ≡ Ok tt = sym (told_injective act r x kept.0) ∙ was in
    subst (Put (posts_of a.1.0) zs) (sym kept.1)
    (subst (λ (ys : List ℤ). Put (posts_of a.1.0) ys (output_after x (column_of a.1.1.0 ys) out)) (numbers_are zs) (done_put a.1.0 a.1.1.0 (numbers zs) out done))

-- and the exported one, over bytes
pub host_column_words : (κs : L.Lfts 2) (a : K.Dens κs host-write-column-kinds.ps) (r : _) (s : _) → host-write-column.Post κs a r s → r ≡ 0
    → Put (posts_of a.1.0) (heights_in_bytes a.1.1.1.0.now) s.0.now
unfolding column_told_from column_output_from
host_column_words κs a r s kept was =
    let g = in_bytes a.1.1.1.0.now in
    let out = a.0.now in
    let done = was_done (judged_column_write a.1.0 a.1.1.0 g (length out)) (sym kept.0 ∙ was) in
    subst (Put (posts_of a.1.0) (heights_of g)) (sym kept.1) (done_put a.1.0 a.1.1.0 g out done)
