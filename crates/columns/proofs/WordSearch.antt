-- The search of a column's words, step by step as loops take it.
use Rattle.std.specs.Prelude.{Result, Ok, Err, ⊤}
use Rattle.answers.specs.declared.Refusal.{Refusal}
use Rattle.std.proofs.Common.{◌≡◌, ℕ, ◌+◌, ◌-◌, ◌<◌, ◌≤◌, Bool, true, false, List, sym, ◌∙◌, arith}
use native.Mathlib.Nat.{sub-zero}
use Rattle.octets.specs.Choice.{pick}
use Rattle.octets.proofs.SearchLaws.{search_on, search_stop, search_end, none_found}
use Rattle.posts.specs.Words.{word_allowed, words_allowed}
use Rattle.posts.proofs.PartLaws.{word_of_all}
use Rattle.answers.specs.declared.Refusal.TheVariants.{Word}
use Rattle.columns.specs.Column.{word_at, word_in}
use Rattle.columns.specs.Judged.{words_from}

module _ (s : List ℕ) (voids : Bool) (base i posts : ℕ) where
  abbrev test : ℕ → Bool
  test j = word_allowed voids (word_in s j)

  abbrev bad : ℕ → Result ⊤ Refusal
  bad j = Err (Word (base + word_at j))

  pub word_on : i < posts → word_allowed voids (word_in s i) ≡ true
      → words_from s voids base i (posts - i) ≡ words_from s voids base (i + 1) (posts - (i + 1))
  word_on = search_on test bad (Ok tt) i posts

  pub word_stop : i < posts → word_allowed voids (word_in s i) ≡ false → words_from s voids base i (posts - i) ≡ Err (Word (base + word_at i))
  word_stop = search_stop test bad (Ok tt) i posts

  pub words_end : posts ≤ i → words_from s voids base i (posts - i) ≡ Ok tt
  words_end = search_end test bad (Ok tt) i posts

-- where all words are allowed, none is found that is not: a search may as well start after the last
none_bad : (s : List ℕ) (voids : Bool) (base posts : ℕ) → words_allowed voids s 8 posts ≡ true → words_from s voids base 0 posts ≡ Ok tt
none_bad s voids base posts e = none_found (test s voids base 0 posts) (bad s voids base 0 posts) (Ok tt) posts (λ j h. word_of_all voids s 8 posts j e h)

pub searched_from : (s : List ℕ) (voids : Bool) (base posts : ℕ) (allowed : Bool) → allowed ≡ words_allowed voids s 8 posts
    → words_from s voids base (pick allowed posts 0) (posts - pick allowed posts 0) ≡ words_from s voids base 0 posts
searched_from s voids base posts true e = words_end s voids base posts posts (omega arith) ∙ sym (none_bad s voids base posts (sym e))
searched_from s voids base posts false e = rw sub-zero

pub starts_within : (posts : ℕ) (allowed : Bool) → pick allowed posts 0 ≤ posts
starts_within posts true = omega arith
starts_within posts false = omega arith
