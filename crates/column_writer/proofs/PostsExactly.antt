-- N10 to N12, N14: of what is given and the output, exactly the first row that holds is answered, whatever the source.
use Rattle.std.specs.Prelude.{Result, Ok, Err, ⊤}
use Rattle.answers.specs.declared.Refusal.{Refusal}
use Prim.Native.Nat.{ℕ, ◌<◌, ◌≤◌}
use native.Mathlib.Omega.{arith}
use mathlib.Core.Path.{◌≡◌, sym, ap, subst, ◌∙◌}
use mathlib.Core.Bool.{Bool, false}
use lib.ListN.{length}
use borrow.Author.Tests.{le-leb, lt-leb}
use Rattle.octets.proofs.ChoiceLaws.{by_test, by_order}
use Rattle.octets.proofs.SearchLaws.{Before, first_found, none_found, search_same, Searched, all, first, searched}
use Rattle.posts.specs.Heights.{height_allowed}
use Rattle.answers.specs.declared.Refusal.TheVariants.{GridLength, Height, Room}
use Rattle.columns.proofs.ColumnHeights.{Held}
use Rattle.sources.specs.Heights.{Heights, numbers, nth_height, heights_of, Counts, counts}
use Rattle.sources.proofs.HeightLaws.{counts_if, counts_only, not_counted, never_counted, counted, heights_counted, height_listed}
use Rattle.column_writer.specs.Judged.{heights_then, room_for, judged_posts}

-- each of the first n heights is one that may be held
abbrev pub HeldBefore : Bool → Heights → ℕ → Type 0
HeldBefore voids g n = Before (λ (i : ℕ). height_allowed voids (nth_height g i)) n

-- the rows in the call's order, each where it holds and none before it does
pub data PostsRow (posts bytes : ℕ) (voids : Bool) (g : Heights) (room : ℕ) : Result ⊤ Refusal → Type 0 where
  -- 10
  differs : (Counts g posts → ⊥) → PostsRow posts bytes voids g room (Err (GridLength posts))
  -- 11
  not_held : Counts g posts → (n : ℕ) → n < posts → height_allowed voids (nth_height g n) ≡ false → HeldBefore voids g n
      → PostsRow posts bytes voids g room (Err (Height n))
  -- 12
  no_room : Counts g posts → HeldBefore voids g posts → room < bytes → PostsRow posts bytes voids g room (Err (Room bytes))
  fine : Counts g posts → HeldBefore voids g posts → bytes ≤ room → PostsRow posts bytes voids g room (Ok tt)

module _ (posts bytes : ℕ) (voids : Bool) (g : Heights) (room : ℕ) where
  abbrev test : ℕ → Bool
  test i = height_allowed voids (nth_height g i)

  abbrev refusal : ℕ → Result ⊤ Refusal
  refusal i = Err (Height i)

  -- every row's answer is given
  pub posts_given : (x : Result ⊤ Refusal) → PostsRow posts bytes voids g room x → judged_posts posts bytes voids g room ≡ x
  unfolding judged_posts heights_then room_for
  posts_given _ (differs e) = rw (not_counted g posts e)
  posts_given _ (not_held l n h bad f) = rw (counts_if g posts l) (first_found test refusal _ n posts h bad f)
  posts_given _ (no_room l f h) = rw (counts_if g posts l, lt-leb bytes room h) (none_found test refusal (Err (Room bytes)) posts f)
  posts_given _ (fine l f h) = rw (counts_if g posts l, le-leb bytes room h) (none_found test refusal (Ok tt) posts f)

  abbrev Some : Type 0
  Some = (y : Result ⊤ Refusal) × PostsRow posts bytes voids g room y

  by_search : Counts g posts → Searched test posts → Some
  by_search l (first n h bad f) = (Err (Height n), not_held l n h bad f)
  by_search l (all f) = by_order bytes room (λ h. ((Ok tt), fine l f h)) (λ h. (Err (Room bytes), no_room l f h))

  by_length : Some
  by_length =
      by_test (counts g posts)
      (λ e. by_search (counts_only g posts e) (searched test posts))
      (λ e. (Err (GridLength posts), differs (never_counted g posts e)))

  -- and every answer is a row's
  pub posts_row : PostsRow posts bytes voids g room (judged_posts posts bytes voids g room)
  posts_row = subst (PostsRow posts bytes voids g room) (sym (posts_given by_length.0 by_length.1)) by_length.1

-- what is given is judged as its heights are, given as numbers
pub as_numbers : (posts bytes : ℕ) (voids : Bool) (g : Heights) (room : ℕ) → Counts g posts
    → judged_posts posts bytes voids g room ≡ judged_posts posts bytes voids (numbers (heights_of g)) room
unfolding judged_posts heights_then
as_numbers posts bytes voids g room l =
    let n = counted g posts l in
    rw (counts_if g posts l, counts_if (numbers (heights_of g)) posts (heights_counted g ∙ n))
    (search_same (test posts bytes voids g room) (test posts bytes voids (numbers (heights_of g)) room) (refusal posts bytes voids g room) (room_for bytes room) 0 posts
    (λ i h. ap (height_allowed voids) (sym (height_listed g i (omega arith)))))

-- what an accepted call was given
pub record Fine (posts bytes : ℕ) (voids : Bool) (g : Heights) (room : ℕ) : Type 0 where
  pub long : Counts g posts
  pub held : HeldBefore voids g posts
  pub roomy : bytes ≤ room

is_fine : (posts bytes : ℕ) (voids : Bool) (g : Heights) (room : ℕ) (x : Result ⊤ Refusal) → PostsRow posts bytes voids g room x → x ≡ Ok tt → Fine posts bytes voids g room
is_fine posts bytes voids g room _ (differs n) e = cc
is_fine posts bytes voids g room _ (not_held l n h bad f) e = cc
is_fine posts bytes voids g room _ (no_room l f h) e = cc
is_fine posts bytes voids g room _ (fine l f h) e = record { long = l; held = f; roomy = h }

pub posts_fine : (posts bytes : ℕ) (voids : Bool) (g : Heights) (room : ℕ) → judged_posts posts bytes voids g room ≡ Ok tt → Fine posts bytes voids g room
posts_fine posts bytes voids g room e = is_fine posts bytes voids g room _ (posts_row posts bytes voids g room) e

-- then there are as many heights as posts are due, and each may be held
module _ (posts bytes : ℕ) (voids : Bool) (g : Heights) (room : ℕ) (given : Fine posts bytes voids g room) where
  pub fine_long : length (heights_of g) ≡ posts
  fine_long = heights_counted g ∙ counted g posts given.long

  pub fine_held : Held voids (heights_of g)
  fine_held i h =
      ap (height_allowed voids) (height_listed g i (subst (λ (n : ℕ). i < n) (heights_counted g) h)) ∙ given.held i (subst (λ (n : ℕ). i < n) fine_long h)
