-- X1, N8, N9, N14: 9 for the level, 8 for the number, else the rest: exactly the first row that holds is answered, where that is so of the rest.
use Rattle.std.specs.Prelude.{Result, Ok, Err, ⊤}
use Rattle.answers.specs.declared.Refusal.{Refusal}
use Prim.Native.Nat.{ℕ, ◌<◌, ◌≤◌}
use native.Mathlib.Omega.{arith}
use mathlib.Core.Path.{◌≡◌, refl}
use mathlib.Core.Bool.{Bool, true, false}
use lib.Dec.{ltb}
use borrow.Author.Tests.{lt-ltb, le-ltb, ltb-true}
use Rattle.octets.specs.Choice.{pick}
use Rattle.octets.proofs.ChoiceLaws.{by_order}
use Rattle.answers.specs.declared.Refusal.TheVariants.{Item, OffGrid}
use Rattle.layout.specs.Levels.{posts_of}
use Rattle.layout.specs.Grid.{grid_of}
use Rattle.layout.specs.declared.Grid.{Grid}
use Rattle.layout.specs.Ranges.{Ranged}
use Rattle.layout.proofs.Ranges.{ranged}
use Rattle.column_writer.specs.Column.{zone_one_columns, placed, placed_then, after_number}

on_by : (a b : Bool) (due g : Grid) → pick a (pick b (Ok due) (Err OffGrid)) (Err (Item 1)) ≡ Ok g
    → (a ≡ true) × ((b ≡ true) × (g ≡ due))
on_by true true due g on = (refl, (refl, cc))
on_by true false due g on = (refl, (cc, cc))
on_by false b due g on = (cc, (cc, cc))

module _ (level number : ℕ) where
  pub no_level : 3 ≤ level → placed level number ≡ Err (Item 1)
  unfolding placed
  no_level h = rw (le-ltb level 3 h)

  pub off_grid : level < 3 → zone_one_columns level ≤ number → placed level number ≡ Err OffGrid
  unfolding placed
  off_grid h u = rw (lt-ltb level 3 h, le-ltb number (zone_one_columns level) u)

  pub on_grid : level < 3 → number < zone_one_columns level → placed level number ≡ Ok (grid_of level 0)
  unfolding placed
  on_grid h u = rw (lt-ltb level 3 h, lt-ltb number (zone_one_columns level) u)

  -- what is placed on a grid is a column of the level's
  pub placed_on : (g : Grid) → placed level number ≡ Ok g → (level < 3) × ((number < zone_one_columns level) × (g ≡ grid_of level 0))
  unfolding placed
  placed_on g on =
      let facts = on_by (ltb level 3) (ltb number (zone_one_columns level)) (grid_of level 0) g on in
      (ltb-true level 3 facts.0, (ltb-true number (zone_one_columns level) facts.1.0, facts.1.1))

  pub placed_ranged : (g : Grid) → placed level number ≡ Ok g → Ranged g
  placed_ranged g on = let o = placed_on g on in rw o.1.1 (ranged level 0 o.0 (omega arith))

  -- a column of a level has few posts and a small number
  pub number_small : level < 3 → number < zone_one_columns level → (posts_of level ≤ 3601) × (number < 65536)
  unfolding grid_of
  number_small h u = let g = ranged level 0 h (omega arith) in (omega (arith, g.posts_high), omega (arith, g.columns_high))

-- the rows in the call's order, each where it holds and none before it does
pub data NumberRow (level number : ℕ) (Rest : Result ⊤ Refusal → Type 0) : Result ⊤ Refusal → Type 0 where
  -- 9
  level_past : 3 ≤ level → NumberRow level number Rest (Err (Item 1))
  -- 8
  number_past : level < 3 → zone_one_columns level ≤ number → NumberRow level number Rest (Err OffGrid)
  -- a row of the rest
  then_rest : (x : Result ⊤ Refusal) → level < 3 → number < zone_one_columns level → Rest x → NumberRow level number Rest x

module _ (level number : ℕ) (rest : Result ⊤ Refusal) where
  module _ (Rest : Result ⊤ Refusal → Type 0) where
    -- every row's answer is given
    pub given : ((x : Result ⊤ Refusal) → Rest x → rest ≡ x) → (x : Result ⊤ Refusal) → NumberRow level number Rest x → after_number level number rest ≡ x
    unfolding after_number
    given f _ (level_past h) = rw (no_level level number h)
    given f _ (number_past h u) = rw (off_grid level number h u)
    given f x (then_rest _ h u r) = rw (on_grid level number h u) (f x r)

    -- and every answer is a row's
    pub row : Rest rest → NumberRow level number Rest (after_number level number rest)
    unfolding after_number
    row r =
        by_order 3 level
        (λ h. rw (no_level level number h) (level_past h))
        (λ h.
        by_order (zone_one_columns level) number
        (λ u. rw (off_grid level number h u) (number_past h u))
        (λ u. rw (on_grid level number h u) (then_rest rest h u r)))

  -- what an accepted call was given
  is_ready : (x : Result Grid Refusal) → placed level number ≡ x → placed_then x rest ≡ Ok tt → (level < 3) × ((number < zone_one_columns level) × (rest ≡ Ok tt))
  is_ready (Ok g) e done = let o = placed_on level number g e in (o.0, (o.1.0, done))
  is_ready (Err r) e done = cc

  pub ready : after_number level number rest ≡ Ok tt → (level < 3) × ((number < zone_one_columns level) × (rest ≡ Ok tt))
  unfolding after_number
  ready done = is_ready (placed level number) refl done
