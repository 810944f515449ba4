-- Rows judged together: all of a part of the table keep their rules exactly where the search finds none that breaks its own.
use Rattle.std.specs.Prelude.{Option, Some, None, is_some}
use Rattle.std.specs.Option.{unwrap_or}
use Prim.Native.Nat.{ℕ, zero, suc, ◌+◌}
use mathlib.Core.Path.{◌≡◌, refl, sym, ap, ◌∙◌}
use mathlib.Core.Bool.{Bool, true, false, not}
use mathlib.Core.List.{List}
use Rattle.octets.specs.Choice.{both}
use Rattle.octets.specs.Scan.{scan}
use Rattle.octets.proofs.ChoiceLaws.{by_test, clash}
use Rattle.fields.specs.Table.{field_at}
use Rattle.due.specs.declared.Basis.{Basis}
use Rattle.headers.specs.Judged.{keeps}
use Rattle.headers.proofs.BrokenRows.{first_in}

-- n rows from i on keep their rules
abbrev joins : List ℕ → Basis → ℕ → Bool → Bool
joins s d i rest = both (keeps s d (field_at i)) rest

abbrev pub kept_in : List ℕ → Basis → ℕ → ℕ → Bool
kept_in s d i n = scan (joins s d) true i n

not_alike : (a b : Bool) → not a ≡ not b → a ≡ b
not_alike true true e = refl
not_alike false false e = refl
not_alike true false e = sym e
not_alike false true e = sym e

no_some : (r : Option ℕ) → is_some r ≡ false → r ≡ None
no_some None e = refl
no_some (Some i) e = clash refl e

some_or : (r : Option ℕ) (none : ℕ) → is_some r ≡ true → r ≡ Some (unwrap_or r none)
some_or None none e = clash e refl
some_or (Some i) none e = refl

module _ (s : List ℕ) (d : Basis) where
  -- all do exactly where the search finds none
  pub none_broken : (n i : ℕ) → is_some (first_in s d i n) ≡ not (kept_in s d i n)
  unfolding scan
  none_broken zero i = refl
  none_broken (suc n) i =
      by_test (keeps s d (field_at i))
      (λ t. rw t (none_broken n (i + 1)))
      (λ t. rw t)

  -- so an answer that the search found none is that all do
  pub search_ends : (n i : ℕ) (none : Bool) → is_some (first_in s d i n) ≡ not none → none ≡ kept_in s d i n
  search_ends n i none e = not_alike none (kept_in s d i n) (sym e ∙ none_broken n i)

  pub none_kept : (n i : ℕ) → first_in s d i n ≡ None → kept_in s d i n ≡ true
  none_kept n i e = sym (search_ends n i true (ap is_some e))

  -- and where one does not, it is the row that the search found, whatever is taken where none is
  pub one_broken : (n i none : ℕ) → kept_in s d i n ≡ false → (r : Option ℕ) → r ≡ first_in s d i n → (row : ℕ) → row ≡ unwrap_or r none → first_in s d i n ≡ Some row
  one_broken n i none k r e row f = sym e ∙ some_or r none (ap is_some e ∙ none_broken n i ∙ ap not k) ∙ ap Some (sym f)

  pub kept_none : (n i : ℕ) → kept_in s d i n ≡ true → first_in s d i n ≡ None
  kept_none n i k = no_some (first_in s d i n) (none_broken n i ∙ ap not k)
