-- Y1, N17: which numbers name a year, and what stands in front of a call's answer: 17 exactly where the number names none.
use Rattle.std.specs.Prelude.{Result, Ok, Err}
use Rattle.answers.specs.declared.Refusal.{Refusal}
use Rattle.answers.specs.declared.Refusal.TheVariants as because
use Prim.Native.Nat.{ℕ, ◌≤◌}
use native.Mathlib.Omega.{arith}
use mathlib.Core.Path.{◌≡◌, refl, sym, ap, subst, ◌∙◌}
use mathlib.Core.List.{List}
use borrow.Author.Tests.{ne_eqb}
use Rattle.octets.proofs.ChoiceLaws.{by_equal}
use Rattle.answers.specs.Told.{Told, refused, numbered}
use Rattle.years.specs.declared.Year.{Year}
use Rattle.years.specs.declared.Year.TheVariants.{One, Two}
use Rattle.years.specs.Years.{named_of, Names, NamesNone, by_named, under, left_under}

-- 1 and 2 name the two years, and no other number names any
pub one_named : Names 1 One
unfolding named_of
one_named = refl

pub two_named : Names 2 Two
unfolding named_of
two_named = refl

pub no_other_named : (n : ℕ) → (n ≡ 1 → ⊥) → (n ≡ 2 → ⊥) → NamesNone n
unfolding named_of
no_other_named n a b = rw (ne_eqb n 1 a, ne_eqb n 2 b)

-- so a number that names one is small
pub named_low : (n : ℕ) (year : Year) → Names n year → n ≤ 2
named_low n year e =
    by_equal n 1
    (λ one. omega arith)
    (λ not-one.
    by_equal n 2 (λ two. omega arith) (λ not-two. let clash = sym (no_other_named n not-one not-two) ∙ e in let z : ◌≡◌ {A = ℕ} 0 1 = cc in absurd (omega arith)))

-- and it names no other
pub names_one : (n : ℕ) (a b : Year) → Names n a → Names n b → a ≡ b
names_one n a b e f = let same : ◌≡◌ {A = Result Year Refusal} (Ok a) (Ok b) = sym e ∙ f in cc

-- by cases on what a number names
pub by_year : {C : Type 0} (n : ℕ) → (NamesNone n → C) → ((year : Year) → Names n year → C) → C
by_year n f g =
    by_equal n 1
    (λ one. g One (ap named_of one ∙ one_named))
    (λ not-one. by_equal n 2 (λ two. g Two (ap named_of two ∙ two_named)) (λ not-two. f (no_other_named n not-one not-two)))

-- the refusal where it names none is 17
pub refused_year : (n : ℕ) (r : Refusal) → Err r ≡ named_of n → r ≡ because.Year n
refused_year n r e =
    by_year n
    (λ none. let same : ◌≡◌ {A = Result Year Refusal} (Err r) (Err (because.Year n)) = e ∙ none in cc)
    (λ year named. let clash = e ∙ named in let z : ◌≡◌ {A = ℕ} 0 1 = cc in absurd (omega arith))

-- what there is under a name: of the year that is named, or instead
pub named_is : {A : Type 0} (n : ℕ) (year : Year) → Names n year → (instead : A) (call : Year → A) → by_named (named_of n) instead call ≡ call year
named_is n year e instead call = ap (λ (m : Result Year Refusal). by_named m instead call) e

pub none_is : {A : Type 0} (n : ℕ) → NamesNone n → (instead : A) (call : Year → A) → by_named (named_of n) instead call ≡ instead
none_is n e instead call = ap (λ (m : Result Year Refusal). by_named m instead call) e

-- so of what a call tells, and of the bytes that it leaves
module _ (n : ℕ) (tells : Year → Told) where
  pub under_none : NamesNone n → under n tells ≡ refused 17 n
  under_none e = none_is n e (refused 17 n) tells

  pub under_named : (year : Year) → Names n year → under n tells ≡ tells year
  under_named year e = named_is n year e (refused 17 n) tells

  -- and by the refusal that a call is left with
  pub under_refused : (r : Refusal) → Err r ≡ named_of n → numbered r ≡ under n tells
  under_refused r e = let none = refused_year n r e in ap numbered none ∙ sym (under_none (sym e ∙ ap Err none))

module _ (n : ℕ) (s : List ℕ) (leaves : Year → List ℕ) where
  pub left_named : (year : Year) → Names n year → left_under n s leaves ≡ leaves year
  left_named year e = named_is n year e s leaves

  pub left_none : NamesNone n → left_under n s leaves ≡ s
  left_none e = none_is n e s leaves

-- N14, N17: the rows of a call in its order, from its rows under each year: 17 comes first, where the number names none
pub data Rows (n : ℕ) (Row : Year → Told → Type 0) : Told → Type 0 where
  none : NamesNone n → Rows n Row (refused 17 n)
  named : (year : Year) → Names n year → (t : Told) → Row year t → Rows n Row t

module _ (n : ℕ) (tells : Year → Told) (Row : Year → Told → Type 0) where
  -- every row's answer is given
  pub given : ((year : Year) (t : Told) → Row year t → tells year ≡ t) → (t : Told) → Rows n Row t → under n tells ≡ t
  given gives _ (none e) = under_none n tells e
  given gives t (named year e _ r) = under_named n tells year e ∙ gives year t r

  -- and every answer is a row's
  pub row : ((year : Year) → Row year (tells year)) → Rows n Row (under n tells)
  row is =
      by_year n
      (λ e. subst (Rows n Row) (sym (under_none n tells e)) (none e))
      (λ year e. subst (Rows n Row) (sym (under_named n tells year e)) (named year e (tells year) (is year)))
