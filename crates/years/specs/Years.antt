-- The rule year that a call names (rules Y1 and N17): 1 or 2, and any other number is refused before all else.
use Rattle.std.specs.Prelude.{ℕ, ◌≡◌, List, eqb, Result, Ok, Err}
use Rattle.octets.specs.Choice.{pick}
use Rattle.answers.specs.Told.{Told, numbered}
use Rattle.answers.specs.declared.Refusal.{Refusal}
use Rattle.answers.specs.declared.Refusal.TheVariants as because
use Rattle.years.specs.declared.Year.{Year}
use Rattle.years.specs.declared.Year.TheVariants.{One, Two}

-- Y1: what a number names; N17 where it names no year
unfoldable pub named_of : ℕ → Result Year Refusal
named_of n = pick (eqb n 1) (Ok One) (pick (eqb n 2) (Ok Two) (Err (because.Year n)))

-- a number names this year, or none
abbrev pub Names : ℕ → Year → Type 0
Names n year = named_of n ≡ Ok year

abbrev pub NamesNone : ℕ → Type 0
NamesNone n = named_of n ≡ Err (because.Year n)

-- what there is under a year that was named, or instead
abbrev pub by_named : {A : Type 0} → Result Year Refusal → A → (Year → A) → A
by_named (Ok year) instead then = then year
by_named (Err r) instead then = instead

-- N17: what a call tells. 17 is put in front here alone
abbrev pub under : ℕ → (Year → Told) → Told
under n tells = by_named (named_of n) (numbered (because.Year n)) tells

-- N15: and the bytes that it leaves
abbrev pub left_under : ℕ → List ℕ → (Year → List ℕ) → List ℕ
left_under n s leaves = by_named (named_of n) s leaves
