-- The rows of the field table: each lies within the headers, and is as wide as its kind is.
use Prim.Native.Nat.{ℕ, ◌+◌, ◌<◌, ◌≤◌}
use native.Mathlib.Omega.{arith}
use mathlib.Core.Path.{◌≡◌, ◌∙◌}
use mathlib.Core.Bool.{Bool}
use mathlib.Core.List.{List, [], ◌∷◌}
use lib.Dec.{leb, eqb, leb→le, eqb→eq}
use lib.ListN.{length, drop, length-drop}
use lib.Seq.{length-take-le}
use Rattle.octets.specs.Tests.{every}
use Rattle.octets.proofs.TestLaws.{each, below}
use Rattle.fields.specs.Table.{bytes_in, field_at}
use Rattle.rules.specs.Rules.{width_of}
use Rattle.fields.specs.declared.Field.{Field}

pub record Row (f : Field) : Type 0 where
  pub within : f.0 + f.1 ≤ 785
  pub wide : f.1 ≡ width_of f.2

-- the same, as tests
abbrev row_tests : Field → List Bool
row_tests f = leb (f.0 + f.1) 785 ∷ eqb f.1 (width_of f.2) ∷ []

pub row : (i : ℕ) → i < 40 → Row (field_at i)
row i h =
    let f = field_at i in
    let held = each (row_tests f) (below (λ (k : ℕ). every (row_tests (field_at k))) 40 tt i h) in
    record {
      within = leb→le (f.0 + f.1) 785 (held 0);
      wide = eqb→eq f.1 (width_of f.2) (held 1);
    }

pub bytes_long : (s : List ℕ) (f : Field) → f.0 + f.1 ≤ length s → length (bytes_in s f) ≡ f.1
bytes_long s f h = length-take-le f.1 (drop f.0 s) (rw (length-drop f.0 s) (omega arith))

-- a row of the table, and its bytes in headers that are there whole: they lie within the headers, and are as wide as its kind
module _ (s : List ℕ) (long : 3428 ≤ length s) (i : ℕ) (h : i < 40) (f : Field) (e : f ≡ field_at i) where
  row_is : Row f
  row_is = rw e (row i h)

  pub row_there : f.0 + f.1 ≤ length s
  row_there = omega (arith, row_is.within)

  pub row_wide : length (bytes_in s f) ≡ width_of f.2
  row_wide = bytes_long s f row_there ∙ row_is.wide

  pub row_within : f.0 + length (bytes_in s f) ≤ 3428
  row_within = omega (arith, bytes_long s f row_there, row_is.within)
