-- Nothing past the headers counts: what is judged hangs on the first 3,428 bytes alone.
use Prim.Native.Nat.{ℕ, ◌≤◌}
use native.Mathlib.Omega.{arith}
use mathlib.Core.Path.{◌≡◌}
use mathlib.Core.List.{List}
use lib.ListN.{length, take}
use Rattle.octets.proofs.PartLaws.{part_alike}
use Rattle.fields.specs.Table.{field_at}
use Rattle.headers.specs.Basis.{basis_in}
use Rattle.headers.specs.Judged.{judged}
use Rattle.headers.proofs.TableRows.{row}
use Rattle.headers.proofs.FreeBytes.{SameFields, items_same, basis_alike, free_bytes_lem}

module _ (s t : List ℕ) (ls : 3428 ≤ length s) (lt : 3428 ≤ length t) (e : take 3428 s ≡ take 3428 t) where
  -- each field lies within the headers
  pub same_fields : SameFields s t
  same_fields i h = part_alike s t 3428 (field_at i).0 (field_at i).1 ls lt (omega (arith, (row i h).within)) e

  pub same_basis : basis_in s ≡ basis_in t
  same_basis = basis_alike s t (items_same s t same_fields)

  pub same_headers : judged s ≡ judged t
  same_headers = free_bytes_lem s t ls lt same_fields
