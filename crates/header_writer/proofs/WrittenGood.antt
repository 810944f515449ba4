-- Headers written from a description in range are judged good, whatever follows them, and describe what they were written from.
use Rattle.std.specs.Prelude.{Ok}
use Prim.Native.Nat.{ℕ, ◌≤◌}
use native.Mathlib.Omega.{arith}
use mathlib.Core.Path.{◌≡◌, sym, ap, ◌∙◌}
use mathlib.Core.Bool.{true}
use mathlib.Core.List.{List, ◌++◌}
use lib.ListN.{length, take, length-append}
use lib.Seq.{take_at, take_all}
use Rattle.headers.specs.Basis.{basis_in}
use Rattle.description.specs.Items.{in_range}
use Rattle.headers.specs.Judged.{judged, facts_in}
use Rattle.description.specs.Described.{items_in, described_by, described}
use Rattle.description.specs.Facts.{basis_of}
use Rattle.header_writer.specs.Written.{headers_for}
use Rattle.description.specs.declared.Description.{Description}
use Rattle.header_writer.proofs.BasisBack.{basis_back}
use Rattle.headers.proofs.Exactly.{follows_good}
use Rattle.header_writer.proofs.RoundTrip.{written_follows, written_read}
use Rattle.headers.proofs.SameHeaders.{same_headers, same_basis}
use Rattle.description.proofs.SameItems.{same_items}
use Rattle.header_writer.proofs.WrittenLength.{length_headers}

module _ (d : Description) (rest : List ℕ) (e : in_range d ≡ true) where
  long : 3428 ≤ length (headers_for d ++ rest)
  long = let n = length_headers d in rw length-append (omega arith)

  alone : 3428 ≤ length (headers_for d)
  alone = let n = length_headers d in omega arith

  front : take 3428 (headers_for d ++ rest) ≡ take 3428 (headers_for d)
  front =
      let n = length_headers d in
      take_at (headers_for d) rest 3428 n ∙ sym (take_all 3428 (headers_for d) (omega arith))

  pub written_good : judged (headers_for d ++ rest) ≡ Ok (facts_in (headers_for d))
  written_good = same_headers (headers_for d ++ rest) (headers_for d) long alone front ∙ follows_good (headers_for d) (written_follows d e)

  pub written_basis : basis_in (headers_for d ++ rest) ≡ basis_of d
  written_basis = same_basis (headers_for d ++ rest) (headers_for d) long alone front ∙ basis_back d e

  pub written_items : items_in (headers_for d ++ rest) ≡ d
  written_items = same_items (headers_for d ++ rest) (headers_for d) long alone front ∙ written_read d e

  pub written_described : described (headers_for d ++ rest) ≡ Ok d
  unfolding described
  written_described = ap (described_by (headers_for d ++ rest)) written_good ∙ ap Ok written_items
