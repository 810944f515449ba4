-- A cell that was written is made of the headers of its description and of the words of its heights.
use Rattle.std.specs.Prelude.{Ok}
use Prim.Native.Nat.{ℕ}
use mathlib.Core.Path.{◌≡◌, refl, ap, ◌∙◌}
use mathlib.Core.Bool.{true}
use mathlib.Core.List.{List, [], ◌++◌, append-nil}
use lib.IntN.{ℤ}
use lib.ListN.{length, length-map}
use Rattle.years.specs.declared.Year.{Year}
use Rattle.posts.specs.Heights.{word_of}
use Rattle.description.specs.Items.{in_range}
use Rattle.headers.specs.Judged.{judged, facts_in}
use Rattle.description.specs.Described.{items_in}
use Rattle.description.specs.Facts.{basis_of, facts_for}
use Rattle.header_writer.specs.Written.{headers_for}
use Rattle.description.specs.declared.Description.{Description}
use Rattle.header_writer.proofs.WrittenGood as headers
use Rattle.header_writer.proofs.WrittenLength.{length_headers}
use Rattle.columns.specs.Column.{words_of}
use Rattle.columns.proofs.ColumnHeights.{Held, words_allowed_lem}
use Rattle.cells.proofs.FramedWords.{Made}
use Rattle.cells.proofs.MadeCells.{Headed, headed_range}
use Rattle.cell_writer.specs.Cell.{posts_due, frame_for}

-- headers say what they were written for, whatever follows them
facts_back : (d : Description) (rest : List ℕ) → in_range d ≡ true → facts_in (headers_for d ++ rest) ≡ facts_for d
unfolding facts_in facts_for items_in basis_of
facts_back d rest e =
    let due = headers.written_basis d rest e in
    let items = headers.written_items d rest e in
    λ k. record { grid = (due k).grid; latitude = (due k).latitude; longitude = (due k).longitude; partial = (items k).partial }

headers_say : (d : Description) → in_range d ≡ true → judged (headers_for d) ≡ Ok (facts_for d)
headers_say d e = rw (append-nil (headers_for d)) at (headers.written_good d [] e) ∙ ap Ok (rw (append-nil (headers_for d)) at (facts_back d [] e))

pub written_headed : (year : Year) (d : Description) → in_range d ≡ true → Headed year (frame_for year d) (headers_for d)
written_headed year d e = record { facts = facts_for d; good = headers_say d e; frame = refl }

pub written_made : (year : Year) (d : Description) → in_range d ≡ true → (zs : List ℤ) → length zs ≡ posts_due (facts_for d).grid → Held (frame_for year d).voids zs
    → Made (frame_for year d) (headers_for d) (words_of zs)
written_made year d e zs all held = record {
  range = headed_range (frame_for year d) (headers_for d) (written_headed year d e);
  front = length_headers d;
  all = length-map zs word_of ∙ all;
  allowed = words_allowed_lem (frame_for year d).voids zs held;
}
