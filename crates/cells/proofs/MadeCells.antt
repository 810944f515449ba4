-- Headers that give a frame, and words that it allows, are the same thing as an accepted cell.
use Rattle.std.specs.Prelude.{Ok}
use Prim.Native.Nat.{ℕ, ◌<◌, ◌≤◌}
use native.Mathlib.Omega.{arith}
use mathlib.Core.Path.{◌≡◌, sym, ap, ◌∙◌}
use mathlib.Core.List.{List, ◌++◌}
use lib.ListN.{length, take, length-append}
use lib.Seq.{take_at, take-take, take_all, length-take-le}
use Rattle.octets.specs.Numbers.{Bytes}
use Rattle.octets.specs.Parts.{part, joined}
use Rattle.octets.specs.Pastes.{pasted}
use Rattle.years.specs.declared.Year.{Year}
use Rattle.layout.specs.Grid.{header_bytes}
use Rattle.layout.specs.declared.Frame.{Frame}
use Rattle.layout.specs.Ranges.{Ranged}
use Rattle.headers.specs.Judged.{judged, facts_in, frame_of, frame_in, Follows}
use Rattle.headers.specs.declared.Facts.{Facts}
use Rattle.headers.proofs.Exactly.{good_follows, follows_good}
use Rattle.headers.proofs.FirstFour.{GoodFacts, good_facts}
use Rattle.headers.proofs.SameHeaders.{same_headers}
use Rattle.columns.specs.Column.{column_of_words, GoodColumn}
use Rattle.cells.specs.Cell.{start_of, Cell}
use Rattle.cells.specs.Words.{cell_of_words, words_under, words_of_cell}
use Rattle.cells.proofs.FramedWords.{Made, made_framed, words_there, framed_made, framed_is, put_made, put_is}

-- good headers, whose frame this is under a year
pub record Headed (year : Year) (f : Frame) (h : List ℕ) : Type 0 where
  pub facts : Facts
  pub good : judged h ≡ Ok facts
  pub frame : frame_of year facts ≡ f

pub headed_range : {year : Year} (f : Frame) (h : List ℕ) → Headed year f h → Ranged f.grid
headed_range f h headed = rw (← headed.frame) (good_facts h headed.facts headed.good).grid

module _ {year : Year} (f : Frame) (h ws : List ℕ) (headed : Headed year f h) (made : Made f h ws) where
  -- headers say what they say, whatever follows them
  follows : Follows (cell_of_words h f.grid ws) × (headed.facts ≡ facts_in (cell_of_words h f.grid ws))
  follows =
      let rest = joined (λ (k : ℕ). column_of_words k (part f.grid.posts ws k)) f.grid.columns in
      let long = made.front in
      let alike : take header_bytes (h ++ rest) ≡ take header_bytes h = take_at h rest header_bytes long ∙ sym (take_all header_bytes h (omega arith)) in
      good_follows (h ++ rest) headed.facts (same_headers (h ++ rest) h (rw length-append (omega arith)) (omega arith) alike ∙ headed.good)

  pub made_frame : frame_in year (cell_of_words h f.grid ws) ≡ f
  made_frame = ap (frame_of year) (sym follows.1) ∙ headed.frame

  pub made_cell : Cell year (cell_of_words h f.grid ws)
  made_cell = record { headers = follows.0; framed = rw made_frame (made_framed f h ws made) }

  pub made_words : words_of_cell (cell_of_words h f.grid ws) ≡ ws
  made_words = ap (λ (x : Frame). words_under x.grid (cell_of_words h f.grid ws)) made_frame ∙ words_there f h ws made

module _ {year : Year} (s : List ℕ) (cell : Cell year s) where
  -- what the headers of a cell say is within its ranges
  pub cell_facts : GoodFacts s (facts_in s)
  cell_facts = good_facts s (facts_in s) (follows_good s cell.headers)

  -- an accepted cell is made of its headers and its words
  pub cell_headed : Headed year (frame_in year s) (take header_bytes s)
  cell_headed =
      let enough : header_bytes ≤ length s = cell.headers.0 in
      let long : length (take header_bytes s) ≡ header_bytes = length-take-le header_bytes s enough in
      record {
        facts = facts_in s;
        good = same_headers (take header_bytes s) s (omega arith) enough (take-take header_bytes header_bytes s (omega arith)) ∙ follows_good s cell.headers;
        frame = λ i. frame_in year s;
      }

  pub cell_made : Made (frame_in year s) (take header_bytes s) (words_of_cell s)
  cell_made = framed_made (frame_in year s) cell_facts.grid s cell.framed

  pub cell_remade : Bytes s → cell_of_words (take header_bytes s) (facts_in s).grid (words_of_cell s) ≡ s
  cell_remade = framed_is (frame_in year s) cell_facts.grid s cell.framed

  -- one good column replaced by another of its number leaves a cell a cell
  pub put_cell : Bytes s → (c : ℕ) → c < (facts_in s).grid.columns → (column : List ℕ) → Bytes column
      → GoodColumn column c (facts_in s).grid.posts (frame_in year s).voids → Cell year (pasted s (start_of (facts_in s).grid c) column)
  put_cell bytes c u column column_bytes_lem good =
      let range = cell_facts.grid in
      rw (put_is (frame_in year s) range s cell.framed c u column good bytes column_bytes_lem)
      (made_cell (frame_in year s) (take header_bytes s) _ cell_headed (put_made (frame_in year s) range s cell.framed c u column good))
