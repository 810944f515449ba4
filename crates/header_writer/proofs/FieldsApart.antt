-- No field's text touches another field: what stands in each field, once all are put, is that field's text.
use Prim.Native.Nat.{ℕ, zero, suc, ◌+◌, ◌<◌, ◌≤◌}
use native.Mathlib.Omega.{arith}
use mathlib.Core.Path.{◌≡◌, refl, sym, ◌∙◌}
use mathlib.Core.Bool.{Bool, true}
use mathlib.Core.List.{List, [], ◌∷◌, map}
use lib.Dec.{eqb, leb}
use lib.ListN.{length, get_or}
use borrow.Author.Tests.{leb-true, eqb-true}
use Rattle.octets.specs.Choice.{both, either}
use Rattle.octets.specs.Tests.{every, all_below}
use Rattle.octets.specs.Pastes.{pasted}
use Rattle.octets.proofs.ChoiceLaws.{both_true, either_case}
use Rattle.octets.proofs.TestLaws.{below, passes}
use Rattle.octets.proofs.PasteLaws.{length_paste}
use Rattle.fields.specs.Table.{uhl, fields, bytes_in, field_at}
use Rattle.header_writer.specs.Written.{text_for, with_fields}
use Rattle.description.specs.declared.Description.{Description}
use Rattle.fields.specs.declared.Field.{Field}
use Rattle.fields.specs.declared.Kind.TheVariants.{Item}
use Rattle.fields.specs.declared.Item.TheVariants.{Partial}
use Rattle.octets.proofs.PartLaws.{paste_shown, paste_before, paste_behind}
use Rattle.header_writer.proofs.TextWidths.{length_text}
use Rattle.headers.proofs.TableRows.{Row, row}

-- one field ends before the other begins
abbrev apart : Field → Field → Bool
apart f g = either (leb (f.0 + f.1) g.0) (leb (g.0 + g.1) f.0)

-- every field of a list lies apart from those after it
abbrev all_apart : List Field → Bool
all_apart [] = true
all_apart (f ∷ fs) = both (every (map (apart f) fs)) (all_apart fs)

all_apart_lem : all_apart fields ≡ true
all_apart_lem = refl

-- the rows of a list of fields, read as `field_at` reads the table's
abbrev Rows : List Field → Type 0
Rows fs = (i : ℕ) → i < length fs → Row (get_or fs i (uhl 1 1 (Item Partial)))

rows_after : (f : Field) (fs : List Field) → Rows (f ∷ fs) → Rows fs
rows_after f fs rows i h = rows (suc i) (omega arith)

-- bytes put over a whole field leave those that lie apart as they were
pub text_apart : (s : List ℕ) (f g : Field) (v : List ℕ) → length v ≡ g.1 → g.0 + g.1 ≤ length s → apart f g ≡ true
    → bytes_in (pasted s g.0 v) f ≡ bytes_in s f
text_apart s f g v w h e =
    either_case (leb (f.0 + f.1) g.0) (leb (g.0 + g.1) f.0) e
    (λ o. paste_before s g.0 v f.0 f.1 (omega arith) (leb-true (f.0 + f.1) g.0 o))
    (λ o. paste_behind s g.0 v f.0 f.1 (omega arith) (omega (arith, leb-true (g.0 + g.1) f.0 o)))

-- any two rows lie apart
apart_test : ℕ → ℕ → Bool
apart_test i j = either (eqb i j) (apart (field_at i) (field_at j))

pub rows_apart : (i j : ℕ) → i < 40 → j < 40 → (i ≡ j → ⊥) → apart (field_at i) (field_at j) ≡ true
unfolding apart_test
rows_apart i j h k ne =
    either_case (eqb i j) (apart (field_at i) (field_at j))
    (passes (apart_test i j) (below (apart_test i) 40 (below (λ (n : ℕ). all_below (apart_test n) 40) 40 tt i h) j k))
    (λ e. absurd (ne (eqb-true i j e)))
    (λ e. e)

module _ (d : Description) where
  -- one text put over what stands there
  abbrev put : List ℕ → Field → List ℕ
  put s f = pasted s f.0 (text_for f.2 d)

  as_wide : (f : Field) → Row f → length (text_for f.2 d) ≡ f.1
  as_wide f r = length_text f.2 d ∙ sym r.wide

  length_put : (s : List ℕ) (f : Field) → Row f → 785 ≤ length s → length (put s f) ≡ length s
  length_put s f r h = length_paste s f.0 (text_for f.2 d) (omega (arith, as_wide f r, r.within))

  put_shown : (s : List ℕ) (f : Field) → Row f → 785 ≤ length s → bytes_in (put s f) f ≡ text_for f.2 d
  put_shown s f r h = rw (← (as_wide f r)) (paste_shown s f.0 (text_for f.2 d) (omega (arith, r.within)))

  -- a field that lies apart is left as it was
  put_apart : (s : List ℕ) (f g : Field) → Row g → 785 ≤ length s → apart f g ≡ true → bytes_in (put s g) f ≡ bytes_in s f
  put_apart s f g r h e = text_apart s f g (text_for g.2 d) (as_wide g r) (omega (arith, r.within)) e

  all_put_apart : (s : List ℕ) (f : Field) (fs : List Field) → 785 ≤ length s → Rows fs → every (map (apart f) fs) ≡ true
      → bytes_in (with_fields s d fs) f ≡ bytes_in s f
  unfolding with_fields
  all_put_apart s f [] h rows e = refl
  all_put_apart s f (g ∷ gs) h rows e =
      let r = rows 0 (omega arith) in
      let l = length_put s g r h in
      let p = both_true (apart f g) (every (map (apart f) gs)) e in
      all_put_apart (put s g) f gs (omega arith) (rows_after g gs rows) p.1 ∙ put_apart s f g r h p.0

  all_put_shown : (s : List ℕ) (fs : List Field) (i : ℕ) → 785 ≤ length s → Rows fs → all_apart fs ≡ true → i < length fs
      → bytes_in (with_fields s d fs) (get_or fs i (uhl 1 1 (Item Partial))) ≡ text_for (get_or fs i (uhl 1 1 (Item Partial))).2 d
  unfolding with_fields
  all_put_shown s [] i h rows e k = absurd (omega arith)
  all_put_shown s (f ∷ fs) zero h rows e k =
      let r = rows 0 (omega arith) in
      let l = length_put s f r h in
      let p = both_true (every (map (apart f) fs)) (all_apart fs) e in
      all_put_apart (put s f) f fs (omega arith) (rows_after f fs rows) p.0 ∙ put_shown s f r h
  all_put_shown s (f ∷ fs) (suc i) h rows e k =
      let l = length_put s f (rows 0 (omega arith)) h in
      let p = both_true (every (map (apart f) fs)) (all_apart fs) e in
      all_put_shown (put s f) fs i (omega arith) (rows_after f fs rows) p.1 (omega arith)

  length_all_put : (s : List ℕ) (fs : List Field) → 785 ≤ length s → Rows fs → length (with_fields s d fs) ≡ length s
  unfolding with_fields
  length_all_put s [] h rows = refl
  length_all_put s (f ∷ fs) h rows =
      let l = length_put s f (rows 0 (omega arith)) h in
      length_all_put (put s f) fs (omega arith) (rows_after f fs rows) ∙ l

  -- over at least 785 bytes: as many are left, and each field holds its text
  pub length_fields : (s : List ℕ) → 785 ≤ length s → length (with_fields s d fields) ≡ length s
  length_fields s h = length_all_put s fields h row

  pub field_shown : (s : List ℕ) → 785 ≤ length s → (i : ℕ) → i < 40 → bytes_in (with_fields s d fields) (field_at i) ≡ text_for (field_at i).2 d
  field_shown s h i k = all_put_shown s fields i h row all_apart_lem k
