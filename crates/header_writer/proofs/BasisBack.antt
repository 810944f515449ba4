-- The basis of written headers is that of their description: the level, the origin and the letter are read back.
use Prim.Native.Nat.{ℕ, ◌+◌, ◌<◌, ◌≤◌}
use native.Mathlib.Omega.{arith}
use mathlib.Core.Path.{◌≡◌, refl, sym, ap, ◌∙◌}
use mathlib.Core.Bool.{Bool, true}
use mathlib.Core.List.{List}
use lib.Dec.{eqb, lit<, lit≤, eqb→eq}
use lib.ListN.{get_or, take, drop}
use borrow.Author.Tests.{eqb-false}
use Rattle.octets.specs.Choice.{pick}
use Rattle.octets.specs.Digits.{digits_of}
use Rattle.octets.specs.Places.{places}
use Rattle.octets.specs.Texts.{ascii, differ, has}
use Rattle.octets.proofs.TestLaws.{below}
use Rattle.layout.specs.Levels.{latitude_interval}
use Rattle.layout.specs.Grid.{grid_of}
use Rattle.angles.specs.Angles.{northward, eastward, degrees_in, letter_in, angle_of, angle_text}
use Rattle.headers.specs.Basis.{origin_at, latitude_in, longitude_in, level_at, security_in, basis_in}
use Rattle.fields.specs.Table.{item_row, place_of}
use Rattle.fields.specs.declared.Item.TheVariants.{Level, Latitude, Longitude, Security}
use Rattle.rules.specs.Rules.{origin_form}
use Rattle.description.specs.Facts.{basis_of}
use Rattle.header_writer.specs.Written.{item_text, headers_for}
use Rattle.description.specs.Items.{in_range}
use Rattle.description.specs.declared.Description.{Description}
use Rattle.angles.specs.declared.Axis.{Axis}
use Rattle.octets.proofs.PartLaws.{byte_part, text_part}
use Rattle.angles.proofs.AngleTexts.{letter_back, degrees_back, degrees_small, angle_back}
use Rattle.header_writer.proofs.WrittenLength.{field_written}
use Rattle.description.proofs.RangedItems.{ranged_items}

-- the level that the four bytes of its field fix
abbrev level_in : List ℕ → ℕ
level_in t = pick (has t 0 (ascii "0300")) 0 (pick (has t 0 (ascii "0030")) 1 2)

level_part : (s : List ℕ) → level_at s ≡ level_in (take 4 (drop (place_of Level) s))
unfolding level_at
level_part s = rw (text_part s (place_of Level) (ascii "0300"), text_part s (place_of Level) (ascii "0030"))

level_test : ℕ → Bool
level_test l = eqb (level_in (digits_of 4 (latitude_interval l))) l

level_read : (l : ℕ) → l < 3 → level_in (digits_of 4 (latitude_interval l)) ≡ l
unfolding level_test latitude_interval differ places
level_read l h = eqb→eq (level_in (digits_of 4 (latitude_interval l))) l (below level_test 3 tt l h)

-- an origin is read back from its text
origin_read : (a : Axis) (s : List ℕ) (at angle : ℕ) → (a.minus ≡ a.plus → ⊥) → a.most ≤ 180 → angle ≤ a.most + a.most
    → take 8 (drop at s) ≡ angle_text origin_form a angle → origin_at a s at ≡ angle
unfolding origin_at
origin_read a s at angle ne m h e =
    let f = origin_form in
    let small = degrees_small a angle h in
    ap (λ (t : List ℕ). angle_of a (degrees_in f t) (letter_in f t)) e
    ∙ rw (degrees_back f a angle (omega arith), letter_back f a angle) (angle_back a angle ne)

module _ (d : Description) where
  pub level_back : d.level < 3 → level_at (headers_for d) ≡ d.level
  unfolding item_text basis_of grid_of
  level_back h = level_part (headers_for d) ∙ ap level_in (field_written d (item_row Level) (lit< tt)) ∙ level_read d.level h

  pub latitude_back : d.latitude < 180 → latitude_in (headers_for d) ≡ d.latitude
  unfolding item_text
  latitude_back h =
      origin_read northward (headers_for d) (place_of Latitude) d.latitude (eqb-false 0x53 0x4E refl) (lit≤ tt) (omega arith) (field_written d (item_row Latitude) (lit< tt))

  pub longitude_back : d.longitude < 360 → longitude_in (headers_for d) ≡ d.longitude
  unfolding item_text
  longitude_back h =
      origin_read eastward (headers_for d) (place_of Longitude) d.longitude (eqb-false 0x57 0x45 refl) (lit≤ tt) (omega arith) (field_written d (item_row Longitude) (lit< tt))

  pub security_back : security_in (headers_for d) ≡ d.security
  unfolding item_text
  security_back = sym (byte_part (headers_for d) (place_of Security) 3 0 (lit< tt)) ∙ ap (λ (t : List ℕ). get_or t 0 0) (field_written d (item_row Security) (lit< tt))

  pub basis_back : in_range d ≡ true → basis_in (headers_for d) ≡ basis_of d
  unfolding basis_in basis_of
  basis_back e =
      let r = ranged_items d e in
      rw (level_back r.level, latitude_back r.latitude, longitude_back r.longitude, security_back)
