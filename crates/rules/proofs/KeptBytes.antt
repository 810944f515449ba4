-- A field that keeps the rule of what is due holds bytes.
use Prim.Native.Nat.{ℕ, suc, ◌-◌, ◌<◌}
use native.Mathlib.Omega.{arith}
use mathlib.Core.Path.{◌≡◌, refl, sym, ap, subst, ◌∙◌}
use mathlib.Core.Bool.{true}
use mathlib.Core.List.{List}
use lib.Dec.{eqb, lit<}
use lib.ListN.{length, get_or, get_or-eq_default}
use lib.Seq.{get_or-take}
use borrow.Author.Tests.{eqb-true}
use Rattle.octets.specs.Choice.{both}
use Rattle.octets.specs.Numbers.{Bytes}
use Rattle.octets.specs.Texts.{differ}
use Rattle.octets.proofs.ChoiceLaws.{both_true, either_case, by_order, by_equal, clash}
use Rattle.octets.proofs.TextLaws.{text_whole, differ_front}
use Rattle.angles.specs.Angles.{degrees_of, either_letter, is_side}
use Rattle.angles.specs.declared.Axis.{Axis}
use Rattle.fields.specs.declared.Angle.{Angle}
use Rattle.fields.specs.declared.Angle.TheVariants as angle
use Rattle.fields.specs.declared.Due.{Due}
use Rattle.fields.specs.declared.Due.TheVariants as due
use Rattle.due.specs.Due.{due_angle, due_text, due_width, may_end}
use Rattle.due.specs.declared.Basis.{Basis}
use Rattle.due.proofs.DueBytes.{due_bytes}
use Rattle.due.proofs.DueWidths.{as_long}
use Rattle.rules.specs.Asked.{BasisInRange}
use Rattle.rules.specs.Rules.{due_holds}
use Rattle.rules.proofs.DueHolds.{due_holds_lem}

-- the letters of an axis are bytes, and so is whatever may end a field
side_byte : (a : Axis) (letter : ℕ) → a.plus < 256 → a.minus < 256 → is_side a letter ≡ true → letter < 256
side_byte a letter p m e =
    either_case (eqb letter a.plus) (eqb letter a.minus) e
    (λ q. omega (arith, eqb-true letter a.plus q))
    (λ q. omega (arith, eqb-true letter a.minus q))

axis_bytes : (a : Angle) (b : Basis) → ((due_angle a b).axis.plus < 256) × ((due_angle a b).axis.minus < 256)
axis_bytes angle.OriginLatitude b = (lit< tt, lit< tt)
axis_bytes angle.OriginLongitude b = (lit< tt, lit< tt)
axis_bytes angle.South b = (lit< tt, lit< tt)
axis_bytes angle.North b = (lit< tt, lit< tt)
axis_bytes angle.West b = (lit< tt, lit< tt)
axis_bytes angle.East b = (lit< tt, lit< tt)

end_byte : (k : Due) (b : Basis) (last : ℕ) → may_end k b last ≡ true → last < 256
end_byte (due.Text x) b last e = clash e refl
end_byte (due.Number n) b last e = clash e refl
end_byte (due.Angle a) b last e =
    let found = due_angle a b in
    let free = either_letter found.axis (degrees_of found.axis found.angle) in
    let letters = axis_bytes a b in
    side_byte found.axis last letters.0 letters.1 (both_true free (is_side found.axis last) (both_true found.corner (both free (is_side found.axis last)) e).1).1
end_byte due.Letter b last e = clash e refl
end_byte due.Series b last e = clash e refl

module _ (k : Due) (b : Basis) (r : BasisInRange b) (letter : b.letter < 256) (t : List ℕ) (wide : length t ≡ due_width k) where
  abbrev want : List ℕ
  want = due_text k b

  -- all that is due stands
  whole : differ t 0 want ≡ length t → Bytes t
  whole e = subst Bytes (sym (text_whole t want (as_long k b t wide) e)) (due_bytes k b letter)

  -- or all but the last byte
  but_last : suc (differ t 0 want) ≡ length t → may_end k b (get_or t (length t - 1) 0) ≡ true → Bytes t
  but_last e last i =
      let long = as_long k b t wide in
      let n = differ t 0 want in
      by_order n i
      (λ h.
      by_equal i n
      (λ q. let at : length t - 1 ≡ i = omega arith in rw (← at) (end_byte k b (get_or t (length t - 1) 0) last))
      (λ ne. rw (get_or-eq_default t 0 {n = i} (omega arith)) (lit< tt)))
      (λ h.
      let same : get_or t i 0 ≡ get_or want i 0 =
      sym (get_or-take n t i 0 h) ∙ ap (λ (l : List ℕ). get_or l i 0) (differ_front t 0 want (omega arith)) ∙ get_or-take n want i 0 h
      in
      rw same (due_bytes k b letter i))

  pub kept_bytes : due_holds k b t ≡ true → Bytes t
  kept_bytes e =
      let n = differ t 0 want in
      let ends = both (eqb (suc n) (length t)) (may_end k b (get_or t (length t - 1) 0)) in
      either_case (eqb n (length t)) ends (sym (due_holds_lem b r t k wide) ∙ e)
      (λ q. whole (eqb-true n (length t) q))
      (λ q.
      let p = both_true (eqb (suc n) (length t)) (may_end k b (get_or t (length t - 1) 0)) q in
      but_last (eqb-true (suc n) (length t) p.0) p.1)
