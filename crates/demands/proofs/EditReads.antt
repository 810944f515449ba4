-- E2 over the calls' own promises, inner and exported: after an accepted edit of a cell a lookup of its post tells what was given, and a lookup of
-- any other post what a lookup told before.
use Rattle.std.specs.Prelude.{Ok}
use Prim.Native.Nat.{ℕ}
use mathlib.Core.Path.{◌≡◌, sym, ap, ◌∙◌}
use mathlib.Core.List.{List}
use lib.IntN.{ℤ}
use contract.Lifetimes as L
use borrow.Fn.Kinds as K
use Rattle.answers.specs.Told.{told, act}
use Rattle.answers.specs.Told as telling
use Rattle.answers.proofs.Injective.{told_injective}
use Rattle.host_answers.specs.Packed.{packed}
use Rattle.host_answers.specs.Apart.{told_in}
use Rattle.octets.specs.Numbers.{Bytes}
use Rattle.years.specs.declared.Year.{Year}
use Rattle.years.specs.Years.{Names}
use Rattle.cells.specs.Cell.{Cell}
use Rattle.lookup.specs.Lookup.{height_said, looked_up}
use Rattle.edit.specs.Edit.{judged_edit, edit_told, edited}
use Rattle.edit.proofs.EditExactly.{accepted_exactly}
use Rattle.edit.proofs.LookupAfter.{edited_post, other_post}
use Rattle.edit.proofs.edit.Reads as edit
use Rattle.edit.proofs.edit.Kinds as edit-kinds
use Rattle.lookup.proofs.look_up.Reads as look_up
use Rattle.lookup.proofs.look_up.Kinds as look-up-kinds
use Rattle.dted.proofs.cell_calls.dted_edit.Reads as host-edit
use Rattle.dted.proofs.cell_calls.dted_edit.Kinds as host-edit-kinds
use Rattle.dted.proofs.cell_calls.dted_post.Reads as host-post
use Rattle.dted.proofs.cell_calls.dted_post.Kinds as host-post-kinds
use Rattle.demands.proofs.NamedYears.{edit_named, post_named, host_edit_named, host_post_named}
use Rattle.demands.proofs.HostAnswers.{was_done}
use Rattle.demands.proofs.HostTold.{post_told_in}

-- after an edit that was judged done, in the bytes m that it left: what is told of its post, and of any other
module _ {year : Year} (l : List ℕ) (cell : Cell year l) (bytes : Bytes l) (c p : ℕ) (z : ℤ) (e : judged_edit year l c p z ≡ Ok tt)
    (m : List ℕ) (left : m ≡ edited year l c p z) (k i : ℕ) where
  own_told : k ≡ c → i ≡ p → looked_up year m k i ≡ height_said z
  own_told same-c same-p =
      let it = (accepted_exactly year l c p z).0 e in
      let on = it.0.on in
      (λ j. looked_up year (left j) (same-c j) (same-p j)) ∙ edited_post l cell bytes c p on.column on.post z it.1

  other_told : (k ≡ c → i ≡ p → ⊥) → looked_up year m k i ≡ looked_up year l k i
  other_told other =
      let it = (accepted_exactly year l c p z).0 e in
      let on = it.0.on in
      (λ j. looked_up year (left j) k i) ∙ other_post l cell bytes c p on.column on.post z it.1 k i other

-- a call of the edit that keeps its promise and was done
module _ (κs : L.Lfts 1) (a : K.Dens κs edit-kinds.ps) (r : _) (s : _) (kept : edit.Post κs a r s) (year : Year) (names : Names a.0 year)
    (was : r ≡ Ok tt) (cell : Cell year a.1.0.now) (bytes : Bytes a.1.0.now) where
  judged_done : judged_edit year a.1.0.now a.1.1.0 a.1.1.1.0 a.1.1.1.1.0 ≡ Ok tt
  unfolding edit_told
  judged_done = sym (told_injective act r _ (edit_named κs a r s kept year names).0) ∙ was

  -- a lookup of its post afterwards
  pub edited_answered : (κs' : L.Lfts 1) (b : K.Dens κs' look-up-kinds.ps) (q : _) (t : _) → look_up.Post κs' b q t → Names b.0 year
      → b.1.0.now ≡ s.1.0.now → b.1.1.0 ≡ a.1.1.0 → b.1.1.1.0 ≡ a.1.1.1.0 → told telling.post q ≡ height_said a.1.1.1.1.0
  edited_answered κs' b q t kept' names' same c p =
      post_named κs' b q t kept' year names'
      ∙ own_told a.1.0.now cell bytes a.1.1.0 a.1.1.1.0 a.1.1.1.1.0 judged_done
      b.1.0.now (same ∙ (edit_named κs a r s kept year names).1) b.1.1.0 b.1.1.1.0 c p

  -- lookups of another post, before and afterwards
  pub others_answered : (κs' κs'' : L.Lfts 1) (b : K.Dens κs' look-up-kinds.ps) (b' : K.Dens κs'' look-up-kinds.ps) (q q' : _) (t t' : _)
      → look_up.Post κs' b q t → look_up.Post κs'' b' q' t' → Names b.0 year → Names b'.0 year → b.1.0.now ≡ a.1.0.now → b'.1.0.now ≡ s.1.0.now
      → b'.1.1.0 ≡ b.1.1.0 → b'.1.1.1.0 ≡ b.1.1.1.0 → (b.1.1.0 ≡ a.1.1.0 → b.1.1.1.0 ≡ a.1.1.1.0 → ⊥) → q' ≡ q
  others_answered κs' κs'' b b' q q' t t' before after names' names'' at_first at_last c p other =
      told_injective telling.post q' q
      (post_named κs'' b' q' t' after year names'' ∙ (λ k. looked_up year b'.1.0.now (c k) (p k))
      ∙ other_told a.1.0.now cell bytes a.1.1.0 a.1.1.1.0 a.1.1.1.1.0 judged_done
      b'.1.0.now (at_last ∙ (edit_named κs a r s kept year names).1) b.1.1.0 b.1.1.1.0 other
      ∙ sym (post_named κs' b q t before year names' ∙ ap (λ (m : List ℕ). looked_up year m b.1.1.0 b.1.1.1.0) at_first))

-- the same for a C host: the edit answered 0
module _ (κs : L.Lfts 1) (a : K.Dens κs host-edit-kinds.ps) (r : _) (s : _) (kept : host-edit.Post κs a r s) (year : Year) (names : Names a.0 year)
    (was : r ≡ 0) (cell : Cell year a.1.0.now) (bytes : Bytes a.1.0.now) where
  host_judged_done : judged_edit year a.1.0.now a.1.1.0 a.1.1.1.0 a.1.1.1.1.0 ≡ Ok tt
  unfolding edit_told
  host_judged_done = was_done (judged_edit year a.1.0.now a.1.1.0 a.1.1.1.0 a.1.1.1.1.0) (sym (host_edit_named κs a r s kept year names).0 ∙ was)

  pub host_edited_answered : (κs' : L.Lfts 1) (b : K.Dens κs' host-post-kinds.ps) (q : _) (t : _) → host-post.Post κs' b q t → Names b.0 year
      → b.1.0.now ≡ s.1.0.now → b.1.1.0 ≡ a.1.1.0 → b.1.1.1.0 ≡ a.1.1.1.0 → told_in q ≡ height_said a.1.1.1.1.0
  host_edited_answered κs' b q t kept' names' same c p =
      post_told_in κs' b q t kept' year names'
      ∙ own_told a.1.0.now cell bytes a.1.1.0 a.1.1.1.0 a.1.1.1.1.0 host_judged_done
      b.1.0.now (same ∙ (host_edit_named κs a r s kept year names).1) b.1.1.0 b.1.1.1.0 c p

  pub host_others_answered : (κs' κs'' : L.Lfts 1) (b : K.Dens κs' host-post-kinds.ps) (b' : K.Dens κs'' host-post-kinds.ps) (q q' : _) (t t' : _)
      → host-post.Post κs' b q t → host-post.Post κs'' b' q' t' → Names b.0 year → Names b'.0 year → b.1.0.now ≡ a.1.0.now → b'.1.0.now ≡ s.1.0.now
      → b'.1.1.0 ≡ b.1.1.0 → b'.1.1.1.0 ≡ b.1.1.1.0 → (b.1.1.0 ≡ a.1.1.0 → b.1.1.1.0 ≡ a.1.1.1.0 → ⊥) → q' ≡ q
  host_others_answered κs' κs'' b b' q q' t t' before after names' names'' at_first at_last c p other =
      let same =
      other_told a.1.0.now cell bytes a.1.1.0 a.1.1.1.0 a.1.1.1.1.0 host_judged_done
      b'.1.0.now (at_last ∙ (host_edit_named κs a r s kept year names).1) b.1.1.0 b.1.1.1.0 other
      in
      host_post_named κs'' b' q' t' after year names'' ∙ (λ k. packed (looked_up year b'.1.0.now (c k) (p k))) ∙ ap packed same
      ∙ sym (host_post_named κs' b q t before year names' ∙ ap (λ (m : List ℕ). packed (looked_up year m b.1.1.0 b.1.1.1.0)) at_first)
