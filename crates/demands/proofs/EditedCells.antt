-- Demand 3 over the edit's own promise (rule D3): calls that keep it, in any sequence under one year, leave the old bytes with the edited words and their checksums replaced.
use Rattle.std.specs.Prelude.{Result, Ok, Err, ⊤}
use Rattle.answers.specs.declared.Refusal.{Refusal}
use Prim.Native.Nat.{ℕ}
use mathlib.Core.Path.{◌≡◌, refl, sym, ap, subst}
use mathlib.Core.Bool.{Bool, true, false}
use mathlib.Core.List.{List, [], ◌∷◌}
use contract.Lifetimes as L
use borrow.Fn.Kinds as K
use Rattle.answers.specs.Told.{act}
use Rattle.answers.proofs.Injective.{told_injective}
use Rattle.octets.specs.Numbers.{Bytes}
use Rattle.years.specs.declared.Year.{Year}
use Rattle.years.specs.Years.{Names}
use Rattle.headers.specs.Judged.{frame_in, facts_in}
use Rattle.cells.specs.Cell.{Cell}
use Rattle.edit.specs.Edit.{judged_edit, edit_told}
use Rattle.edit.specs.Sequence.{Call, takes}
use Rattle.edit.specs.Replaced.{with_replaced}
use Rattle.edit.proofs.EditWords.{edit_answered}
use Rattle.edit.proofs.edit.Reads as edit
use Rattle.edit.proofs.edit.Kinds as kinds
use Rattle.demands.proofs.NamedYears.{edit_named}
use Rattle.demands.proofs.EditChain.{Chain, empty, call, Left, one_done, chain_left}

-- an answer tells done
abbrev pub is_done : Result ⊤ Refusal → Bool
is_done (Ok tt) = true
is_done (Err r) = false

done_exactly : (t : Bool) (r : Result ⊤ Refusal) → (r ≡ Ok tt → t ≡ true) × (t ≡ true → r ≡ Ok tt) → is_done r ≡ t
done_exactly t (Ok tt) e = sym (e.0 refl)
done_exactly true (Err r) e = ap is_done (e.1 refl)
done_exactly false (Err r) e = refl

-- what a call was given
abbrev pub call_of : (κs : L.Lfts 1) → K.Dens κs kinds.ps → Call
call_of κs a = record { column = a.1.1.0; post = a.1.1.1.0; height = a.1.1.1.1.0 }

-- calls of `edit`, each of which keeps its promise and names the one year, take bytes to bytes with these answers
pub data Edits (year : Year) : List ℕ → List Call → List (Result ⊤ Refusal) → List ℕ → Type 1 where
  none : {l : List ℕ} → Edits year l [] [] l
  more : {es : List Call} {rs : List (Result ⊤ Refusal)} {l : List ℕ} (κs : L.Lfts 1) (a : K.Dens κs kinds.ps) (r : Result ⊤ Refusal) (s : _)
      → edit.Post κs a r s → Names a.0 year → Edits year s.1.0.now es rs l → Edits year a.1.0.now (call_of κs a ∷ es) (r ∷ rs) l

-- one call answers what is judged
call_answered : {year : Year} (κs : L.Lfts 1) (a : K.Dens κs kinds.ps) (r : Result ⊤ Refusal) (s : _) → edit.Post κs a r s → Names a.0 year → Cell year a.1.0.now
    → is_done r ≡ takes (frame_in year a.1.0.now) (call_of κs a)
unfolding edit_told
call_answered {year} κs a r s promise names cell =
    let e = call_of κs a in
    let same = told_injective act r (judged_edit year a.1.0.now e.column e.post e.height) (edit_named κs a r s promise year names).0 in
    done_exactly (takes (frame_in year a.1.0.now) e) r (rw same (edit_answered a.1.0.now cell e))

chained : {year : Year} {l l' : List ℕ} {es : List Call} {rs : List (Result ⊤ Refusal)} → Edits year l es rs l' → Chain is_done year l es rs l'
chained none = empty
chained {year} (more κs a r s promise names rest) =
    call a.1.0.now s.1.0.now (call_of κs a) r (edit_named κs a r s promise year names).1 (call_answered κs a r s promise names) (chained rest)

pub edited_cells : {year : Year} (l l' : List ℕ) (es : List Call) (rs : List (Result ⊤ Refusal)) → Edits year l es rs l' → Cell year l → Bytes l → Left is_done year l es rs l'
edited_cells l l' es rs calls = chain_left l l' es rs (chained calls)

-- so a refused call and then, on what it left, one that was done
pub refused_then_done : (year : Year) (κs κs' : L.Lfts 1) (a : K.Dens κs kinds.ps) (b : K.Dens κs' kinds.ps) (r q : Result ⊤ Refusal) (s t : _)
    → edit.Post κs a r s → edit.Post κs' b q t → Names a.0 year → Names b.0 year → b.1.0.now ≡ s.1.0.now → Cell year a.1.0.now → Bytes a.1.0.now
    → is_done r ≡ false → is_done q ≡ true
    → t.1.0.now ≡ with_replaced (facts_in a.1.0.now).grid a.1.0.now (call_of κs' b ∷ [])
refused_then_done year κs κs' a b r q s t kept kept' names names' same cell bytes refused done =
    let second : Edits year s.1.0.now (call_of κs' b ∷ []) (q ∷ []) t.1.0.now =
    subst (λ (l : List ℕ). Edits year l (call_of κs' b ∷ []) (q ∷ []) t.1.0.now) same (more κs' b q t kept' names' none)
    in
    one_done a.1.0.now t.1.0.now (call_of κs a) (call_of κs' b) r q (edited_cells _ _ _ _ (more κs a r s kept names second) cell bytes) refused done
