-- D3 for a C host: calls of the edit, each of which keeps its promise, in any sequence under one year leave the old bytes with the edited words and their checksums replaced.
use Prim.Native.Nat.{ℕ}
use mathlib.Core.Path.{◌≡◌, subst}
use mathlib.Core.Bool.{Bool, true, false}
use mathlib.Core.List.{List, [], ◌∷◌}
use lib.Dec.{eqb}
use contract.Lifetimes as L
use borrow.Fn.Kinds as K
use Rattle.octets.specs.Numbers.{Bytes}
use Rattle.years.specs.declared.Year.{Year}
use Rattle.years.specs.Years.{Names}
use Rattle.headers.specs.Judged.{frame_in, facts_in}
use Rattle.cells.specs.Cell.{Cell}
use Rattle.edit.specs.Edit.{judged_edit, edit_told}
use Rattle.edit.specs.Sequence.{Call, takes}
use Rattle.edit.specs.Replaced.{with_replaced}
use Rattle.edit.proofs.EditWords.{edit_answered}
use Rattle.dted.proofs.cell_calls.dted_edit.Reads as edit
use Rattle.dted.proofs.cell_calls.dted_edit.Kinds as edit-kinds
use Rattle.demands.proofs.NamedYears.{host_edit_named}
use Rattle.demands.proofs.EditChain.{Chain, empty, call, Left, one_done, chain_left}
use Rattle.demands.proofs.HostAnswers.{answer_is}

-- 0 tells done
abbrev pub is_done : ℕ → Bool
is_done r = eqb r 0

-- what a call was given
abbrev pub call_of : (κs : L.Lfts 1) → K.Dens κs edit-kinds.ps → Call
call_of κs a = record { column = a.1.1.0; post = a.1.1.1.0; height = a.1.1.1.1.0 }

-- calls of the exported edit, each of which keeps its promise and names the one year, take bytes to bytes with these answers
pub data Edits (year : Year) : List ℕ → List Call → List ℕ → List ℕ → Type 1 where
  none : {l : List ℕ} → Edits year l [] [] l
  more : {es : List Call} {rs : List ℕ} {l : List ℕ} (κs : L.Lfts 1) (a : K.Dens κs edit-kinds.ps) (r : ℕ) (s : _)
      → edit.Post κs a r s → Names a.0 year → Edits year s.1.0.now es rs l → Edits year a.1.0.now (call_of κs a ∷ es) (r ∷ rs) l

-- one call answers what is judged
call_answered : {year : Year} (κs : L.Lfts 1) (a : K.Dens κs edit-kinds.ps) (r : ℕ) (s : _) → edit.Post κs a r s → Names a.0 year → Cell year a.1.0.now
    → is_done r ≡ takes (frame_in year a.1.0.now) (call_of κs a)
unfolding edit_told
call_answered {year} κs a r s promise names cell =
    let e = call_of κs a in
    let x = judged_edit year a.1.0.now e.column e.post e.height in
    rw (host_edit_named κs a r s promise year names).0 (answer_is x (takes (frame_in year a.1.0.now) e) (edit_answered a.1.0.now cell e))

chained : {year : Year} {l l' : List ℕ} {es : List Call} {rs : List ℕ} → Edits year l es rs l' → Chain is_done year l es rs l'
chained none = empty
chained {year} (more κs a r s promise names rest) =
    call a.1.0.now s.1.0.now (call_of κs a) r (host_edit_named κs a r s promise year names).1 (call_answered κs a r s promise names) (chained rest)

pub edited_cells : {year : Year} (l l' : List ℕ) (es : List Call) (rs : List ℕ) → Edits year l es rs l' → Cell year l → Bytes l → Left is_done year l es rs l'
edited_cells l l' es rs calls = chain_left l l' es rs (chained calls)

-- so a refused call and then, on what it left, one that was done
pub refused_then_done : (year : Year) (κs κs' : L.Lfts 1) (a : K.Dens κs edit-kinds.ps) (b : K.Dens κs' edit-kinds.ps) (r q : ℕ) (s t : _)
    → edit.Post κs a r s → edit.Post κs' b q t → Names a.0 year → Names b.0 year → b.1.0.now ≡ s.1.0.now → Cell year a.1.0.now → Bytes a.1.0.now
    → is_done r ≡ false → is_done q ≡ true
    → t.1.0.now ≡ with_replaced (facts_in a.1.0.now).grid a.1.0.now (call_of κs' b ∷ [])
refused_then_done year κs κs' a b r q s t kept kept' names names' same cell bytes refused done =
    let second : Edits year s.1.0.now (call_of κs' b ∷ []) (q ∷ []) t.1.0.now =
    subst (λ (l : List ℕ). Edits year l (call_of κs' b ∷ []) (q ∷ []) t.1.0.now) same (more κs' b q t kept' names' none)
    in
    one_done a.1.0.now t.1.0.now (call_of κs a) (call_of κs' b) r q (edited_cells _ _ _ _ (more κs a r s kept names second) cell bytes) refused done
