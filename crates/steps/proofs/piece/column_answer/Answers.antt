-- `column_answer`: by whether a column is due, whether the piece is long enough, and how it is judged.
use Rattle.std.specs.Prelude.{Ok, Err}
use Rattle.std.proofs.Common.{rules}
use Rattle.steps.proofs.Pieces.{piece_past, piece_short, piece_judged}
use mathlib.Core.Path.{◌≡◌, sym, ◌∙◌}
use Rattle.steps.proofs.piece.column_answer.Goals as goal

pub returns-then-grid-next : goal.returns-then-grid-next
returns-then-grid-next c =
    let a = c.args in
    c.end.ensures ∙ sym (piece_past a.frame a.next a.piece.now c.if-grid-next.true)

pub returns-then-piece-size : goal.returns-then-piece-size
returns-then-piece-size c =
    let a = c.args in
    sym (piece_short a.frame a.next a.piece.now c.if-grid-next.false c.if-piece-size.true)

pub returns : goal.returns
returns c =
    let a = c.args in
    sym (piece_judged a.frame a.next a.piece.now c.if-grid-next.false c.if-piece-size.false (Ok tt) (sym c.in_ok-judge.ensures))

pub returns-in_err-judge : goal.returns-in_err-judge
returns-in_err-judge c =
    let a = c.args in
    let x = c.in_err-judge in
    let left : c.from_residual.result ≡ Err x.field-0.0 = search rules in
    rw left (sym (piece_judged a.frame a.next a.piece.now c.if-grid-next.false c.if-piece-size.false (Err x.field-0.0) (sym x.ensures)))
