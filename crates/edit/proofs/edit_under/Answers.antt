-- `edit_under`: the post that is reached, then its height, then its column lent and stored in.
use Rattle.column_edit.specs.Stored.{stored}
use Rattle.edit.proofs.SpotReached.{SpotOf, spot_reached, lent, can_store, stored_back}
use Rattle.edit.specs.Edit.{edit_told, judged_edit, edited}
use Rattle.posts.specs.Heights.{height_allowed, word_of}
use borrow.Author.Tests.{not-false}
use Rattle.std.proofs.Common.{◌≡◌, refl, sym, ap, ◌∙◌, arith, rules}
use mir.Facts.{to_z-of_z}
use Rattle.edit.proofs.edit_under.Goals as goal
use Rattle.edit.proofs.edit_under.Goals.{After-is_allowed, In_ok-spot}

-- the post was reached
at : (c : In_ok-spot) → SpotOf c.args.cell.now c.args.column c.args.post c.in_ok-spot.spot
at c = spot_reached _ _ _ _ c.in_ok-spot.spot (sym c.in_ok-spot.ensures)

-- whether the height is allowed is what was found
allowed : (c : After-is_allowed) → height_allowed c.in_ok-spot.spot.voids c.args.height ≡ c.is_allowed.result
allowed c = sym (c.is_allowed.ensures ∙ ap (height_allowed c.in_ok-spot.spot.voids) (to_z-of_z c.ranges.height))

pub column_bytes-requires : goal.column_bytes-requires
column_bytes-requires c = omega (arith, at (goal.at.column_bytes-requires c).In_ok-spot)

pub overflow_add-end : goal.overflow_add-end
overflow_add-end c = omega (arith, at (goal.at.overflow_add-end c).In_ok-spot, c.column_bytes.ensures)

pub slice_bounds-store-end : goal.slice_bounds-store-end
slice_bounds-store-end c = omega (arith, at (goal.at.slice_bounds-store-end c).In_ok-spot, c.column_bytes.ensures)

pub store-requires : goal.store-requires
store-requires c = can_store _ _ _ c.in_ok-spot.spot (at (goal.at.store-requires c).In_ok-spot) _ c.column_bytes.ensures

pub returns : goal.returns
unfolding edit_told judged_edit edited
returns c =
    let a = c.args in
    let k = at (goal.at.returns c).In_ok-spot in
    let word : c.word_of-word.result ≡ word_of a.height = c.word_of-word.ensures ∙ ap word_of (to_z-of_z c.ranges.height) in
    rw (← c.in_ok-spot.ensures, allowed (goal.at.returns c).After-is_allowed ∙ not-false _ (search rules)) (record {
      answer = refl;
      lent = stored_back _ _ _ c.in_ok-spot.spot k _ c.column_bytes.ensures a.height c.store.new.column
          (c.store.ensures ∙ ap (stored (lent a.cell.now a.column a.post c.in_ok-spot.spot k _ c.column_bytes.ensures) c.in_ok-spot.spot.posts a.post) word);
    })
