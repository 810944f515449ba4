-- `levels::latitude_interval` meets its contract: the table's entry, or past its end.
use Rattle.std.proofs.Common.{◌≡◌, sym, ◌∙◌, ℕ, get_or, Bor, Option, Some, None, nat_lt}
use Rattle.std.specs.Option.{is_some, IfSome, option_copied, unwrap_or}
use Rattle.std.proofs.lemmas.List.{get_or_default, get_or_past}
use borrow.Author.Tests.{ltb-true, ltb-false}
use Rattle.layout.specs.Levels.{intervals, latitude_interval}
use Rattle.layout.proofs.levels.latitude_interval.Goals as goal

entry : (r : Option (Bor ℕ)) (level : ℕ) → is_some r ≡ nat_lt level 3 → IfSome r (λ x. x.now ≡ get_or intervals level x.now)
    → unwrap_or (option_copied r) 0 ≡ get_or intervals level 0
entry (Some x) level there is = is ∙ get_or_default intervals level x.now 0 (ltb-true level 3 (sym there))
entry None level there is = sym (get_or_past intervals level 0 (ltb-false level 3 (sym there)))

pub returns : goal.returns
unfolding latitude_interval
returns c = rw (c.unwrap_or.ensures, c.copied.ensures) (entry c.get.result c.args.level c.get.ensures.lookup.0 c.get.ensures.lookup.1)
