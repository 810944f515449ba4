-- The description reader as a C host has it (rules R1 and N15): thirteen numbers, filled where the headers are good.
use Rattle.std.specs.Prelude.{List, ℤ, Result, Ok, Err}
use Rattle.answers.specs.declared.Refusal.{Refusal}
use Rattle.description.specs.declared.Description.{Description}
use Rattle.answers.specs.Told.{Told, done, numbered}
use Rattle.host_items.specs.Items.{numbers_of}

abbrev pub said_of_described : Result Description Refusal → Told
said_of_described (Ok d) = done
said_of_described (Err r) = numbered r

abbrev pub items_after : Result Description Refusal → List ℤ → List ℤ
items_after (Ok d) items = numbers_of d
items_after (Err r) items = items
