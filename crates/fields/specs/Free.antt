-- The free bytes that are written other than as blanks (rule W3): areas of zeros, and the date of the specification.
use Rattle.std.specs.Prelude.{ℕ, ◌+◌, ◌-◌, List, [], ◌∷◌}
use Rattle.fields.specs.Table.{dsi_at}
use Rattle.fields.specs.declared.free.Area.{Area}

-- an area of zeros, by its first and last position in the DSI
abbrev pub zeros : ℕ → ℕ → Area
zeros first last = record { 0 = dsi_at first; 1 = last + 1 - first }

abbrev pub areas : List Area
areas = zeros 65 79 ∷ zeros 91 102 ∷ zeros 136 137 ∷ zeros 160 163 ∷ []

-- where the date of the specification stands
abbrev pub date_at : ℕ
date_at = dsi_at 138
