-- What the program prints of what it found (rule S7), where the bytes that a writer holds are known.
use Rattle.std.specs.Prelude.{ℕ, List, Option, ◌⊎◌, Result, Ok, Err}
use Rattle.answers.specs.declared.Refusal.{Refusal}
use Rattle.answers.specs.declared.Verdict.{Verdict}
use Rattle.std.specs.declared.io.Error.{Error}
use Rattle.std.specs.Io.KnownBytes.{Appends, Keeps}
use Rattle.octets.specs.Texts.{ascii}
use Rattle.answers.specs.Told.{told, intake}
use Rattle.printing.specs.Line.{line_of}
use Rattle.printing.specs.Written.{AppendsFront}

abbrev pub input_unread : List ℕ
input_unread = ascii "intake: standard input cannot be read\n"

abbrev pub output_unwritten : List ℕ
output_unwritten = ascii "intake: standard output cannot be written\n"

-- S7: the line of an answer, and no message; or the front of the line, and that it cannot be written. Of an unread input no line, and why.
-- A message that broke off is not told of again
abbrev pub Printed : Result (Result Verdict Refusal) Error → Option (List ℕ) → Option (List ℕ) → Option (List ℕ) → Option (List ℕ) → Type 0
Printed (Ok v) out_old out_new errors_old errors_new =
    (Appends out_old out_new (line_of (told intake v)) × Keeps errors_old errors_new)
    ⊎ (AppendsFront out_old out_new (line_of (told intake v)) × AppendsFront errors_old errors_new output_unwritten)
Printed (Err e) out_old out_new errors_old errors_new = Keeps out_old out_new × AppendsFront errors_old errors_new input_unread
