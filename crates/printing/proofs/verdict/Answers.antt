-- `verdict`: the bytes that are written are those of the line.
use Rattle.std.proofs.Common.{length, take, OnOk, List, ℕ, ◌≡◌, ap, subst, ◌∙◌}
use Rattle.std.specs.Io.KnownBytes.{Appends}
use Rattle.answers.specs.Told.{told, intake}
use Rattle.printing.specs.Line.{line_of, in_array}
use Rattle.printing.specs.Written.{AppendsFront}
use Rattle.printing.proofs.LinePastes.{line_in_front}
use Rattle.printing.proofs.verdict.Goals as goal

-- as many bytes of an array as a line is long, where the array has the line in front
front_of : (line bytes : List ℕ) (n : ℕ) → bytes ≡ in_array line → n ≡ length line → take n bytes ≡ line
front_of line bytes n e f = ap (take n) e ∙ ap (λ (k : ℕ). take k (in_array line)) f ∙ line_in_front line

pub returns-clause-whole : goal.returns-clause-whole
returns-clause-whole g c =
    let e = c.line_of-line.ensures in
    let line = line_of (told intake c.args.verdict) in
    let same = front_of line c.line_of-line.result.bytes c.line_of-line.result.length e.0 e.1.0 in
    subst (λ (bytes : List ℕ). OnOk c.write_out.result (Appends (g.W.Write.contents c.args.out.now) (g.W.Write.contents c.write_out.new.out) bytes))
    same c.write_out.ensures.whole

pub returns-clause-front : goal.returns-clause-front
returns-clause-front g c =
    let e = c.line_of-line.ensures in
    let line = line_of (told intake c.args.verdict) in
    let same = front_of line c.line_of-line.result.bytes c.line_of-line.result.length e.0 e.1.0 in
    subst (AppendsFront (g.W.Write.contents c.args.out.now) (g.W.Write.contents c.write_out.new.out)) same c.write_out.ensures.front
