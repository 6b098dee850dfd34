use Rattle.std.proofs.Common.{◌≡◌, ◌∙◌, ◌++◌, List, ℕ, codes, subst}
use Rattle.std.specs.Fmt.{decimal}
use Rattle.std.specs.Io.KnownBytes.{Appends}
use Rattle.confer_text.specs.Streams.{WritesPart}
use Rattle.confer_text.proofs.Parts.{part_of_first, part_of_next}
use Rattle.confer.proofs.cli.said.write_bad_line.Goals as goal

pub returns-in_err-write_whole : goal.returns-in_err-write_whole
returns-in_err-write_whole g c =
    part_of_first (g.E.Write.contents c.args.errors.now) (g.E.Write.contents c.write_whole.new.output) (codes "confer: line ") (decimal c.args.line ++ c.args.end.now) c.in_err-write_whole.ensures.err

pub returns-in_err-write_whole-2 : goal.returns-in_err-write_whole-2
returns-in_err-write_whole-2 g c =
    let mid = g.E.Write.contents c.write_whole.new.output in
    let after = g.E.Write.contents c.write_whole-2.new.output in
    let digits : c.as_bytes.result.now ≡ decimal c.args.line = c.as_bytes.ensures.value ∙ c.format.ensures.text in
    part_of_next (g.E.Write.contents c.args.errors.now) mid after (codes "confer: line ") (decimal c.args.line ++ c.args.end.now) c.in_ok-write_whole.ensures.ok
    (part_of_first mid after (decimal c.args.line) c.args.end.now (subst (λ (t : List ℕ). WritesPart mid after t) digits c.in_err-write_whole-2.ensures.err))

pub returns : goal.returns
returns g c =
    let first = g.E.Write.contents c.write_whole.new.output in
    let mid = g.E.Write.contents c.write_whole-2.new.output in
    let after = g.E.Write.contents c.say_bytes.new.errors in
    let digits : c.as_bytes.result.now ≡ decimal c.args.line = c.as_bytes.ensures.value ∙ c.format.ensures.text in
    part_of_next (g.E.Write.contents c.args.errors.now) first after (codes "confer: line ") (decimal c.args.line ++ c.args.end.now) c.in_ok-write_whole.ensures.ok
    (part_of_next first mid after (decimal c.args.line) c.args.end.now (subst (λ (t : List ℕ). Appends first mid t) digits c.in_ok-write_whole-2.ensures.ok) c.say_bytes.ensures)
