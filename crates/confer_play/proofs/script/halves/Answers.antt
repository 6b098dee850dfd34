use Rattle.std.proofs.Common.{Some}
use Rattle.std.proofs.lemmas.Str.Pattern.{split_text_parts}
use Rattle.confer_play.proofs.script.halves.Goals as goal

pub returns-in-Some : goal.returns-in-Some
returns-in-Some c = split_text_parts c.args.mark.now c.args.text.now (Some c.in-Some.parts) c.in-Some.ensures.cases
