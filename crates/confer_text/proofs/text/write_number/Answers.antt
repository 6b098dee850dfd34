use Rattle.std.proofs.Common.{◌≤◌, rules, length, arith}
use Rattle.std.specs.Fmt.{decimal}
use Rattle.std.proofs.lemmas.Fmt.{length-decimal-le}
use Rattle.confer_text.proofs.text.write_number.Goals as goal

pub write_digits-requires : goal.write_digits-requires
write_digits-requires c = (search (rules, length-decimal-le 10), search rules)

pub returns-clause-least : goal.returns-clause-least
returns-clause-least c =
    let short : length (decimal c.from.result) ≤ 10 = search (rules, length-decimal-le 10) in
    omega arith
