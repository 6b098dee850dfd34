use Rattle.std.proofs.Common.{◌≡◌, true, decimal, rules, arith, sym, ap, ◌∙◌}
use Rattle.std.proofs.lemmas.Fmt.{parse-decimal}
use Rattle.cb_lines.proofs.words.decimal_of.Goals as goal

pub returns-else-eq : goal.returns-else-eq
returns-else-eq c n below is =
    let read = parse-decimal 32 n _ _ below (omega (arith, below)) is c.parse.ensures.value.0 in
    let same : c.in-Ok.number ≡ n = cc (read, c.in-Ok.is) in
    let text : c.format.result.now ≡ c.args.text.now = c.format.ensures.text ∙ ap decimal same ∙ sym is in
    let equal : c.eq.result ≡ true = search rules in
    absurd (cc (equal, c.if-eq.false))

pub returns-in-Err : goal.returns-in-Err
returns-in-Err c n below is =
    absurd (cc (parse-decimal 32 n _ _ below (omega (arith, below)) is c.parse.ensures.value.0))
