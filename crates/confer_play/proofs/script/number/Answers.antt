use Rattle.std.proofs.Common.{◌≡◌, true, decimal, rules, arith, sym, ap, ◌∙◌}
use Rattle.std.proofs.lemmas.Fmt.{parse-decimal}
use Rattle.confer_play.proofs.script.number.Goals as goal

pub returns-then-eq-clause-every : goal.returns-then-eq-clause-every
returns-then-eq-clause-every c n below is =
    let read = parse-decimal 32 n _ _ below (omega (arith, below)) is c.parse.ensures.value.0 in
    cc (read, c.in-Ok.is)

pub returns-else-eq-clause-every : goal.returns-else-eq-clause-every
returns-else-eq-clause-every c n below is =
    let read = parse-decimal 32 n _ _ below (omega (arith, below)) is c.parse.ensures.value.0 in
    let same : c.in-Ok.number ≡ n = cc (read, c.in-Ok.is) in
    let text : c.format.result.now ≡ c.args.word.now = c.format.ensures.text ∙ ap decimal same ∙ sym is in
    let equal : c.eq.result ≡ true = search rules in
    absurd (cc (equal, c.if-eq.false))

pub returns-in-Err-clause-every : goal.returns-in-Err-clause-every
returns-in-Err-clause-every c n below is =
    absurd (cc (parse-decimal 32 n _ _ below (omega (arith, below)) is c.parse.ensures.value.0))
