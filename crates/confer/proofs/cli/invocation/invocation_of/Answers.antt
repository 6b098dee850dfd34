use Rattle.std.proofs.Common.{map, refl}
use Rattle.clap.specs.Words.{found_of, rows_of}
use Rattle.confer.proofs.CommandLine.Reading.{finds_nothing, finds_kinds, named_in}
use Rattle.confer.proofs.cli.invocation.invocation_of.Goals as goal

pub returns-clause-ok : goal.returns-clause-ok
returns-clause-ok g c =
    let words = map g.S.AsStr.text c.args.words.now in
    c.named.ensures.ok words (named_in _ words c.in-Ok.matches c.in-Some.name.now (rows_of (found_of c.in-Some.options.now)) _ c.in_ok-command.ensures refl c.in-Ok.ensures.matches c.in-Some.ensures.name c.in-Some.ensures.rows)

pub returns-clause-err : goal.returns-clause-err
returns-clause-err g c =
    let words = map g.S.AsStr.text c.args.words.now in
    c.named.ensures.err words (finds_nothing _ words _ c.in_ok-command.ensures refl c.in-Ok.ensures.kinds)

pub returns-in-Err-clause-err : goal.returns-in-Err-clause-err
returns-in-Err-clause-err g c = finds_kinds _ _ c.in-Err.error _ c.in_ok-command.ensures refl c.in-Err.ensures.kinds
