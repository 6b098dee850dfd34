use Rattle.std.proofs.Common.{inr, List, ℕ, Option, map, subst}
use Rattle.confer.specs.Cli.Runs.{CarriesOut, EndsRun}
use Rattle.confer.specs.declared.cli.run.Carried.{Carried}
use Rattle.confer.proofs.cli.run.run_words.Goals as goal

pub returns-in-Ok-LeftToThreads : goal.returns-in-Ok-LeftToThreads
returns-in-Ok-LeftToThreads g c =
    let setting = c.in-Ok-LeftToThreads.setting in
    let left = subst
    (λ (did : Carried). CarriesOut (map g.S.AsStr.text c.args.words.now) did (g.R.Read.remaining c.args.input.now) (g.R.Read.remaining c.carry_out.new.input)
    (g.W.Write.contents c.args.output.now) (g.W.Write.contents c.carry_out.new.output))
    c.in-Ok-LeftToThreads.field-0-is c.in-Ok-LeftToThreads.ensures.ok in
    let said = g.E.Write.contents c.run_in_threads.new.errors in
    let ended = subst
    (λ (before : Option (List ℕ)). EndsRun setting c.run_in_threads.result before (g.W.Write.contents c.run_in_threads.new.output) (g.E.Write.contents c.args.errors.now) said) left.2
    c.run_in_threads.ensures in
    inr (record { setting = setting; ordered = left.0; ended = ended }, left.1)
