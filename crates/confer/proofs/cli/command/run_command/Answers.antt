use Rattle.std.proofs.Common.{codes, rules}
use Rattle.clap.specs.Words.{new_app}
use Rattle.confer.specs.Cli.Commands.{IsCommand}
use Rattle.confer.proofs.cli.command.run_command.Goals as goal

pub returns : goal.returns
returns c =
    let start : IsCommand (new_app (codes "run")) c.long_about-run.result = search (rules, c.long_about-run.ensures, c.about.ensures, c.new.ensures) in
    let sized = c.with_option-sized.ensures _ _ start c.members_option.ensures.rule c.members_option.ensures.local in
    let windowed = c.with_option-windowed.ensures _ _ sized c.window_option.ensures.rule c.window_option.ensures.local in
    let asking = c.with_option-asking.ensures _ _ windowed c.questions_option.ensures.rule c.questions_option.ensures.local in
    let limited = c.with_option-limited.ensures _ _ asking c.turns_option.ensures.rule c.turns_option.ensures.local in
    let linked = c.with_option-linked.ensures _ _ limited c.link_option.ensures.rule c.link_option.ensures.local in
    c.with_option.ensures _ _ linked c.trace_option.ensures.rule c.trace_option.ensures.local
