use Rattle.std.proofs.Common.{codes, rules}
use Rattle.clap.specs.Words.{new_app}
use Rattle.confer.specs.Cli.Commands.{IsCommand}
use Rattle.confer.proofs.cli.command.expand_command.Goals as goal

pub returns : goal.returns
returns c =
    let start : IsCommand (new_app (codes "expand")) c.long_about-expand.result = search (rules, c.long_about-expand.ensures, c.about.ensures, c.new.ensures) in
    let in_group = c.with_option-in_group.ensures _ _ start c.group_option.ensures.rule c.group_option.ensures.local in
    c.with_option.ensures _ _ in_group c.size_option.ensures.rule c.size_option.ensures.local
