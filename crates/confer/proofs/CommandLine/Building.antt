-- How a command for `clap` is put together.
use Rattle.std.proofs.Common.{◌≡◌, false, ap₂, ◌∙◌}
use Rattle.clap.specs.Words.{App, Rule, rule_of, with_rule}
use Rattle.clap.specs.Built.{AddsArg}
use Rattle.clap.specs.declared.builder.arg.Arg.{Arg}
use Rattle.clap.specs.declared.builder.command.Command.{Command}
use Rattle.confer.specs.Cli.Commands.{IsCommand}

-- with one option more
pub with_option : {app : App} {rule : Rule} {old new : Command} {option : Arg} → IsCommand app old → AddsArg old option new → rule_of option ≡ rule → option.global ≡ false
    → IsCommand (with_rule app rule) new
with_option {app} {rule} {old} {new} {option} command adds is local = record {
  shape = adds.shape local ∙ ap₂ with_rule command.shape is;
  local = search (adds.globals, command.local, local);
}
