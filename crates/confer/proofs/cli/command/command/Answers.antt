use Rattle.std.proofs.Common.{◌≡◌, true, codes, rules}
use Rattle.clap.specs.Words.{App, app_of, new_app}
use Rattle.confer.proofs.cli.command.command.Goals as goal

pub returns : goal.returns
returns c =
    let top : App = record (new_app (codes "confer")) { top = record (new_app (codes "confer")).top { subcommand_required = true } } in
    let start : app_of c.subcommand_required-program.result ≡ top = search (rules, c.subcommand_required-program.ensures, c.long_about.ensures, c.about.ensures, c.new.ensures) in
    let expanding = c.with_if_made-expanding.ensures _ _ start c.expand_command.ensures in
    let playing = c.with_command-playing.ensures _ _ expanding c.play_command.ensures in
    let running = c.with_if_made-running.ensures _ _ playing c.run_command.ensures in
    c.with_command.ensures _ _ running c.audit_command.ensures
