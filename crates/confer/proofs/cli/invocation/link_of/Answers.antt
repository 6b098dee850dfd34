use Rattle.clap.specs.Words.{found_of}
use Rattle.confer.proofs.CommandLine.Linking.{link_given}
use Rattle.confer.proofs.cli.invocation.link_of.Goals as goal

pub returns-in-Some : goal.returns-in-Some
returns-in-Some c = link_given (found_of c.args.options.now) c.in-Some.name.now c.link_named.result c.in-Some.ensures c.link_named.ensures
