use Rattle.clap.specs.Words.{found_of}
use Rattle.confer.proofs.CommandLine.Linking.{flag_given}
use Rattle.confer.proofs.cli.invocation.flag.Goals as goal

pub returns : goal.returns
returns c = flag_given (found_of c.args.options.now) c.args.name.now c.get_flag.result c.get_flag.ensures.none c.get_flag.ensures.value c.get_flag.ensures.other
