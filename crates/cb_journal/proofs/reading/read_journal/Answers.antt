use Rattle.cb_journal.proofs.Readings.{only_reading}
use Rattle.cb_journal.proofs.reading.read_journal.Goals as goal

pub returns-clause-found : goal.returns-clause-found
returns-clause-found c s es torn is = only_reading c.args.bytes.now c.read.result s es torn is c.read.ensures
