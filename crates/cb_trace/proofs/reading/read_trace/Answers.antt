use Rattle.cb_trace.proofs.OneReading.{only_reading}
use Rattle.cb_trace.proofs.reading.read_trace.Goals as goal

pub returns-clause-found : goal.returns-clause-found
returns-clause-found c histories trace = only_reading c.args.text.now c.read.result histories trace c.read.ensures
