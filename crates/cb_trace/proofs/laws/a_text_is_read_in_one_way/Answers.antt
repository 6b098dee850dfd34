use Rattle.cb_trace.proofs.OneReading.{one_reading}
use Rattle.cb_trace.proofs.OneBadLine.{one_bad_line}
use Rattle.cb_trace.proofs.laws.a_text_is_read_in_one_way.Goals as goal

pub returns-clause-histories : goal.returns-clause-histories
returns-clause-histories c = one_reading

pub returns-clause-line : goal.returns-clause-line
returns-clause-line c = one_bad_line
