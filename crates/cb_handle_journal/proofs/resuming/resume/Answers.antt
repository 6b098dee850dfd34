use Rattle.cb_handle_journal.proofs.ComingBack.{not_read}
use Rattle.cb_handle_journal.proofs.resuming.resume.Goals as goal

pub returns-in-Ok : goal.returns-in-Ok
returns-in-Ok c = c.resumed_by.ensures c.args.bytes.now c.in-Ok.ensures.exact

pub returns-in-Err : goal.returns-in-Err
returns-in-Err c = rw c.of_reading.ensures (not_read c.args.bytes.now c.args.history_max c.in-Err.fault c.in-Err.ensures.exact)
