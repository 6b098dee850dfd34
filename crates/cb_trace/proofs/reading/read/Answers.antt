use Rattle.cb_trace.proofs.Reaching.{first_read, bad_none, first_fault}
use Rattle.cb_trace.proofs.reading.read.Goals as goal

pub returns-in_default : goal.returns-in_default
returns-in_default c = bad_none c.args.text.now c.in_default.ensures

pub returns-in-Ok : goal.returns-in-Ok
returns-in-Ok c = c.members_of.ensures c.args.text.now (first_read c.args.text.now c.in-Some.first.now c.in-Some.rest.now c.in-Ok.group c.in-Some.ensures c.in-Ok.ensures.0 c.in-Ok.ensures.1)

pub returns-in-Err : goal.returns-in-Err
returns-in-Err c = rw c.at.ensures (first_fault c.args.text.now c.in-Some.first.now c.in-Some.rest.now c.in-Err.fault c.in-Some.ensures c.in-Err.ensures)
