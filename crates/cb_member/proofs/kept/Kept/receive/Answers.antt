use Rattle.cb_member.proofs.kept.Kept.receive.Goals as goal

pub returns-in-Ok-clause-done : goal.returns-in-Ok-clause-done
returns-in-Ok-clause-done c = rw c.received.ensures c.in-Ok.ensures.done.received
