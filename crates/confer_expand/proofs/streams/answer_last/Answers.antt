use Rattle.confer_expand.proofs.Running.{stopped_in}
use Rattle.confer_expand.proofs.streams.answer_last.Goals as goal

pub returns-in-Err-clause-fault : goal.returns-in-Err-clause-fault
returns-in-Err-clause-fault g c =
    stopped_in c.end-taken.result _ _ _ _ _ _ _ _ c.in-Err.ensures.fault c.end-taken.ensures.ok c.end-taken.ensures.err
