use Rattle.cb_trace.proofs.Before.{old_history_is_legal, old_histories_are_legal, old_traces_are_audited}
use Rattle.cb_trace.proofs.laws.before.old_traces_are_legal.Goals as goal

pub returns-clause-history : goal.returns-clause-history
returns-clause-history c = old_history_is_legal

pub returns-clause-histories : goal.returns-clause-histories
returns-clause-histories c = old_histories_are_legal

pub returns-clause-audit : goal.returns-clause-audit
returns-clause-audit c = old_traces_are_audited
