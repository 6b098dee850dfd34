use Rattle.cb_member.proofs.CoreRuns.{cores_answer, no_number_is_left}
use Rattle.cb_member.proofs.laws.cores_answer_by_their_history.Goals as goal

pub returns-clause-history : goal.returns-clause-history
returns-clause-history c = cores_answer

pub returns-clause-numbers : goal.returns-clause-numbers
returns-clause-numbers c = no_number_is_left
