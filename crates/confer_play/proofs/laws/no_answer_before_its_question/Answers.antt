use Rattle.confer_play.proofs.Asking.{no_orphan, shows_all_lines, agree_on_lines}
use Rattle.confer_play.proofs.laws.no_answer_before_its_question.Goals as goal

pub returns-clause-no_orphan : goal.returns-clause-no_orphan
returns-clause-no_orphan c = no_orphan

pub returns-clause-lines : goal.returns-clause-lines
returns-clause-lines c = shows_all_lines

pub returns-clause-agree : goal.returns-clause-agree
returns-clause-agree c = agree_on_lines
