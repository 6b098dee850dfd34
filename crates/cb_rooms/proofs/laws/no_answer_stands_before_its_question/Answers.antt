use Rattle.cb_rooms.proofs.Views.{one_for_each, behind_questions}
use Rattle.cb_rooms.proofs.laws.no_answer_stands_before_its_question.Goals as goal

pub returns-clause-once : goal.returns-clause-once
returns-clause-once c = one_for_each

pub returns-clause-behind : goal.returns-clause-behind
returns-clause-behind c = behind_questions
