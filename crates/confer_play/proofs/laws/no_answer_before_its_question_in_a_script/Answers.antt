use Rattle.confer_play.proofs.Scripts.{questions_come_first}
use Rattle.confer_play.proofs.laws.no_answer_before_its_question_in_a_script.Goals as goal

pub returns : goal.returns
returns c = questions_come_first
