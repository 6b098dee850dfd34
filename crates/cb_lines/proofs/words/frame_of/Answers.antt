use Rattle.cb_lines.proofs.Digits.{frame_is_not_found}
use Rattle.cb_lines.proofs.words.frame_of.Goals as goal

pub returns-in-Err : goal.returns-in-Err
returns-in-Err c = frame_is_not_found c.args.word.now c.in-Err.fault c.fault_of.result c.in-Err.ensures.err c.fault_of.ensures
