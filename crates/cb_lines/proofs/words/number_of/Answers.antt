use Rattle.cb_lines.proofs.Digits.{decimal_is_utf8}
use Rattle.cb_lines.proofs.words.number_of.Goals as goal

pub returns-in-Err : goal.returns-in-Err
returns-in-Err c n below is = c.in-Err.ensures.cases.0 (rw is (decimal_is_utf8 n below))
