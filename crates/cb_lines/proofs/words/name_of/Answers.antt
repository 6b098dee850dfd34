use Rattle.cb_lines.proofs.Digits.{name_is_utf8}
use Rattle.cb_lines.proofs.words.name_of.Goals as goal

pub returns-in-Err : goal.returns-in-Err
returns-in-Err c n can is = c.in-Err.ensures.cases.0 (rw is (name_is_utf8 n can))
