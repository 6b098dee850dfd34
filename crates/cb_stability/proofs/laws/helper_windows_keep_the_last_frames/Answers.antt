use Rattle.cb_stability.proofs.HelperWindows.{fresh_keeps_none, put_keeps_the_last, trim_keeps_the_last}
use Rattle.cb_stability.proofs.laws.helper_windows_keep_the_last_frames.Goals as goal

pub returns-clause-fresh : goal.returns-clause-fresh
returns-clause-fresh c = fresh_keeps_none

pub returns-clause-put : goal.returns-clause-put
returns-clause-put c = put_keeps_the_last

pub returns-clause-trim : goal.returns-clause-trim
returns-clause-trim c = trim_keeps_the_last
