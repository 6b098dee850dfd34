use Rattle.cb_history.proofs.Keeping.{no_room_is_full, frames_in_are_sent_in_answer, put_is_own_cast, trim_is_stable}
use Rattle.cb_history.proofs.laws.stability.windows_keep_own_casts.Goals as goal

pub returns-clause-room : goal.returns-clause-room
returns-clause-room c = no_room_is_full

pub returns-clause-again : goal.returns-clause-again
returns-clause-again c = frames_in_are_sent_in_answer

pub returns-clause-put : goal.returns-clause-put
returns-clause-put c = put_is_own_cast

pub returns-clause-trim : goal.returns-clause-trim
returns-clause-trim c = trim_is_stable
