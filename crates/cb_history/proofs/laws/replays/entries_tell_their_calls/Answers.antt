use Rattle.cb_history.proofs.Replays.{entry_tells_its_call, entries_of_bytes_tell_bytes, legal_entries_are_bytes, one_more_is_decided, replaying_decides}
use Rattle.cb_history.proofs.laws.replays.entries_tell_their_calls.Goals as goal

pub returns-clause-call : goal.returns-clause-call
returns-clause-call c = entry_tells_its_call

pub returns-clause-bytes : goal.returns-clause-bytes
returns-clause-bytes c = entries_of_bytes_tell_bytes

pub returns-clause-legal : goal.returns-clause-legal
returns-clause-legal c = legal_entries_are_bytes

pub returns-clause-one_more : goal.returns-clause-one_more
returns-clause-one_more c = one_more_is_decided

pub returns-clause-decides : goal.returns-clause-decides
returns-clause-decides c = replaying_decides
