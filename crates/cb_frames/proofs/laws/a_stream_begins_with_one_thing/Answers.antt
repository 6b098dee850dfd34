use Rattle.cb_frames.proofs.Longest.{longest_frame}
use Rattle.cb_frames.proofs.StreamFronts.{front_is_exact, more_changes_nothing}
use Rattle.cb_frames.proofs.laws.a_stream_begins_with_one_thing.Goals as goal

pub returns-clause-longest : goal.returns-clause-longest
returns-clause-longest c = longest_frame

pub returns-clause-exact : goal.returns-clause-exact
returns-clause-exact c = front_is_exact

pub returns-clause-more : goal.returns-clause-more
returns-clause-more c = more_changes_nothing
