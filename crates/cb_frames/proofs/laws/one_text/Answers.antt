use Rattle.cb_frames.proofs.Unique.{none_begins_another, one_text, some_text}
use Rattle.cb_frames.proofs.laws.one_text.Goals as goal

pub returns-clause-apart : goal.returns-clause-apart
returns-clause-apart c = none_begins_another

pub returns-clause-named : goal.returns-clause-named
returns-clause-named c = one_text

pub returns-clause-exists : goal.returns-clause-exists
returns-clause-exists c = some_text
