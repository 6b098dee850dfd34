use Rattle.cb_journal.proofs.Bounds.{legal_entries_have_lines}
use Rattle.cb_journal.proofs.Beginnings.{cuts_are_beginnings, crashes_leave_legal}
use Rattle.cb_journal.proofs.laws.crashes_leave_beginnings.Goals as goal

pub returns-clause-cuts : goal.returns-clause-cuts
returns-clause-cuts c = cuts_are_beginnings

pub returns-clause-lines : goal.returns-clause-lines
returns-clause-lines c = legal_entries_have_lines

pub returns-clause-legal : goal.returns-clause-legal
returns-clause-legal c = crashes_leave_legal
