use Rattle.cb_handle_journal.proofs.Events.{WithEvents}
use Rattle.cb_handle_journal.proofs.taking.take_all.Given as goal

-- the entries so far are taken, and their events are kept
abbrev pub invariant-loop-entry : goal.invariant-loop-entry
invariant-loop-entry l = WithEvents l.fn.returning.core.seat l.entries l.entry-index l.so_far l.events.items
