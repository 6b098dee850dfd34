use Rattle.std.proofs.Common.{◌≡◌, []}
use Rattle.cb_replay.proofs.Returns.{SoFar}
use Rattle.cb_replay.proofs.returning.take_all.Given as goal

-- the entries so far are taken, and of their events none is kept
abbrev pub invariant-loop-entry : goal.invariant-loop-entry
invariant-loop-entry l = SoFar l.fn.returning.core.seat l.entries l.entry-index l.so_far × (l.events.items ≡ [])
