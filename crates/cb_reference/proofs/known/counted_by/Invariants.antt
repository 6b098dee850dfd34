use Rattle.std.proofs.Common.{◌≡◌, max, map, drop}
use Rattle.cb_history.specs.Known.{greatest_of, counted_by}
use Rattle.cb_reference.specs.Messages.{carried_of}
use Rattle.cb_reference.proofs.known.counted_by.Given as goal

-- the greatest number so far, or that of the other messages
abbrev pub invariant-loop-message : goal.invariant-loop-message
invariant-loop-message l =
    max l.greatest (greatest_of (counted_by l.casts (map carried_of (drop l.message-index l.seen)) l.k l.i))
    ≡ greatest_of (counted_by l.casts (map carried_of l.seen) l.k l.i)
