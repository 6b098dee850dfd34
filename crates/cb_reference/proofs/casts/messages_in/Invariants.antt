use Rattle.std.proofs.Common.{◌≡◌, ◌++◌, map, drop}
use Rattle.cb_history.specs.Facts.{messages_in}
use Rattle.cb_reference.specs.Messages.{cast_of, carried_of}
use Rattle.cb_reference.proofs.casts.messages_in.Given as goal

-- the messages so far, and those of the other casts
abbrev pub invariant-loop-cast : goal.invariant-loop-cast
invariant-loop-cast l = map carried_of l.messages.items ++ messages_in (map cast_of (drop l.cast-index l.casts)) ≡ messages_in (map cast_of l.casts)
