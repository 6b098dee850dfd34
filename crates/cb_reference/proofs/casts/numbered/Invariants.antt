use Rattle.std.proofs.Common.{◌≡◌, ◌+◌, ◌++◌, map, drop}
use Rattle.cb_frames.specs.Fields.{numbered}
use Rattle.cb_reference.specs.Messages.{carried_of}
use Rattle.cb_reference.proofs.casts.numbered.Given as goal

-- the messages so far, and those of the other payloads, numbered on
abbrev pub invariant-loop-payload : goal.invariant-loop-payload
invariant-loop-payload l = record {
  next : l.next ≡ l.first + l.payload-index;
  messages : map carried_of l.messages.items ++ numbered l.sender l.next (drop l.payload-index l.payloads) ≡ numbered l.sender l.first l.payloads;
}
