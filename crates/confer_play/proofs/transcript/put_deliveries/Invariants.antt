use Rattle.std.proofs.Common.{◌≡◌, ◌++◌, drop, flat_map}
use Rattle.confer_play.specs.Transcript.{delivery_text}
use Rattle.confer_play.proofs.transcript.put_deliveries.Given as goal

-- the deliveries put so far, in front of those still to come
abbrev pub invariant-loop-message : goal.invariant-loop-message
invariant-loop-message l =
    l.text.items ++ flat_map delivery_text (drop l.message-index l.deliveries) ≡ l.fn.text.items ++ flat_map delivery_text l.deliveries
