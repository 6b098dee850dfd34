use Rattle.std.proofs.Common.{◌≡◌, ◌+◌, ◌≤◌, ◌++◌, ◌∷◌, length, map}
use Rattle.std.specs.Vec.{vec_capacity, vec_len}
use Rattle.cb_delay.specs.declared.message.Event.TheVariants.{Cast}
use Rattle.cb_member.proofs.own_cast.push_casts.Given as goal

-- the events so far, and those of the messages still to come, for which there is room
abbrev pub invariant-loop-message : goal.invariant-loop-message
invariant-loop-message l = record {
  so_far : l.events.items ++ map (λ message. Cast message) l.message-iterator.rest.items ≡ l.fn.events.items ++ map (λ message. Cast message) (l.fn.first ∷ l.fn.others.items);
  room : vec_len l.events + length l.message-iterator.rest.items ≤ vec_capacity l.events;
}
