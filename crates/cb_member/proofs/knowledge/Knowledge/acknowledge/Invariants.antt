use Rattle.std.proofs.Common.{◌≡◌, ◌≢◌, ◌<◌, ℕ, drop, max}
use Rattle.std.specs.List.{All}
use Rattle.cb_stability.specs.Known.{count}
use Rattle.cb_history.specs.Known.{greatest_of}
use Rattle.cb_member.specs.Knowledge.{HasTimeOf, delivered_by, reached_in, reported_in}
use Rattle.cb_member.proofs.knowledge.Knowledge.acknowledge.Given as goal

-- what is learnt so far, and what the other messages tell
abbrev pub invariant-loop-event : goal.invariant-loop-event
invariant-loop-event l = record {
  known : l.self.known ≡ l.fn.self.known;
  of_size : l.self.acks.size ≡ l.fn.self.acks.size;
  others : (k i : ℕ) → i < l.fn.self.acks.size → k ≢ l.fn.me
      → max (count l.self.acks k i) (greatest_of (reported_in i (delivered_by (drop l.event-index l.fn.events)) k))
      ≡ max (count l.fn.self.acks k i) (greatest_of (reported_in i (delivered_by l.fn.events) k));
  own : (i : ℕ) → max (count l.self.acks l.fn.me i) (greatest_of (reached_in l.fn.time (delivered_by (drop l.event-index l.fn.events)) i))
      ≡ max (count l.fn.self.acks l.fn.me i) (greatest_of (reached_in l.fn.time (delivered_by l.fn.events) i));
  senders : All (HasTimeOf l.fn.me l.fn.self.acks.size) (delivered_by (drop l.event-index l.fn.events));
}
