use Rattle.std.proofs.Common.{◌≡◌, ◌≢◌, ◌<◌, true, ℕ, drop, length, ltb, max}
use Rattle.std.specs.List.{list_all}
use Rattle.cb_times.specs.Order.{field}
use Rattle.cb_frames.specs.Text.{RisesFrom}
use Rattle.cb_stability.specs.Known.{count}
use Rattle.cb_history.specs.Known.{value_in}
use Rattle.cb_member.proofs.knowledge.Knowledge.hear_status.Given as goal

-- what is left of the values, raised to and learnt, gives what all of them give
abbrev pub invariant-loop-value : goal.invariant-loop-value
invariant-loop-value l = record {
  items : l.value-items ≡ l.status.values.items;
  fields : length l.self.known ≡ length l.fn.self.known;
  of_size : l.self.acks.size ≡ l.fn.self.acks.size;
  rising : (least : ℕ) × RisesFrom least (drop l.value-index l.value-items);
  members : list_all (λ d. ltb d.field (length l.fn.self.known)) (drop l.value-index l.value-items) ≡ true;
  raised : (k : ℕ) → k < length l.fn.self.known
      → max (field l.self.known k) (value_in (drop l.value-index l.value-items) k) ≡ max (field l.fn.self.known k) (value_in l.value-items k);
  said : (i : ℕ) → max (count l.self.acks l.status.sender i) (value_in (drop l.value-index l.value-items) i)
      ≡ max (count l.fn.self.acks l.status.sender i) (value_in l.value-items i);
  others : (m i : ℕ) → m ≢ l.status.sender → count l.self.acks m i ≡ count l.fn.self.acks m i;
}
