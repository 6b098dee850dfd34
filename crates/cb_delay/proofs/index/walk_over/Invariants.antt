use Rattle.std.proofs.Common.{◌≡◌, ◌<◌, ◌≤◌, ℕ}
use Rattle.std.specs.Int.{bit_at}
use Rattle.cb_delay.specs.Index.{place_of}
use Rattle.cb_delay.specs.declared.place.Place.TheVariants.{Waits}
use Rattle.cb_delay.proofs.index.walk_over.Given as goal

abbrev pub decreases-loop-i : goal.decreases-loop-i
decreases-loop-i l = l.left

-- who is not left is found
abbrev pub invariant-loop-i : goal.invariant-loop-i
invariant-loop-i l = record {
  left : (i : ℕ) → bit_at l.set i ≡ 0 → bit_at l.left i ≡ 0;
  found : (i value : ℕ) → bit_at l.set i ≡ 1 → bit_at l.left i ≡ 0 → place_of l.places i ≡ Waits l.member value → value ≤ l.count → bit_at l.reached i ≡ 1;
  waits : (i value : ℕ) → bit_at l.set i ≡ 1 → bit_at l.left i ≡ 0 → place_of l.places i ≡ Waits l.member value → l.count < value → bit_at l.waiting i ≡ 1;
  none_found : (i : ℕ) → bit_at l.set i ≡ 0 → bit_at l.reached i ≡ 0;
  none_waits : (i : ℕ) → bit_at l.set i ≡ 0 → bit_at l.waiting i ≡ 0;
}
