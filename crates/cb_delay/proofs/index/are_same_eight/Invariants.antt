use Rattle.std.proofs.Common.{◌≡◌, ◌<◌, ◌≤◌, ◌+◌, ℕ, true}
use Rattle.cb_times.specs.Order.{field}
use Rattle.cb_delay.proofs.index.are_same_eight.Given as goal

-- the fields so far are the same, unless two were seen to differ
abbrev pub invariant-loop-j : goal.invariant-loop-j
invariant-loop-j l = record {
  same : l.same ≡ true → (k : ℕ) → l.first ≤ k → k < l.first + l.j → field l.before k ≡ field l.now k;
}
