use Rattle.std.proofs.Common.{◌≡◌, length}
use Rattle.tests_base.proofs.index.found_by_one_look.Given as goal

-- the queue and the time stay those of 64 members
abbrev pub invariant-loop-k : goal.invariant-loop-k
invariant-loop-k g l = record {
  queue : l.queue.size ≡ 64;
  now : length l.now ≡ 64;
}
