use Rattle.std.proofs.Common.{◌≡◌}
use Rattle.tests_base.proofs.acks.in_the_largest_group_the_last_member_counts_too.Given as goal

abbrev pub invariant-loop-member : goal.invariant-loop-member
invariant-loop-member g l = l.acks.size ≡ 64
