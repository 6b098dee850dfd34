use Rattle.std.proofs.Common.{arith, rules, tests}
use Rattle.cb_history.specs.Legal.{NoEntries}
use Rattle.cb_reference.proofs.member.ReferenceMember.new.Goals as goal

pub invariant_of-result : goal.invariant_of-result
invariant_of-result c =
    rw c.new-3.ensures.items (record {
      legal = record { group = c.in-Some.ensures.1.group; member = c.in-Some.ensures.1.member; entries_are = NoEntries; few = omega arith };
      one_or_more = search (rules, tests);
      at_most = search (rules, tests);
      room = omega arith;
    })
