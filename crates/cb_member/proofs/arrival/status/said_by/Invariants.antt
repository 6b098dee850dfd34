use Rattle.std.proofs.Common.{◌≡◌, ◌||◌, drop}
use Rattle.std.specs.List.{list_any}
use Rattle.cb_member.specs.Hearing.{says_more}
use Rattle.cb_member.proofs.Values.{IsFound}
use Rattle.cb_member.proofs.arrival.status.said_by.Given as goal

-- what was found so far and what is left of the values give what all of them give
abbrev pub invariant-loop-value : goal.invariant-loop-value
invariant-loop-value l = record {
  items : l.value-items ≡ l.status.values.items;
  found : IsFound l.me l.of_me (drop l.value-index l.value-items) l.value-items;
  tells : (l.tells_more || list_any (says_more l.me l.knowledge l.status.sender) (drop l.value-index l.value-items))
      ≡ list_any (says_more l.me l.knowledge l.status.sender) l.value-items;
}
