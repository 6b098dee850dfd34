-- When a run may end well.
use Rattle.std.specs.Prelude.{◌≡◌, ◌<◌, ℕ}
use Rattle.cb_history.specs.State.{MemberState}
use Rattle.cb_member.specs.Readings.{delivered_of_in, waiting_in}
use Rattle.cb_history.specs.State.{stable_of_in}
use Rattle.confer_node.specs.declared.meeting.Met.{Met}
use Rattle.confer_node.specs.Meeting.{HasMetAll}

-- no message waits, and of each member all that is delivered here is known to be delivered by all
pub record IsSettled (m : MemberState) : Type 0 where
  pub none_waits : waiting_in m ≡ 0
  pub stable : (i : ℕ) → i < m.seat.group.size → stable_of_in m i ≡ delivered_of_in m i

-- and each other member was heard: so a run may end well
abbrev pub MayEndWell : MemberState → Met → Type 0
MayEndWell m met = IsSettled m × HasMetAll met
