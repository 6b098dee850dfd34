-- What the plain program makes of a cast.
use Rattle.std.specs.Prelude.{◌≡◌, ◌≢◌, ◌+◌}
use Rattle.cb_frames.specs.Fields.{Load, One, CastFrame}
use Rattle.cb_frames.specs.Text.{text_of}
use Rattle.cb_diffs.specs.Differences.{differences}
use Rattle.cb_history.specs.declared.answer.BurstRefusal.{BurstRefusal}
use Rattle.cb_history.specs.declared.answer.BurstRefusal.TheVariants as bursts
use Rattle.cb_history.specs.Load.{many_of}
use Rattle.cb_history.specs.Facts.{entry_fields, CastEntry}
use Rattle.cb_history.specs.View.{time_of}
use Rattle.cb_history.specs.Answers.{delivered, upto_last_cast, burst_done}
use Rattle.cb_history.specs.State.{MemberState, facts_in, next_in}
use Rattle.cb_reference.specs.declared.cast.Load.{Load as PlainLoad}
use Rattle.cb_reference.specs.declared.cast.Load.TheVariants as plain
use Rattle.cb_reference.specs.declared.cast.Head.{Head}
use Rattle.cb_reference.specs.declared.cast.Casting.{Casting}

abbrev pub load_of : PlainLoad → Load
load_of (plain.One payload) = One payload.now
load_of (plain.Many payloads) = many_of payloads.now

-- what the member's next cast says before what it carries
pub record IsNextHead (m : MemberState) (head : Head) : Type 0 where
  pub group_is : head.group ≡ m.seat.group.number
  pub sender_is : head.sender ≡ m.seat.me
  pub number_is : head.number ≡ delivered m.seat (facts_in m) m.seat.me + 1
  pub changes_are : head.changes.items ≡ differences (time_of m.seat.group.size (upto_last_cast (facts_in m))) (time_of m.seat.group.size (facts_in m)) m.seat.me

-- the next cast of this load was made, and this is its entry
pub record IsCasting (m : MemberState) (load : Load) (casting : Casting) : Type 0 where
  pub done : casting.done ≡ burst_done m.seat (facts_in m) (next_in m load)
  pub entry : entry_fields casting.entry ≡ CastEntry (text_of (CastFrame (next_in m load)))

-- a refusal of one payload, which is neither none nor too many
abbrev pub IsOfOne : BurstRefusal → Type 0
IsOfOne refusal = (refusal ≢ bursts.EmptyBurst) × (refusal ≢ bursts.BurstTooLong)
