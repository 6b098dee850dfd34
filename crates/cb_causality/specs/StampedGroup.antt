-- What the program of the stamped machine says of its lists.
use Rattle.std.specs.Prelude.{◌≡◌, ℕ, ◌<◌, List, ◌+◌, if◌then◌else◌, ◌==◌, length, slice_get, Some}
use Rattle.cb_times.specs.Order.{field}
use Rattle.cb_times.specs.declared.name.Name.{Name}
use Rattle.cb_delay.specs.declared.message.Message.{Message}
use Rattle.cb_delay.specs.declared.message.Event.{Event}
use Rattle.cb_delay.specs.declared.message.Event.TheVariants.{Cast, Deliver}
use Rattle.cb_times.specs.Group.{IsGroupSize}
use Rattle.cb_causality.specs.Lists.{lists_in, Appends}
use Rattle.cb_causality.specs.StampedMachine.{StampedLists, counts_of, DelayRuleAllows, StampedRun}

-- the lists are a stamped run of a group
pub record IsStampedGroup (lists : List (List Event)) : Type 0 where
  pub size : IsGroupSize (length lists)
  pub run : StampedRun (length lists) (lists_in lists)

-- the delay rule lets the receiver deliver this message, which has the name m
abbrev pub IsAllowedAs : StampedLists → ℕ → Name → Message → Type 0
IsAllowedAs lists receiver m message = (message.name ≡ m) × DelayRuleAllows lists receiver message

-- the delay rule lets the receiver deliver m, with the payload and the time that it was cast with
abbrev pub IsAllowed : StampedLists → ℕ → Name → Type 0
IsAllowed lists receiver m = (message : Message) × IsAllowedAs lists receiver m message

-- the receiver has delivered m, as the delay rule lets it
abbrev pub DeliversStamped : StampedLists → StampedLists → ℕ → Name → Type 0
DeliversStamped before after receiver m =
    (message : Message) × IsAllowedAs before receiver m message × Appends before after receiver (Deliver message)

-- the message is cast in the list, and has the name m
abbrev pub IsCastIn : List Event → Name → Message → Type 0
IsCastIn events m message = (message.name ≡ m) × ((index : ℕ) × (slice_get events index ≡ Some (Cast message)))

-- the time has, at each field of the group, what the list has of that member, and one more at the member's own
pub record IsStampAfter (size member : ℕ) (time : List ℕ) (events : List Event) : Type 0 where
  pub fields : length time ≡ size
  pub counts : (k : ℕ) → k < size → field time k ≡ counts_of events k + (if k == member then 1 else 0)
