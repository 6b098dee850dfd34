-- How often frames were refused, by the reason.
use Rattle.std.specs.Prelude.{◌≡◌, ◌+◌, Option, Some, None}
use Rattle.cb_history.specs.declared.answer.ArriveRefusal.{ArriveRefusal}
use Rattle.cb_history.specs.declared.answer.ArriveRefusal.TheVariants as arrivals
use Rattle.cb_links.specs.Counts.{held}
use Rattle.cb_node.specs.declared.fault.TurnFault.{TurnFault}
use Rattle.cb_node.specs.declared.fault.TurnFault.TheVariants as turns
use Rattle.cb_node.specs.declared.refused.Refused.{Refused}

abbrev pub none_refused : Refused
none_refused = record { malformed = 0; other_group = 0; bad_member = 0; impossible = 0; overlap = 0; too_far = 0; history_full = 0; no_memory = 0 }

-- with one more
abbrev pub with_refusal : Refused → ArriveRefusal → Refused
with_refusal r (arrivals.Malformed fault) = record r { malformed = held (r.malformed + 1) }
with_refusal r arrivals.OtherGroup = record r { other_group = held (r.other_group + 1) }
with_refusal r arrivals.BadMember = record r { bad_member = held (r.bad_member + 1) }
with_refusal r arrivals.Impossible = record r { impossible = held (r.impossible + 1) }
with_refusal r arrivals.Overlap = record r { overlap = held (r.overlap + 1) }
with_refusal r arrivals.TooFar = record r { too_far = held (r.too_far + 1) }
with_refusal r arrivals.HistoryFull = record r { history_full = held (r.history_full + 1) }
with_refusal r arrivals.NoMemory = record r { no_memory = held (r.no_memory + 1) }

-- what hinders a turn: a full history and want of memory do, all else is dropped
abbrev pub hindrance : ArriveRefusal → Option TurnFault
hindrance arrivals.HistoryFull = Some turns.HistoryFull
hindrance arrivals.NoMemory = Some turns.NoMemory
hindrance (arrivals.Malformed fault) = None
hindrance arrivals.OtherGroup = None
hindrance arrivals.BadMember = None
hindrance arrivals.Impossible = None
hindrance arrivals.Overlap = None
hindrance arrivals.TooFar = None

-- no more frames were refused that hinder a turn
abbrev pub HinderNone : Refused → Refused → Type 0
HinderNone old new = (new.history_full ≡ old.history_full) × (new.no_memory ≡ old.no_memory)
