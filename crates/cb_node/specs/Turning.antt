-- A turn of a node.
use Rattle.std.specs.Prelude.{◌≡◌, ℕ, ◌+◌, Bool, if◌then◌else◌, List, [], ◌++◌, length, take, slice_range}
use Rattle.cb_delay.specs.declared.message.Event.{Event}
use Rattle.cb_history.specs.declared.answer.Outgoing.{Outgoing}
use Rattle.cb_history.specs.State.{events_in}
use Rattle.cb_links.specs.declared.link.LinkFault.{LinkFault}
use Rattle.cb_links.specs.declared.link.LinkFault.TheVariants as faults
use Rattle.cb_links.specs.declared.link.Unsent.{Unsent}
use Rattle.cb_links.specs.Counts.{held}
use Rattle.cb_node.specs.declared.ends.Counts.{Counts}
use Rattle.cb_node.specs.Course.{Work, Goes}
use Rattle.cb_node.specs.Desk.{TicksIn, helps_of}
use Rattle.cb_node.specs.Kept.{KeptState, work_of}

abbrev pub none_counted : Counts
none_counted = record { offered = 0; send_failures = 0; send_refused = 0; receive_failures = 0; receive_refused = 0 }

-- with what was offered to the link, and what it did not take
abbrev pub with_unsent : Counts → Unsent → Counts
with_unsent c unsent = record c {
  offered = held (c.offered + unsent.offered);
  send_failures = held (c.send_failures + unsent.failures);
  send_refused = held (c.send_refused + unsent.refused);
}

-- with one more fault of what receives
abbrev pub with_fault : Counts → LinkFault → Counts
with_fault c faults.Device = record c { receive_failures = held (c.receive_failures + 1) }
with_fault c faults.NoMemory = record c { receive_refused = held (c.receive_refused + 1) }

-- the events between two places
abbrev pub between : ℕ → ℕ → List Event → List Event
between from to events = slice_range events from to

-- a count of so many more, which stays at its greatest value
abbrev pub CountsOn : ℕ → ℕ → ℕ → Type 0
CountsOn before more after = held after ≡ held (before + more)

-- The calls of some part of a turn. All that they answered to be sent, behind what waited, was offered to the link in that order, so many
-- frames more than before, but for what waits still.
pub record HasGone (old new : KeptState) (before after : ℕ) : Type 0 where
  pub done : Work
  pub sent : List Outgoing
  pub course : Goes (work_of old) done
  pub member : done.member ≡ new.kept
  pub refused : done.refused ≡ new.refused
  pub post : done.post ≡ sent ++ new.post
  pub offered : CountsOn before (length sent) after

-- A whole turn: nothing waits any more, and what is handed out are the events that the kept entries made since the last turn.
pub record HasTurned (old new : KeptState) (before after : ℕ) (handed to : ℕ) (news : List Event) : Type 0 where
  pub gone : HasGone old new before after
  pub nothing_waits : new.post ≡ []
  pub all : to ≡ length (events_in new.kept)
  pub news_are : events_in new.kept ≡ take handed (events_in old.kept) ++ news

-- One more tick was made. Where third members are to be asked after it they are, for all that is missing.
pub record HasMadeTick (old new : Work) (asks : Bool) : Type 0 where
  pub ticked : Work
  pub ticks_in : TicksIn old ticked
  pub after : new ≡ record ticked { post = ticked.post ++ (if asks then helps_of ticked.member else []) }
