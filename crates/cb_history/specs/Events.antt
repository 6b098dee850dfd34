-- What a member did, as its caller sees it.
use Rattle.std.specs.Prelude.{◌==◌, List, map, if◌then◌else◌}
use Rattle.cb_frames.specs.Fields.{CastFields, Carried}
use Rattle.cb_delay.specs.declared.message.Event.{Event}
use Rattle.cb_delay.specs.declared.message.Event.TheVariants.{Cast, Deliver}
use Rattle.cb_history.specs.Group.{Identity}
use Rattle.cb_history.specs.Facts.{Fact, casts_in}
use Rattle.cb_history.specs.View.{view, message_in}

-- a message of the view, cast by the member itself or delivered to it
abbrev pub event_in : Identity → List CastFields → Carried → Event
event_in seat casts m = if m.sender == seat.me then Cast (message_in seat.group.size casts m) else Deliver (message_in seat.group.size casts m)

-- the casts and deliveries in their order, each with its message's time
abbrev pub events : Identity → List Fact → List Event
events seat facts = map (event_in seat (casts_in facts)) (view seat.group.size facts)
