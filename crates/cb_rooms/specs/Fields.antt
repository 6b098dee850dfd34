-- What the fields of a conference hold.
use Rattle.std.specs.Prelude.{map, string_bytes}
use Rattle.cb_rooms.specs.declared.conference.Conference.TheInside.{Inside}
use Rattle.cb_rooms.specs.Conference.{Held, held}
use Rattle.cb_rooms.specs.Places.{rooms_seen, lines_of, Holds}

abbrev pub held_in : Inside → Held
held_in c = held c.screen.capacity (lines_of (rooms_seen c.rooms) c.places.entries)

abbrev pub HoldsLines : Inside → Type 0
HoldsLines c = Holds (rooms_seen c.rooms) c.places.entries (map string_bytes c.screen.items) c.screen.capacity
    (lines_of (rooms_seen c.rooms) c.places.entries)
