use Rattle.std.proofs.Common.{◌∙◌, ap}
use Rattle.std.specs.Prelude.{bytes_eq, position, string_bytes}
use Rattle.indexmap.specs.IndexMap.{keys}
use Rattle.cb_rooms.proofs.Readings.{holds_now, position-map, names_are}
use Rattle.cb_rooms.proofs.conference.Conference.place_of_room.Goals as goal

pub returns : goal.returns
returns c =
    let now = holds_now c.self.inside c.args.self.now c.self.view_is c.self.invariant in
    let test = bytes_eq c.args.room.now in
    c.get_index_of.ensures.index ∙ position-map test string_bytes (keys c.self.inside.rooms)
    ∙ ap (position test) (names_are c.self.inside.rooms.entries c.args.self.now.lines now.in_rooms)
