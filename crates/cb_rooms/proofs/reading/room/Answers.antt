use Rattle.std.proofs.Common.{sym, ◌∙◌, ap}
use Rattle.cb_rooms.specs.Line.{is_room}
use Rattle.cb_rooms.proofs.Names.{no_room, refused}
use Rattle.cb_rooms.proofs.reading.room.Goals as goal
use Rattle.cb_rooms.proofs.reading.room.Goals.{in_default-via-in-Ok+else-is_room, in_default-via-in_default}

pub returns-in_default : goal.returns-in_default
returns-in_default c =
    let bytes = c.args.bytes.now in
    refused (is_room bytes) bytes (elim c.in_default.branch [
      | in_default-via-in-Ok+else-is_room w ↦ ap is_room (sym w.in-Ok.ensures.cases.0) ∙ sym w.if-is_room.ensures
      | in_default-via-in_default w ↦ no_room bytes w.in_default.ensures.cases.0
    ])
