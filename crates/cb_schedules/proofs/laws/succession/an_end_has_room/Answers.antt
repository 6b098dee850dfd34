use Rattle.cb_schedules.proofs.EndsHaveRoom.{ends_have_room}
use Rattle.cb_schedules.proofs.laws.succession.an_end_has_room.Goals as goal

pub returns : goal.returns
returns c = ends_have_room
