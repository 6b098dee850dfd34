use Rattle.cb_schedules.proofs.Room.{room_enough}
use Rattle.cb_schedules.proofs.laws.rounds.room_for_each_step_is_enough.Goals as goal

pub returns : goal.returns
returns c = room_enough
