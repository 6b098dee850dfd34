use Rattle.std.proofs.Common.{map}
use Rattle.cb_schedules.specs.Schedule.{IsSetting}
use Rattle.confer_play.specs.Playing.{order_of, setting_in}
use Rattle.confer_play.proofs.Printing.{whole_run}
use Rattle.confer_play.proofs.running.run_text.Goals as goal

pub returns-in-Ok : goal.returns-in-Ok
returns-in-Ok c =
    let is : IsSetting (setting_in c.args.setting) = record { group = c.size.ensures.group; one_or_more = c.args.setting.is_limit.0 } in
    whole_run (setting_in c.args.setting) (map order_of c.args.steps.now) c.in_ok-rooms.rooms.world c.put_run-put.new.rooms.world c.new-text.result.items c.put_run-put.new.text.items
    is c.in_ok-rooms.ensures.world c.new-text.ensures.items (c.in-Ok.ensures c.in_ok-rooms.ensures.shown)
