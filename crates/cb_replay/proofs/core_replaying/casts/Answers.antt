use Rattle.std.proofs.Common.{Some}
use Rattle.cb_frames.specs.Fields.{One}
use Rattle.cb_history.specs.Facts.{entry_fields}
use Rattle.cb_history.specs.Legal.{ToCast}
use Rattle.cb_replay.proofs.CoreReplays.{cast_joins, says_added}
use Rattle.cb_replay.proofs.core_replaying.casts.Goals as goal

pub returns-in-Ok : goal.returns-in-Ok
returns-in-Ok c =
    let load = One c.args.payload.now in
    let made = c.in-Ok.ensures in
    says_added (ToCast load) c.args.core.now c.cast.new.self c.args.events.now.items c.cast.new.events.items (entry_fields c.args.entry.now) (Some (entry_fields c.in-Ok.noted)) c.is_noted.result
    made.goes_on made.entry c.is_noted.ensures (cast_joins load c.args.core.now c.cast.new.self c.args.events.now.items c.cast.new.events.items made.goes_on made.answer made.joins)
