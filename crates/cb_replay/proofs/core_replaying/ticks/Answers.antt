use Rattle.std.specs.Prelude.{option_map}
use Rattle.cb_history.specs.Facts.{entry_fields}
use Rattle.cb_history.specs.Legal.{ToTick}
use Rattle.cb_replay.proofs.CoreReplays.{says_added, tick_joins}
use Rattle.cb_replay.proofs.core_replaying.ticks.Goals as goal

pub returns-in-Ok : goal.returns-in-Ok
returns-in-Ok c =
    let made = c.in-Ok.ensures in
    λ shown. says_added ToTick c.args.core.now c.tick_noted.new.self shown shown (entry_fields c.args.entry.now) (option_map entry_fields c.in-Ok.noted) c.is_noted.result made.goes_on made.entry c.is_noted.ensures
    (tick_joins c.in-Ok._ticked c.args.core.now c.tick_noted.new.self shown made.goes_on made.done)
