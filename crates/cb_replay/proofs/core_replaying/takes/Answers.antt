use Rattle.std.specs.Prelude.{option_map}
use Rattle.cb_history.specs.Facts.{entry_fields}
use Rattle.cb_history.specs.Legal.{ToTake}
use Rattle.cb_member.specs.CoreCalls.{joined}
use Rattle.cb_replay.proofs.CoreReplays.{arrival_joins, says_added}
use Rattle.cb_replay.proofs.core_replaying.takes.Goals as goal

pub returns-in-Ok : goal.returns-in-Ok
returns-in-Ok c =
    let bytes = c.args.frame.now in
    let before = c.args.events.now.items in
    let after = c.receive_noted.new.events.items in
    let made = c.in-Ok.ensures in
    says_added (ToTake bytes) c.args.core.now c.receive_noted.new.self before after (entry_fields c.args.entry.now) (option_map entry_fields c.in-Ok.noted) c.is_noted.result made.goes_on made.entry c.is_noted.ensures
    (arrival_joins bytes c.in-Ok._received (joined before after) c.args.core.now c.receive_noted.new.self before after made.goes_on made.joins made.count made.taken)
