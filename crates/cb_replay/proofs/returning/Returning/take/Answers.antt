use Rattle.std.proofs.Common.{Bool, subst}
use Rattle.cb_history.specs.Facts.{entry_fields}
use Rattle.cb_history.specs.ReplayLaws.{call_of}
use Rattle.cb_replay.specs.CoreReplaying.{SaysAddedOnEach}
use Rattle.cb_replay.specs.Returning.{ReturningState, TakesOneMore}
use Rattle.cb_replay.proofs.Returns.{still_returning, takes_one_more}
use Rattle.cb_replay.proofs.returning.Returning.take.Goals as goal

pub invariant_of-result : goal.invariant_of-result
invariant_of-result c =
    let old : ReturningState = record { core = c.self.inside.core; taken = c.self.inside.taken } in
    let new : ReturningState = record { core = c.replay_entry.new.core; taken = c.in-Some.number } in
    let before = c.args.events.now.items in
    let after = c.replay_entry.new.events.items in
    let e = entry_fields c.args.entry.now in
    let adds = subst (λ (b : Bool). SaysAddedOnEach old.core new.core before after (call_of e) e b) c.if-not-branch.false c.in_ok-replay_entry.ensures in
    still_returning old new before after e c.self.invariant (takes_one_more old new before after e c.in-Some.ensures.1 adds)

pub returns-clause-taken : goal.returns-clause-taken
returns-clause-taken c =
    let old : ReturningState = record { core = c.self.inside.core; taken = c.self.inside.taken } in
    let new : ReturningState = record { core = c.replay_entry.new.core; taken = c.in-Some.number } in
    let before = c.args.events.now.items in
    let after = c.replay_entry.new.events.items in
    let e = entry_fields c.args.entry.now in
    let adds = subst (λ (b : Bool). SaysAddedOnEach old.core new.core before after (call_of e) e b) c.if-not-branch.false c.in_ok-replay_entry.ensures in
    let takes : TakesOneMore old new before after e = takes_one_more old new before after e c.in-Some.ensures.1 adds in
    rw (← c.self.view_is) takes
