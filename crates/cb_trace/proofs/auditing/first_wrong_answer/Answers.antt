use Rattle.std.proofs.Common.{map, subst}
use Rattle.cb_history.specs.Facts.{entry_fields}
use Rattle.cb_trace.specs.Auditing.{seat_of}
use Rattle.cb_trace.specs.Replaying.{SaysFirstWrong}
use Rattle.cb_trace.proofs.Audited.{me_inside, legal_more, wrong_here}
use Rattle.cb_trace.proofs.auditing.first_wrong_answer.Goals as goal

pub first_wrong-requires : goal.first_wrong-requires
first_wrong-requires c = me_inside c.args.group c.args.histories.now c.requires c.loop-history.history-index c.history-item.result c.loop-history-test.true c.history-item.is

pub returns-in-Some : goal.returns-in-Some
returns-in-Some c =
    wrong_here c.args.group c.args.histories.now c.requires c.loop-history.history-index c.history-item.result c.loop-history-test.true c.history-item.is c.in-Some.entry c.loop-history.invariant
    (subst (SaysFirstWrong (seat_of c.history-item.result.group c.history-item.result.me) (map entry_fields c.history-item.result.entries.items)) c.in-Some.is c.in_ok-entry.ensures)

pub loop-history-preserved : goal.loop-history-preserved
loop-history-preserved c =
    legal_more c.args.group c.args.histories.now c.requires c.loop-history.history-index c.history-item.result c.loop-history-test.true c.history-item.is c.loop-history.invariant
    (subst (SaysFirstWrong (seat_of c.history-item.result.group c.history-item.result.me) (map entry_fields c.history-item.result.entries.items)) c.in_default.is c.in_ok-entry.ensures)
