use Rattle.std.proofs.Common.{refl, arith, length}
use Rattle.std.proofs.lemmas.Bool.{false≢true}
use Rattle.std.proofs.lemmas.Option.{slice_get_read}
use Rattle.cb_causality.proofs.GroupLists.{each_more}
use Rattle.cb_causality.proofs.Deliverable.{IsPassed, past_found, missing_in_past, never_cast}
use Rattle.cb_causality.proofs.causal.cast_with_past.Goals as goal

pub returns-then-is_cast_of-clause-found : goal.returns-then-is_cast_of-clause-found
returns-then-is_cast_of-clause-found c =
    let at : _ = slice_get_read c.args.caster.now (length c.args.caster.now) c.loop-event.event-index c.event-item.result refl c.loop-event-test.true c.event-item.is in
    rw c.payload.ensures
    (past_found c.args.caster.now c.args.receiver.now c.args.name c.loop-event.event-index c.event-item.result at
    (c.is_cast_of.ensures.0 c.if-is_cast_of.true) (λ had. false≢true (c.if-has.ensures.1 had)) c.loop-event.invariant)

pub returns-then-not-has-clause-missing : goal.returns-then-not-has-clause-missing
returns-then-not-has-clause-missing c =
    λ none payload h.
    let at : _ = slice_get_read c.args.caster.now (length c.args.caster.now) c.loop-event.event-index c.event-item.result refl c.loop-event-test.true c.event-item.is in
    missing_in_past c.args.caster.now c.args.receiver.now c.args.name c.loop-event.event-index c.event-item.result at
    (λ had. false≢true (c.if-not-has.ensures.1 (rw c.name.ensures had)))
    (λ is. false≢true (c.if-is_cast_of.ensures.1 is))
    c.loop-event.invariant payload h

pub loop-event-preserved : goal.loop-event-preserved
loop-event-preserved c =
    let at : _ = slice_get_read c.args.caster.now (length c.args.caster.now) c.loop-event.event-index c.event-item.result refl c.loop-event-test.true c.event-item.is in
    each_more (IsPassed c.args.receiver.now c.args.name) c.args.caster.now c.loop-event.event-index c.event-item.result at (
      (rw c.name.ensures at (c.has-in-loop-event.ensures.0 c.if-not-has.false)),
      (λ is. false≢true (c.if-is_cast_of.ensures.1 is)),
    )
    c.loop-event.invariant

pub returns-clause-missing : goal.returns-clause-missing
returns-clause-missing c =
    λ none payload h. never_cast c.args.caster.now c.args.receiver.now c.args.name c.loop-event.event-index (omega arith) c.loop-event.invariant payload h
