use Rattle.std.specs.Prelude.{slice_get}
use Rattle.std.proofs.Common.{◌≡◌, ℕ, ◌<◌, Some}
use Rattle.cb_causality.specs.declared.event.CausalEvent.{CausalEvent}
use Rattle.cb_causality.proofs.Deliverable.{IsPassed}
use Rattle.cb_causality.proofs.causal.cast_with_past.Given as goal

-- the receiver has each message so far, and none of these events is the cast that is looked for
abbrev pub invariant-loop-event : goal.invariant-loop-event
invariant-loop-event l =
    (k : ℕ) (e : CausalEvent) → k < l.event-index → slice_get l.caster k ≡ Some e → IsPassed l.receiver l.name e
