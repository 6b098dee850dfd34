use Rattle.std.specs.Prelude.{slice_get}
use Rattle.std.proofs.Common.{◌≡◌, ◌≢◌, ℕ, ◌<◌, Some}
use Rattle.cb_delay.specs.declared.message.Message.{Message}
use Rattle.cb_delay.specs.declared.message.Event.TheVariants.{Cast}
use Rattle.cb_causality.proofs.stamped.cast_of.Given as goal

-- no event so far is a cast of this name
abbrev pub invariant-loop-event : goal.invariant-loop-event
invariant-loop-event l =
    (k : ℕ) (message : Message) → k < l.event-index → slice_get l.events k ≡ Some (Cast message) → message.name ≢ l.name
