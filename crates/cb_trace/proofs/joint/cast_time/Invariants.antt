use Rattle.std.proofs.Common.{◌≡◌, ◌≢◌, ℕ, ◌<◌, Some}
use Rattle.std.specs.Prelude.{slice_get}
use Rattle.cb_delay.specs.declared.message.Message.{Message}
use Rattle.cb_delay.specs.declared.message.Event.TheVariants.{Cast}
use Rattle.cb_trace.proofs.joint.cast_time.Given as goal

-- none of the events so far is the cast
abbrev pub invariant-loop-event : goal.invariant-loop-event
invariant-loop-event l = (index : ℕ) (message : Message) → index < l.event-index → slice_get l.events index ≡ Some (Cast message) → message.name ≢ l.name
