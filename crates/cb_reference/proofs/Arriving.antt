-- What was done with a frame, as the answer to it.
use Rattle.std.proofs.Common.{◌≡◌, ◌<◌, true, false, List, [], length, None, Ok, Result, ℕ, refl, ap, sym, ◌∙◌}
use Rattle.cb_frames.specs.Fields.{FrameFields}
use Rattle.cb_history.specs.declared.answer.ArriveRefusal.{ArriveRefusal}
use Rattle.cb_history.specs.declared.answer.Outgoing.{Outgoing}
use Rattle.cb_history.specs.Answers.{arrival_says, deliveries, ArrivalSays, Accepted}
use Rattle.cb_history.specs.Legal.{arrive_entry}
use Rattle.cb_history.specs.State.{MemberState, facts_in}
use Rattle.cb_reference.specs.declared.arrival.Accepting.{Accepting}
use Rattle.cb_reference.specs.Arrivals.{IsAccepting, TakesFrame}

-- a frame that changes the state
pub taken_accepts : (m : MemberState) (bytes : List ℕ) (frame : FrameFields) (answer : Result ArrivalSays ArriveRefusal) (a : Accepting)
    → answer ≡ Ok (Accepted (deliveries m.seat (facts_in m) frame) true []) → length m.entries < m.limit → TakesFrame m bytes frame a → IsAccepting m bytes answer a
taken_accepts m bytes frame answer a is room taken = record {
  says = is ∙ ap (λ (s : ArrivalSays). Ok s) (sym taken.says);
  adds = taken.adds ∙ sym (ap (λ (r : Result ArrivalSays ArriveRefusal). arrive_entry bytes r) is);
  room = λ some. room;
}

-- and one that does not
pub unchanged_accepts : (m : MemberState) (bytes : List ℕ) (out : List Outgoing) (answer : Result ArrivalSays ArriveRefusal) (a : Accepting)
    → answer ≡ Ok (Accepted [] false out) → arrival_says a.arrival ≡ Accepted [] false out → a.entry ≡ None → IsAccepting m bytes answer a
unchanged_accepts m bytes out answer a is says none = record {
  says = is ∙ ap (λ (s : ArrivalSays). Ok s) (sym says);
  adds = rw (none, is) refl;
  room = rw none (λ some. absurd cc);
}
