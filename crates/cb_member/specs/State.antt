-- What a member keeps of its history, and what each part is of the facts in it.
use Rattle.std.specs.Prelude.{◌≡◌, List, []}
use Rattle.cb_history.specs.Group.{Identity}
use Rattle.cb_history.specs.Facts.{Fact, casts_in}
use Rattle.cb_history.specs.LegalFacts.{AreFactsOf}
use Rattle.cb_history.specs.View.{view}
use Rattle.cb_member.specs.declared.delivery.Delivery.{Delivery}
use Rattle.cb_member.specs.declared.state.State.{State}
use Rattle.cb_member.specs.Delivery.{IsNewDelivery, IsSettled, Waits}
use Rattle.cb_member.specs.Reception as reception
use Rattle.cb_member.specs.Reception.{IsNewReception, HasReceivedAll}
use Rattle.cb_member.specs.Knowledge.{IsNewKnowledge, KnowsFacts}
use Rattle.cb_member.specs.Sending.{IsNewSending, HasSent}
use Rattle.cb_member.specs.Relaying.{KeepsAllRelays}

-- the view is delivered, and what else is expanded waits
pub record HasDelivered (seat : Identity) (facts : List Fact) (d : Delivery) : Type 0 where
  pub waits : Waits seat.group.size (casts_in facts) (view seat.group.size facts) d
  pub window : d.queue.window ≡ seat.group.window

-- all that is kept is what these facts say
pub record Keeps (facts : List Fact) (state : State) : Type 0 where
  pub delivered : HasDelivered state.seat facts state.delivery
  pub received : HasReceivedAll state.seat facts state.reception
  pub knows : KnowsFacts state.seat facts state.knowledge
  pub sent : HasSent state.seat facts state.sending
  pub relayed : KeepsAllRelays state.seat facts state.relays.items

-- it is what some facts say that a member may have
pub record IsState (state : State) : Type 0 where
  pub facts : List Fact
  pub legal : AreFactsOf state.seat facts
  pub keeps : Keeps facts state

-- so it is of all facts that the state may stand for
abbrev pub OnAll : State → (List Fact → Type 0) → Type 0
OnAll state P = (facts : List Fact) → AreFactsOf state.seat facts → Keeps facts state → P facts

-- a member of this seat that did nothing yet
pub record IsNewState (seat : Identity) (state : State) : Type 0 where
  pub of_seat : state.seat ≡ seat
  pub delivery : IsNewDelivery seat.group.size seat.group.window state.delivery
  pub reception : IsNewReception seat.group.size seat.group.window state.reception
  pub knowledge : IsNewKnowledge seat.group.size state.knowledge
  pub sending : IsNewSending seat.group.size seat.group.window state.sending
  pub relays : KeepsAllRelays seat [] state.relays.items

-- nothing has changed but how much room there is, and what the delay queue remembers of its last answer
pub record IsAlike (old new : State) : Type 0 where
  pub seat : new.seat ≡ old.seat
  pub delivery : IsSettled old.delivery new.delivery
  pub reception : reception.IsAlike old.reception new.reception
  pub knowledge : new.knowledge ≡ old.knowledge
  pub sending : new.sending ≡ old.sending
  pub relays : new.relays.items ≡ old.relays.items
