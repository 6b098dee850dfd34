-- What one more fact does to the events of a member, and to what is ready.
use Rattle.std.specs.Prelude.{◌≡◌, ◌≤◌, true, false, List, [], ◌∷◌, ◌++◌, map}
use Rattle.cb_frames.specs.Fields.{CastFields, CastFrame, Carried, messages_of, first_number, last_number}
use Rattle.cb_delay.specs.declared.message.Message.{Message}
use Rattle.cb_delay.specs.declared.message.Event.{Event}
use Rattle.cb_delay.specs.declared.message.Event.TheVariants.{Cast, Deliver}
use Rattle.cb_diffs.specs.Expansion.{expanded_field}
use Rattle.cb_history.specs.Group.{Identity}
use Rattle.cb_history.specs.Facts.{Fact, OwnCast, CastReceived, StatusReceived, OwnStatus, casts_in, messages_in}
use Rattle.cb_history.specs.View.{expanded_in, is_ready, view, message_in}
use Rattle.cb_history.specs.Answers.{own_casts, deliveries}
use Rattle.cb_history.specs.Events.{events}
use Rattle.cb_history.specs.LegalFacts.{AreFactsOf}
use Rattle.cb_history.specs.NameLaws.{IsOneOf}

-- the events that one more fact makes: an own cast is cast, by a received cast its deliveries are made, a status makes none
abbrev pub new_events : Identity → List Fact → Fact → List Event
new_events seat facts (OwnCast c) = map (λ m. Cast (message_in seat.group.size (casts_in facts ++ c ∷ []) m)) (messages_of c)
new_events seat facts (CastReceived c) = map (λ message. Deliver message) (deliveries seat facts (CastFrame c))
new_events seat facts (StatusReceived s) = []
new_events seat facts (OwnStatus s) = []

-- one more fact appends the events that it makes, and earlier events stay as they were, times and all
abbrev pub EventsWithOneMore : Type 0
EventsWithOneMore =
    (seat : Identity) (facts : List Fact) (f : Fact) → AreFactsOf seat (facts ++ f ∷ [])
    → events seat (facts ++ f ∷ []) ≡ events seat facts ++ new_events seat facts f

-- a message without its time
abbrev pub carried_in : Message → Carried
carried_in message =
    record { sender = message.name.sender; number = message.name.number; payload = message.payload }

-- the messages that are cast, in order
abbrev pub casts_among : List Event → List Carried
casts_among [] = []
casts_among (Cast message ∷ events) = carried_in message ∷ casts_among events
casts_among (Deliver message ∷ events) = casts_among events

-- the cast events are the messages of the own casts, one after the other
abbrev pub EventsCastTheOwn : Type 0
EventsCastTheOwn =
    (seat : Identity) (facts : List Fact) → AreFactsOf seat facts → casts_among (events seat facts) ≡ messages_in (own_casts facts)

-- What an own cast makes ready waited for it: its time has, at the field of the member itself, a number of that cast.
abbrev pub OwnCastMakesReady : Type 0
OwnCastMakesReady =
    (seat : Identity) (facts : List Fact) (c : CastFields) (m : Carried) → AreFactsOf seat (facts ++ OwnCast c ∷ [])
    → IsOneOf m (expanded_in (casts_in facts)) → is_ready seat.group.size (casts_in facts) (view seat.group.size facts) m ≡ false
    → is_ready seat.group.size (casts_in (facts ++ OwnCast c ∷ [])) (view seat.group.size (facts ++ OwnCast c ∷ [])) m ≡ true
    → (first_number c ≤ expanded_field (casts_in facts) m.sender m.number seat.me)
    × (expanded_field (casts_in facts) m.sender m.number seat.me ≤ last_number c)
