-- A member that keeps no history: what it knows, which histories it stands for, and what a call makes of that.
use Rattle.std.specs.Prelude.{◌≡◌, ℕ, Bool, List, refl}
use Rattle.std.specs.Coded.{Coded, code_by, coded×, coded_bool, coded_list, coded_ℕ}
use Rattle.std.specs.FinMap as fin
use Rattle.cb_delay.specs.declared.message.Message.{Message}
use Rattle.cb_delay.specs.Message.{name_cmp}
use Rattle.cb_delay.specs.Queue.{message_code, name_code}
use Rattle.cb_gaps.specs.Buffer.{Buffer, buffer_code}
use Rattle.cb_stability.specs.Known.{Known, known_code}
use Rattle.cb_stability.specs.Relays.{Relayed, relayed_code}
use Rattle.cb_stability.specs.Sent.{Sent, sent_code}
use Rattle.cb_history.specs.Group.{Identity, identity_code}
use Rattle.cb_history.specs.Facts.{EntryFields, facts_of}
use Rattle.cb_history.specs.Legal.{AreEntriesOf, Call, history_after, room_for_one}
use Rattle.cb_history.specs.State.{MemberState}
use Rattle.cb_member.specs.declared.state.State.{State}
use Rattle.cb_member.specs.Reception.{spares_in}
use Rattle.cb_member.specs.State.{Keeps}

-- All that a core knows: the member; how many messages of each member are delivered; what waits for the delay rule, and for how many of
-- which group there is room; the casts that wait for those before them, the times of those that don't, and the times to write over; what
-- was heard of, and what is acknowledged; the own casts that are not stable, the time of the last one, whether a status was sent, and the
-- time that the last one said; and of each other member what may be handed on.
pub record Core : Type 0 where
  pub seat : Identity
  pub time : List ℕ
  pub size : ℕ
  pub width : ℕ
  pub waiting : fin.FinMap name_cmp Message
  pub buffers : List Buffer
  pub expanded : List (List ℕ)
  pub spares : List (List (List ℕ))
  pub heard : List ℕ
  pub acknowledged : Known
  pub sent : Sent
  pub last_cast : List ℕ
  pub has_reported : Bool
  pub last_reported : List ℕ
  pub relays : List Relayed

-- what a state knows, without how much room there is in memory
abbrev pub core_of : State → Core
core_of state = record {
  seat = state.seat;
  time = state.delivery.time;
  size = state.delivery.queue.size;
  width = state.delivery.queue.window;
  waiting = state.delivery.queue.held;
  buffers = state.reception.buffers.items;
  expanded = state.reception.expander;
  spares = spares_in state.reception;
  heard = state.knowledge.known;
  acknowledged = state.knowledge.acks;
  sent = state.sending.window;
  last_cast = state.sending.last_cast;
  has_reported = state.sending.has_reported;
  last_reported = state.sending.last_reported;
  relays = state.relays.items;
}

-- These entries are a member's, and what they say is what is known: it is what a state knows that keeps what they say.
pub record StandsFor (entries : List EntryFields) (core : Core) : Type 0 where
  pub legal : AreEntriesOf core.seat entries
  pub state : State
  pub keeps : Keeps (facts_of entries) state
  pub known : core_of state ≡ core

-- there is a history that it stands for
pub record IsCore (core : Core) : Type 0 where
  pub entries : List EntryFields
  pub stands : StandsFor entries core

-- the member whose history has these entries, and always room for one more
abbrev pub unlimited : Identity → List EntryFields → MemberState
unlimited seat entries = record { seat = seat; limit = room_for_one entries; entries = entries }

-- so it is of the member of each history that the core stands for
abbrev pub OnEach : Core → (MemberState → Type 0) → Type 0
OnEach core P = (entries : List EntryFields) → StandsFor entries core → P (unlimited core.seat entries)

-- a history after a call
abbrev pub grown_by : Identity → List EntryFields → Call → List EntryFields
grown_by seat entries call = history_after seat (room_for_one entries) entries call

-- whatever history it stood for, it stands for that history after the call
pub record GoesOn (call : Call) (old new : Core) : Type 0 where
  pub seat : new.seat ≡ old.seat
  pub stands : (entries : List EntryFields) → StandsFor entries old → StandsFor (grown_by old.seat entries call) new

-- ---- how it is stored: its fields as pairs

abbrev pub times_code : Coded (List (List ℕ))
times_code = coded_list (coded_list coded_ℕ)

-- what was sent, and what may be handed on
abbrev pub sending_code : Coded (Sent × (List ℕ × (Bool × (List ℕ × List Relayed))))
sending_code = coded× sent_code (coded× (coded_list coded_ℕ) (coded× coded_bool (coded× (coded_list coded_ℕ) (coded_list relayed_code))))

-- what was received, and what is known of the others
abbrev pub hearing_code : Coded (List Buffer × (List (List ℕ) × (List (List (List ℕ)) × (List ℕ × Known))))
hearing_code = coded× (coded_list buffer_code) (coded× times_code (coded× (coded_list times_code) (coded× (coded_list coded_ℕ) known_code)))

abbrev pub core_code : Coded Core
core_code =
    code_by (Identity × (List ℕ × (ℕ × (ℕ × (fin.FinMap name_cmp Message
    × ((List Buffer × (List (List ℕ) × (List (List (List ℕ)) × (List ℕ × Known)))) × (Sent × (List ℕ × (Bool × (List ℕ × List Relayed))))))))))
    (coded× identity_code (coded× (coded_list coded_ℕ) (coded× coded_ℕ (coded× coded_ℕ (coded× (fin.code name_code message_code) (coded× hearing_code sending_code))))))
    (λ c. (
      c.seat,
      (c.time, (c.size, (c.width, (c.waiting, ((c.buffers, (c.expanded, (c.spares, (c.heard, c.acknowledged)))), (c.sent, (c.last_cast, (c.has_reported, (c.last_reported, c.relays))))))))),
    ))
    (λ p. record {
      seat = p.0;
      time = p.1.0;
      size = p.1.1.0;
      width = p.1.1.1.0;
      waiting = p.1.1.1.1.0;
      buffers = p.1.1.1.1.1.0.0;
      expanded = p.1.1.1.1.1.0.1.0;
      spares = p.1.1.1.1.1.0.1.1.0;
      heard = p.1.1.1.1.1.0.1.1.1.0;
      acknowledged = p.1.1.1.1.1.0.1.1.1.1;
      sent = p.1.1.1.1.1.1.0;
      last_cast = p.1.1.1.1.1.1.1.0;
      has_reported = p.1.1.1.1.1.1.1.1.0;
      last_reported = p.1.1.1.1.1.1.1.1.1.0;
      relays = p.1.1.1.1.1.1.1.1.1.1;
    }) (λ _. refl)
