-- What a cast of another member does, up to but not with the deliveries: its singles wait in its sender's buffer, and as long as the
-- sender's next one is there, that one is taken out, its time is computed, and it waits for the delay rule.
use Rattle.std.specs.Prelude.{◌≡◌, ◌≢◌, ℕ, ◌+◌, ◌-◌, ◌<◌, ◌≤◌, ◌==◌, true, List, [], ◌∷◌, ◌++◌, length, map, max, Some, slice_get, slice_set, if◌then◌else◌}
use Rattle.std.specs.FinMap as fin
use Rattle.cb_times.specs.Order.{field}
use Rattle.cb_frames.specs.Fields.{load_bytes, CastFields, Carried, first_number, last_number}
use Rattle.cb_delay.specs.declared.message.Message.{Message}
use Rattle.cb_delay.specs.Message.{IsOfGroup}
use Rattle.cb_delay.specs.Queue.{Queue, IsDelayQueue, FollowsLast, count_of}
use Rattle.cb_diffs.specs.Expansion.{expanded_field, Expands}
use Rattle.cb_gaps.specs.declared.buffer.Admission.TheVariants.{Kept}
use Rattle.cb_gaps.specs.Buffer.{Buffer, Admits}
use Rattle.cb_history.specs.Group.{Identity}
use Rattle.cb_history.specs.Facts.{Fact, CastReceived, casts_in, messages_in, numbers_between}
use Rattle.cb_history.specs.View.{is_expanded, view, message_in}
use Rattle.cb_history.specs.Known.{greatest_of, known, expanded_count}
use Rattle.cb_history.specs.NameLaws.{IsOneOf}
use Rattle.cb_history.specs.LegalFacts.{AreFactsOf}
use Rattle.cb_history.specs.WaitingLaws.{HoldsTakenOf}
use Rattle.cb_member.specs.declared.knowledge.Knowledge.{Knowledge}
use Rattle.cb_member.specs.declared.reception.Reception.{Reception}
use Rattle.cb_member.specs.declared.state.State.{State}
use Rattle.cb_member.specs.Delivery.{Waits}
use Rattle.cb_member.specs.Reception.{HasReceived, HasReceivedAll, HasPlaceFor}
use Rattle.cb_member.specs.Singles.{AreSparesFor}
use Rattle.cb_member.specs.State.{Keeps}

-- ---- the cast is kept

-- its sender's buffer lacks each message of the cast and keeps them where so many are delivered
pub record CanKeep (delivered : ℕ) (c : CastFields) (r : Reception) : Type 0 where
  pub buffer : Buffer
  pub at : slice_get r.buffers.items c.sender ≡ Some buffer
  pub upto_taken : delivered ≤ buffer.taken
  pub is_kept : Admits buffer delivered (first_number c) (last_number c) Kept

-- with the cast among the facts just as much of them was taken as before, where there was a spare for each of its messages
abbrev pub KeepsCast : CastFields → List (List ℕ) → Reception → Reception → Type 0
KeepsCast c spares old new =
    (seat : Identity) (facts : List Fact) → AreFactsOf seat (facts ++ CastReceived c ∷ [])
    → HasReceivedAll seat facts old → AreSparesFor c seat.group.size spares
    → HasReceived seat (facts ++ CastReceived c ∷ []) (expanded_count (casts_in facts)) new

-- the greatest number that was heard of this sender is at least this one, and nothing else has changed
pub record Hears (sender number : ℕ) (old new : Knowledge) : Type 0 where
  pub known : new.known ≡ slice_set old.known sender (max (field old.known sender) number)
  pub acks : new.acks ≡ old.acks

-- were a cast with the numbers first to last there as well, so many more of the sender's messages would be expanded
abbrev pub WouldExpand : ℕ → ℕ → ℕ → Reception → ℕ → Type 0
WouldExpand sender first last r more =
    (seat : Identity) (facts : List Fact) (c : CastFields) → AreFactsOf seat (facts ++ CastReceived c ∷ [])
    → c.sender ≡ sender → first_number c ≡ first → last_number c ≡ last → HasReceivedAll seat facts r
    → expanded_count (casts_in (facts ++ CastReceived c ∷ [])) sender ≡ expanded_count (casts_in facts) sender + more

-- ---- the sender's next single is taken out

-- of the sender one more is taken
abbrev pub one_more : (ℕ → ℕ) → ℕ → ℕ → ℕ
one_more taken sender i = if i == sender then taken i + 1 else taken i

-- so much of some facts was received, of which the sender is another member
pub record IsReceiving (sender : ℕ) (r : Reception) : Type 0 where
  pub seat : Identity
  pub facts : List Fact
  pub taken : ℕ → ℕ
  pub legal : AreFactsOf seat facts
  pub member : sender < seat.group.size
  pub other : sender ≢ seat.me
  pub received : HasReceived seat facts taken r

-- the message behind so many of its sender, which is expanded
pub record IsNextOf (casts : List CastFields) (sender taken : ℕ) (m : Carried) : Type 0 where
  pub there : IsOneOf m (messages_in casts)
  pub expanded : is_expanded casts m ≡ true
  pub of_sender : m.sender ≡ sender
  pub next : m.number ≡ taken + 1

-- that message, and then one more was taken of these facts
pub record IsNextMessage (seat : Identity) (facts : List Fact) (sender : ℕ) (taken : ℕ → ℕ) (new : Reception)
    (message : Message) : Type 0 where
  pub carried : Carried
  pub next : IsNextOf (casts_in facts) sender (taken sender) carried
  pub message_is : message ≡ message_in seat.group.size (casts_in facts) carried
  pub received : HasReceived seat facts (one_more taken sender) new

-- so it is on all facts of which it received so much
abbrev pub ExpandsNext : ℕ → Reception → Reception → Message → Type 0
ExpandsNext sender old new message =
    (seat : Identity) (facts : List Fact) (taken : ℕ → ℕ) → AreFactsOf seat facts → sender ≢ seat.me
    → HasReceived seat facts taken old → IsNextMessage seat facts sender taken new message

-- all that is expanded of the sender was taken, and nothing has changed
abbrev pub HasNoNextOf : ℕ → Reception → Reception → Type 0
HasNoNextOf sender old new =
    (seat : Identity) (facts : List Fact) (taken : ℕ → ℕ) → AreFactsOf seat facts → sender ≢ seat.me
    → HasReceived seat facts taken old
    → (taken sender ≡ expanded_count (casts_in facts) sender) × HasReceived seat facts taken new

-- the message of a single at this time, with this payload
abbrev pub reported : CastFields → List ℕ → List ℕ → Message
reported c time payload = record { name = record { sender = c.sender; number = first_number c }; time = time; payload = payload }

-- the single was expanded, and the message has the time that was computed
pub record Tells (c : CastFields) (old new : List (List ℕ)) (message : Message) : Type 0 where
  pub time : List ℕ
  pub expands : Expands old c time new
  pub message_is : message ≡ reported c time (load_bytes c.load)

-- ---- as long as there is a next one

-- of the sender of the cast so many were taken, of the others all that is expanded
abbrev pub taken_with : List Fact → CastFields → ℕ → ℕ → ℕ
taken_with facts c taken i = if i == c.sender then taken else expanded_count (casts_in facts) i

-- what is known of sender i by the cast's last number, and by the times of what was taken
abbrev pub heard_with : List Fact → CastFields → ℕ → ℕ → ℕ
heard_with facts c taken i =
    max (max (known facts i) (if c.sender == i then last_number c else 0))
    (greatest_of (map (λ n. expanded_field (casts_in facts ++ c ∷ []) c.sender n i)
    (numbers_between (expanded_count (casts_in facts) c.sender) taken)))

-- with the cast among the facts the queue holds what is undelivered, of the cast's sender up to so many
abbrev pub HoldsSoMany : Identity → List Fact → CastFields → ℕ → Queue → Type 0
HoldsSoMany seat facts c taken queue =
    HoldsTakenOf seat.group.size (casts_in (facts ++ CastReceived c ∷ [])) (view seat.group.size facts) c.sender taken queue

-- with the cast among the facts so many of its sender are taken, expanded and held
pub record TakesIn (facts : List Fact) (c : CastFields) (taken : ℕ) (state : State) : Type 0 where
  pub legal : AreFactsOf state.seat (facts ++ CastReceived c ∷ [])
  pub at_least : expanded_count (casts_in facts) c.sender ≤ taken
  pub received : HasReceived state.seat (facts ++ CastReceived c ∷ []) (taken_with facts c taken) state.reception
  pub queue : HoldsSoMany state.seat facts c taken state.delivery.queue
  pub window : state.delivery.queue.window ≡ state.seat.group.window
  pub fields : length state.knowledge.known ≡ state.seat.group.size
  pub heard : (i : ℕ) → i < state.seat.group.size → i ≢ state.seat.me → field state.knowledge.known i ≡ heard_with facts c taken i

-- a cast of this sender is taken in
pub record IsTakingIn (sender : ℕ) (state : State) : Type 0 where
  pub facts : List Fact
  pub cast : CastFields
  pub taken : ℕ
  pub of_sender : cast.sender ≡ sender
  pub takes : TakesIn facts cast taken state

-- the deliveries so far, what was sent, what is acknowledged and what may be handed on are as they were
pub record OnlyTakesIn (old new : State) : Type 0 where
  pub seat : new.seat ≡ old.seat
  pub time : new.delivery.time ≡ old.delivery.time
  pub acks : new.knowledge.acks ≡ old.knowledge.acks
  pub sending : new.sending ≡ old.sending
  pub relays : new.relays ≡ old.relays

-- the queue, which is one that keeps what every delay queue does, can hold the message next
abbrev pub HasTurn : Queue → Message → Type 0
HasTurn queue message =
    IsDelayQueue queue
    → IsOfGroup queue.size message × (count_of queue message.name.sender < queue.window) × FollowsLast queue message.name

-- this many more messages are held
abbrev pub HoldsMore : ℕ → State → State → Type 0
HoldsMore count old new = fin.len new.delivery.queue.held ≡ fin.len old.delivery.queue.held + count

-- no fewer are taken than were, and so many more are held
pub record TakesSome (facts : List Fact) (c : CastFields) (taken : ℕ) (old new : State) : Type 0 where
  pub now_taken : ℕ
  pub no_fewer : taken ≤ now_taken
  pub takes : TakesIn facts c now_taken new
  pub held : HoldsMore (now_taken - taken) old new

abbrev pub TakesSoFar : ℕ → State → State → Type 0
TakesSoFar sender old new =
    (facts : List Fact) (c : CastFields) (taken : ℕ) → c.sender ≡ sender
    → TakesIn facts c taken old → TakesSome facts c taken old new

-- all that the cast lets be expanded was taken
pub record TakesAllOf (facts : List Fact) (c : CastFields) (taken : ℕ) (old new : State) : Type 0 where
  pub takes : TakesIn facts c (expanded_count (casts_in (facts ++ CastReceived c ∷ [])) c.sender) new
  pub held : HoldsMore (expanded_count (casts_in (facts ++ CastReceived c ∷ [])) c.sender - taken) old new

abbrev pub TakesAll : ℕ → State → State → Type 0
TakesAll sender old new =
    (facts : List Fact) (c : CastFields) (taken : ℕ) → c.sender ≡ sender
    → TakesIn facts c taken old → TakesAllOf facts c taken old new

-- ---- the whole

-- the state keeps what some facts say, which the cast may follow, and its sender's buffer can keep it
pub record CanFollow (c : CastFields) (state : State) : Type 0 where
  pub facts : List Fact
  pub legal : AreFactsOf state.seat (facts ++ CastReceived c ∷ [])
  pub keeps : Keeps facts state
  pub can_keep : CanKeep (field state.delivery.time c.sender) c state.reception

-- and there is a spare for each of its messages, and place for them
pub record CanTakeIn (c : CastFields) (spares : List (List ℕ)) (state : State) : Type 0 where
  pub can : CanFollow c state
  pub spares_are : AreSparesFor c state.seat.group.size spares
  pub place : HasPlaceFor c.sender (length spares) state.reception

-- With the cast among the facts, but nothing delivered by it: it is received, what is expanded waits, and what it says is known.
pub record HasTakenIn (facts : List Fact) (c : CastFields) (old new : State) : Type 0 where
  pub received : HasReceivedAll old.seat (facts ++ CastReceived c ∷ []) new.reception
  pub waits : Waits old.seat.group.size (casts_in (facts ++ CastReceived c ∷ [])) (view old.seat.group.size facts) new.delivery
  pub window : new.delivery.queue.window ≡ old.seat.group.window
  pub fields : length new.knowledge.known ≡ old.seat.group.size
  pub heard : (i : ℕ) → i < old.seat.group.size → i ≢ old.seat.me → field new.knowledge.known i ≡ known (facts ++ CastReceived c ∷ []) i
  pub held : HoldsMore (expanded_count (casts_in (facts ++ CastReceived c ∷ [])) c.sender - expanded_count (casts_in facts) c.sender) old new

-- so it is on all facts that the state kept
pub record TakesInCast (c : CastFields) (old new : State) : Type 0 where
  pub takes_in : (facts : List Fact) → AreFactsOf old.seat (facts ++ CastReceived c ∷ []) → Keeps facts old → HasTakenIn facts c old new
  pub only : OnlyTakesIn old new
