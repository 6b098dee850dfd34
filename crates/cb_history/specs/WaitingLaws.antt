-- What the facts of a member do to the messages that wait in a delay queue.
use Rattle.std.specs.Prelude.{◌≡◌, ℕ, ◌+◌, ◌<◌, ◌≤◌, ◌↔◌, true, List, [], ◌∷◌, ◌++◌}
use Rattle.std.specs.FinMap as fin
use Rattle.cb_frames.specs.Fields.{CastFields, StatusFields, Carried}
use Rattle.cb_delay.specs.declared.message.Message.{Message}
use Rattle.cb_delay.specs.Message.{IsOfGroup}
use Rattle.cb_delay.specs.Queue.{Queue, Holds, IsHeld, FollowsLast, IsDelayQueue, count_of}
use Rattle.cb_history.specs.Group.{Identity}
use Rattle.cb_history.specs.Facts.{Fact, OwnCast, CastReceived, StatusReceived, OwnStatus, casts_in, messages_in}
use Rattle.cb_history.specs.View.{count, is_expanded, view, message_in}
use Rattle.cb_history.specs.Known.{expanded_count}
use Rattle.cb_history.specs.NameLaws.{IsOneOf}
use Rattle.cb_history.specs.LegalFacts.{AreFactsOf}
use Rattle.cb_history.specs.DeliveryLaws.{IsOnTheWay}
use Rattle.cb_history.specs.QueueLaws.{IsUndelivered, HoldsUndelivered}

-- the queue holds what is expanded of the member's casts and not in its view
abbrev pub HoldsWaiting : Identity → List Fact → Queue → Type 0
HoldsWaiting seat facts queue = HoldsUndelivered seat.group.size (casts_in facts) (view seat.group.size facts) queue

-- an own cast leaves it so, and so does a status, an own or a received one
abbrev pub OwnFactsLeaveWaiting : Type 0
OwnFactsLeaveWaiting =
    (seat : Identity) (facts : List Fact) (queue : Queue) → HoldsWaiting seat facts queue
    → ((c : CastFields) → AreFactsOf seat (facts ++ OwnCast c ∷ []) → HoldsWaiting seat (facts ++ OwnCast c ∷ []) queue)
    × ((s : StatusFields) → HoldsWaiting seat (facts ++ StatusReceived s ∷ []) queue)
    × ((s : StatusFields) → HoldsWaiting seat (facts ++ OwnStatus s ∷ []) queue)

-- ---- a received cast, while its sender's casts are taken one after the other

-- undelivered, and of sender i up to this number
pub record IsTakenOf (size : ℕ) (casts : List CastFields) (seen : List Carried) (i taken : ℕ) (message : Message) : Type 0 where
  pub undelivered : IsUndelivered size casts seen message
  pub upto : message.name.sender ≡ i → message.name.number ≤ taken

-- the queue holds just these: of sender i not all that is expanded yet
pub record HoldsTakenOf (size : ℕ) (casts : List CastFields) (seen : List Carried) (i taken : ℕ) (queue : Queue) : Type 0 where
  pub of_size : queue.size ≡ size
  pub holds : (message : Message) → IsHeld queue message ↔ IsTakenOf size casts seen i taken message

-- with one more received cast it holds of its sender what was expanded before
abbrev pub CastWaitsForItsTurn : Type 0
CastWaitsForItsTurn =
    (seat : Identity) (facts : List Fact) (c : CastFields) (queue : Queue) → AreFactsOf seat (facts ++ CastReceived c ∷ [])
    → HoldsWaiting seat facts queue
    → HoldsTakenOf seat.group.size (casts_in (facts ++ CastReceived c ∷ [])) (view seat.group.size facts) c.sender
    (expanded_count (casts_in facts) c.sender) queue

-- the sender's next message behind those that were taken, which are at least those seen; it is expanded and within the window
pub record IsNextTaken (size window : ℕ) (casts : List CastFields) (seen : List Carried) (taken : ℕ) (m : Carried) : Type 0 where
  pub there : IsOneOf m (messages_in casts)
  pub expanded : is_expanded casts m ≡ true
  pub next : m.number ≡ taken + 1
  pub seen_before : count seen m.sender ≤ taken
  pub near : m.number ≤ count seen m.sender + window

-- a queue of the group and its window can hold it next
abbrev pub NextTakenCanBeHeld : Type 0
NextTakenCanBeHeld =
    (size window : ℕ) (casts : List CastFields) (seen : List Carried) (taken : ℕ) (m : Carried) (queue : Queue)
    → IsOnTheWay size casts seen → IsDelayQueue queue → queue.window ≡ window → IsNextTaken size window casts seen taken m
    → HoldsTakenOf size casts seen m.sender taken queue
    → IsOfGroup queue.size (message_in size casts m) × (count_of queue m.sender < queue.window)
    × FollowsLast queue (record { sender = m.sender; number = m.number })

-- and then holds one more of what was taken
abbrev pub HoldingTakesOneMore : Type 0
HoldingTakesOneMore =
    (size window : ℕ) (casts : List CastFields) (seen : List Carried) (taken : ℕ) (m : Carried) (old new : Queue)
    → IsOnTheWay size casts seen → IsNextTaken size window casts seen taken m → HoldsTakenOf size casts seen m.sender taken old
    → Holds old new (fin.insert old.held (record { sender = m.sender; number = m.number }) (message_in size casts m))
    → HoldsTakenOf size casts seen m.sender (taken + 1) new

-- where all that is expanded of the sender was taken, it holds what is undelivered
abbrev pub AllTakenIsWaiting : Type 0
AllTakenIsWaiting =
    (size : ℕ) (casts : List CastFields) (seen : List Carried) (i : ℕ) (queue : Queue)
    → HoldsTakenOf size casts seen i (expanded_count casts i) queue → HoldsUndelivered size casts seen queue
