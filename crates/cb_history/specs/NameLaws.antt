-- The names, the order and the payloads of messages, in every legal history.
use Rattle.std.specs.Prelude.{◌≡◌, ◌≢◌, ℕ, ◌+◌, ◌≤◌, ◌↔◌, true, false, List, [], ◌∷◌, ◌++◌, length, ◌⊎◌}
use Rattle.cb_frames.specs.Fields.{first_number, last_number, CastFields, Carried}
use Rattle.cb_history.specs.Group.{Identity}
use Rattle.cb_history.specs.Facts.{Fact, OwnCast, CastReceived, StatusReceived, OwnStatus, casts_in, messages_in}
use Rattle.cb_history.specs.View.{count, is_among, view}
use Rattle.cb_history.specs.Answers.{own_casts, delivered}
use Rattle.cb_history.specs.LegalFacts.{AreFactsOf}

-- no two of these messages have one name
abbrev pub NamesDiffer : List Carried → Type 0
NamesDiffer [] = Unit {0}
NamesDiffer (m ∷ ms) = (is_among ms m ≡ false) × NamesDiffer ms

-- the number of each of these messages is one more than how many of its sender's stand before it
abbrev pub InOrderAfter : List Carried → List Carried → Type 0
InOrderAfter before [] = Unit {0}
InOrderAfter before (m ∷ ms) = (m.number ≡ count before m.sender + 1) × InOrderAfter (before ++ m ∷ []) ms

-- these casts are of the member, and their messages are numbered from n on
abbrev pub NumberedFrom : ℕ → ℕ → List CastFields → Type 0
NumberedFrom me n [] = Unit {0}
NumberedFrom me n (c ∷ casts) = (c.sender ≡ me) × (first_number c ≡ n) × NumberedFrom me (last_number c + 1) casts

-- no received cast is the member's own
abbrev pub ReceivedFromOthers : ℕ → List Fact → Type 0
ReceivedFromOthers me [] = Unit {0}
ReceivedFromOthers me (CastReceived c ∷ facts) = (c.sender ≢ me) × ReceivedFromOthers me facts
ReceivedFromOthers me (OwnCast c ∷ facts) = ReceivedFromOthers me facts
ReceivedFromOthers me (StatusReceived s ∷ facts) = ReceivedFromOthers me facts
ReceivedFromOthers me (OwnStatus s ∷ facts) = ReceivedFromOthers me facts

-- no two casts carry the same message
abbrev pub NamesStandOnce : Type 0
NamesStandOnce = (seat : Identity) (facts : List Fact) → AreFactsOf seat facts → NamesDiffer (messages_in (casts_in facts))

-- the messages of the member's own casts are numbered 1, 2, 3 and so on, as many as it has delivered of its own
abbrev pub OwnCastsAreNumbered : Type 0
OwnCastsAreNumbered = (seat : Identity) (facts : List Fact) → AreFactsOf seat facts → NumberedFrom seat.me 1 (own_casts facts) × (delivered seat facts seat.me ≡ length (messages_in (own_casts facts)))

-- the member's messages come from its own casts alone
abbrev pub OwnMessagesAreOwn : Type 0
OwnMessagesAreOwn = (seat : Identity) (facts : List Fact) → AreFactsOf seat facts → ReceivedFromOthers seat.me facts

-- the view holds each sender's messages in order, each once
abbrev pub ViewIsInOrder : Type 0
ViewIsInOrder = (seat : Identity) (facts : List Fact) → AreFactsOf seat facts → InOrderAfter [] (view seat.group.size facts)

-- so of each sender it holds the first messages, as many as it counts
abbrev pub ViewHoldsTheFirst : Type 0
ViewHoldsTheFirst = (seat : Identity) (facts : List Fact) (m : Carried) → AreFactsOf seat facts → (is_among (view seat.group.size facts) m ≡ true) ↔ ((1 ≤ m.number) × (m.number ≤ delivered seat facts m.sender))

-- all messages of the view are of the casts
abbrev pub ViewIsOfCasts : Type 0
ViewIsOfCasts = (seat : Identity) (facts : List Fact) (m : Carried) → AreFactsOf seat facts → is_among (view seat.group.size facts) m ≡ true → is_among (messages_in (casts_in facts)) m ≡ true

-- one of these messages, with its payload
abbrev pub IsOneOf : Carried → List Carried → Type 0
IsOneOf m [] = ⊥
IsOneOf m (n ∷ ms) = (m ≡ n) ⊎ IsOneOf m ms

-- each message of the view is as a cast carries it
abbrev pub ViewIsAsCast : Type 0
ViewIsAsCast = (seat : Identity) (facts : List Fact) (m : Carried) → AreFactsOf seat facts → IsOneOf m (view seat.group.size facts) → IsOneOf m (messages_in (casts_in facts))
