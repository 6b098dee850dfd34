-- What one more fact does to what is known, acknowledged and stable.
use Rattle.std.specs.Prelude.{◌≡◌, ◌≢◌, ℕ, ◌<◌, ◌≤◌, List, [], ◌∷◌, ◌++◌, map, filter, not, max, ◌==◌, if◌then◌else◌}
use Rattle.cb_frames.specs.Fields.{CastFields, StatusFields, Carried, last_number}
use Rattle.cb_diffs.specs.Expansion.{expanded_field}
use Rattle.cb_history.specs.Group.{Identity}
use Rattle.cb_history.specs.Facts.{Fact, OwnCast, CastReceived, StatusReceived, OwnStatus, casts_in}
use Rattle.cb_history.specs.View.{is_expanded, expanded_in, view}
use Rattle.cb_history.specs.Known.{greatest_of, value_in, known, counted_by, acknowledged_of, acknowledged_by, stable_of, acknowledged, stable}
use Rattle.cb_history.specs.Answers.{delivered}
use Rattle.cb_history.specs.LegalFacts.{AreFactsOf}

-- a received status says how far each sender has cast
abbrev pub StatusIsKnown : Type 0
StatusIsKnown = (facts : List Fact) (s : StatusFields) (i : ℕ) → known (facts ++ StatusReceived s ∷ []) i ≡ max (known facts i) (value_in s.values i)

-- and how many of this member's casts its own sender has delivered
abbrev pub StatusIsAcknowledged : Type 0
StatusIsAcknowledged = (seat : Identity) (facts : List Fact) (s : StatusFields) (k : ℕ)
    → acknowledged seat (facts ++ StatusReceived s ∷ []) k ≡ (if s.sender == k then max (acknowledged seat facts k) (value_in s.values seat.me) else acknowledged seat facts k)

-- the messages whose times can be known by one more cast, and not before
abbrev pub newly_expanded : List CastFields → CastFields → List Carried
newly_expanded casts c = filter (λ m. not (is_expanded casts m)) (expanded_in (casts ++ c ∷ []))

-- a received cast says its own number, and what the times say that can be known by it
abbrev pub CastIsKnown : Type 0
CastIsKnown = (seat : Identity) (facts : List Fact) (c : CastFields) (i : ℕ) → AreFactsOf seat (facts ++ CastReceived c ∷ []) → known (facts ++ CastReceived c ∷ []) i ≡ max (known facts i)
    (max (if c.sender == i then last_number c else 0) (greatest_of (map (λ m. expanded_field (casts_in facts ++ c ∷ []) m.sender m.number i) (newly_expanded (casts_in facts) c))))

-- and how many of this member's casts the senders of the messages that are delivered by it had delivered
abbrev pub CastIsAcknowledged : Type 0
CastIsAcknowledged = (seat : Identity) (facts : List Fact) (c : CastFields) (k : ℕ) (deliveries : List Carried) → AreFactsOf seat (facts ++ CastReceived c ∷ [])
    → view seat.group.size (facts ++ CastReceived c ∷ []) ≡ view seat.group.size facts ++ deliveries
    → acknowledged seat (facts ++ CastReceived c ∷ []) k ≡ max (acknowledged seat facts k) (greatest_of (counted_by (casts_in facts ++ c ∷ []) deliveries k seat.me))

-- an own cast says nothing new of the others
abbrev pub OwnCastTellsNothing : Type 0
OwnCastTellsNothing = (seat : Identity) (facts : List Fact) (c : CastFields) (k : ℕ) → AreFactsOf seat (facts ++ OwnCast c ∷ []) → k < seat.group.size → k ≢ seat.me
    → (known (facts ++ OwnCast c ∷ []) k ≡ known facts k) × (acknowledged seat (facts ++ OwnCast c ∷ []) k ≡ acknowledged seat facts k)

-- an own status says nothing new
abbrev pub OwnStatusTellsNothing : Type 0
OwnStatusTellsNothing = (seat : Identity) (facts : List Fact) (s : StatusFields) (k : ℕ) → (known (facts ++ OwnStatus s ∷ []) k ≡ known facts k) × (acknowledged seat (facts ++ OwnStatus s ∷ []) k ≡ acknowledged seat facts k)

-- what is delivered is known
abbrev pub DeliveredIsKnown : Type 0
DeliveredIsKnown = (seat : Identity) (facts : List Fact) (i : ℕ) → AreFactsOf seat facts → delivered seat facts i ≤ known facts i

-- one more fact makes nothing that is known, acknowledged or stable smaller
abbrev pub NothingFalls : Type 0
NothingFalls = (seat : Identity) (facts : List Fact) (f : Fact)
    → ((i : ℕ) → known facts i ≤ known (facts ++ f ∷ []) i) × ((k : ℕ) → acknowledged seat facts k ≤ acknowledged seat (facts ++ f ∷ []) k) × (stable seat facts ≤ stable seat (facts ++ f ∷ []))

-- no member is known to have delivered more of this member's casts than it made
abbrev pub AcknowledgedIsDelivered : Type 0
AcknowledgedIsDelivered = (seat : Identity) (facts : List Fact) → AreFactsOf seat facts → ((k : ℕ) → acknowledged seat facts k ≤ delivered seat facts seat.me) × (stable seat facts ≤ delivered seat facts seat.me)

-- ---- the same of the casts of every sender i

-- a received status says how many casts of i its own sender has delivered
abbrev pub StatusIsAcknowledgedOf : Type 0
StatusIsAcknowledgedOf = (seat : Identity) (facts : List Fact) (s : StatusFields) (k i : ℕ)
    → acknowledged_of seat (facts ++ StatusReceived s ∷ []) k i ≡ (if s.sender == k then max (acknowledged_of seat facts k i) (value_in s.values i) else acknowledged_of seat facts k i)

-- a received cast says how many the senders of the messages that are delivered by it had delivered
abbrev pub CastIsAcknowledgedOf : Type 0
CastIsAcknowledgedOf = (seat : Identity) (facts : List Fact) (c : CastFields) (k i : ℕ) (deliveries : List Carried) → AreFactsOf seat (facts ++ CastReceived c ∷ [])
    → view seat.group.size (facts ++ CastReceived c ∷ []) ≡ view seat.group.size facts ++ deliveries
    → acknowledged_of seat (facts ++ CastReceived c ∷ []) k i ≡ max (acknowledged_of seat facts k i) (greatest_of (counted_by (casts_in facts ++ c ∷ []) deliveries k i))

-- an own cast says nothing of what the others have delivered, and an own status nothing at all
abbrev pub OwnCastAcknowledgesNothing : Type 0
OwnCastAcknowledgesNothing = (seat : Identity) (facts : List Fact) (c : CastFields) (k i : ℕ) → AreFactsOf seat (facts ++ OwnCast c ∷ []) → k ≢ seat.me
    → acknowledged_of seat (facts ++ OwnCast c ∷ []) k i ≡ acknowledged_of seat facts k i

abbrev pub OwnStatusAcknowledgesNothing : Type 0
OwnStatusAcknowledgesNothing = (seat : Identity) (facts : List Fact) (s : StatusFields) (k i : ℕ) → acknowledged_of seat (facts ++ OwnStatus s ∷ []) k i ≡ acknowledged_of seat facts k i

-- one more fact makes nothing smaller that is acknowledged or stable of i
abbrev pub NothingFallsOf : Type 0
NothingFallsOf = (seat : Identity) (facts : List Fact) (f : Fact) (i : ℕ)
    → ((k : ℕ) → acknowledged_of seat facts k i ≤ acknowledged_of seat (facts ++ f ∷ []) k i)
    × ((k : ℕ) → acknowledged_by seat facts k i ≤ acknowledged_by seat (facts ++ f ∷ []) k i) × (stable_of seat facts i ≤ stable_of seat (facts ++ f ∷ []) i)

-- of the member's own casts as much is stable as was said
abbrev pub StableOfMe : Type 0
StableOfMe = (seat : Identity) (facts : List Fact) → stable_of seat facts seat.me ≡ stable seat facts

-- no more of i is stable than the member itself has delivered
abbrev pub StableIsDelivered : Type 0
StableIsDelivered = (seat : Identity) (facts : List Fact) (i : ℕ) → AreFactsOf seat facts → stable_of seat facts i ≤ delivered seat facts i
