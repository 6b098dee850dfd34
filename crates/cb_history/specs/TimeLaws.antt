-- The times of messages, in every legal history.
use Rattle.std.specs.Prelude.{◌≡◌, ℕ, ◌+◌, ◌<◌, ◌≤◌, true, List, [], ◌∷◌, ◌++◌, length, take}
use Rattle.std.specs.List.{AllByRecursion}
use Rattle.cb_frames.specs.Fields.{messages_of, first_number, last_number, CastFields, Carried}
use Rattle.cb_diffs.specs.Expansion.{expanded_field, expanded_time}
use Rattle.cb_history.specs.Group.{Identity}
use Rattle.cb_history.specs.Facts.{Fact, OwnCast, casts_in}
use Rattle.cb_history.specs.View.{count, is_among, is_expanded, view, counts}
use Rattle.cb_history.specs.Answers.{delivered}
use Rattle.cb_history.specs.LegalFacts.{AreFactsOf}

-- the time of a message that is expanded does not change by more facts
abbrev pub TimesStay : Type 0
TimesStay = (seat : Identity) (facts more : List Fact) (m : Carried) (k : ℕ) → AreFactsOf seat (facts ++ more) → is_expanded (casts_in facts) m ≡ true
    → expanded_field (casts_in (facts ++ more)) m.sender m.number k ≡ expanded_field (casts_in facts) m.sender m.number k

-- the time of each message of an own cast is the view's with it and with those of the cast before it
abbrev pub OwnCastsTellTheView : Type 0
OwnCastsTellTheView = (seat : Identity) (facts more : List Fact) (c : CastFields) (j : ℕ) → AreFactsOf seat (facts ++ OwnCast c ∷ more) → j < length (messages_of c)
    → expanded_time seat.group.size (casts_in (facts ++ OwnCast c ∷ more)) seat.me (first_number c + j) ≡ counts seat.group.size (view seat.group.size facts ++ take (j + 1) (messages_of c))

-- what a message of the view had seen, the member has delivered: no field of its time is above the member's own
abbrev pub TimesAreReached : Type 0
TimesAreReached = (seat : Identity) (facts : List Fact) (m : Carried) (k : ℕ) → AreFactsOf seat facts → is_among (view seat.group.size facts) m ≡ true → k < seat.group.size
    → expanded_field (casts_in facts) m.sender m.number k ≤ delivered seat facts k

-- each of these messages has a time that the messages up to it and with it reach
abbrev pub InTimeAfter : ℕ → List CastFields → List Carried → List Carried → Type 0
InTimeAfter size casts before [] = Unit {0}
InTimeAfter size casts before (m ∷ ms) = ((k : ℕ) → k < size → expanded_field casts m.sender m.number k ≤ count (before ++ m ∷ []) k) × InTimeAfter size casts (before ++ m ∷ []) ms

-- before each message of the view stands all that its sender had delivered when it cast it
abbrev pub ViewIsInTime : Type 0
ViewIsInTime = (seat : Identity) (facts : List Fact) → AreFactsOf seat facts → InTimeAfter seat.group.size (casts_in facts) [] (view seat.group.size facts)

-- some number is one of both casts
abbrev pub HaveOneNumber : CastFields → CastFields → Type 0
HaveOneNumber c d = (first_number c ≤ last_number d) × (first_number d ≤ last_number c)

-- where casts of this sender have a number in common, they begin with the same one and their changes are the same
abbrev pub SameFrames : List CastFields → List CastFields → ℕ → Type 0
SameFrames casts others sender =
    AllByRecursion (λ c. AllByRecursion (λ d. c.sender ≡ sender → d.sender ≡ sender → HaveOneNumber c d → (first_number c ≡ first_number d) × (c.changes ≡ d.changes)) others) casts

-- two members that have the same frames of a sender, and know the time of its message, know the same time
abbrev pub TimesAgree : Type 0
TimesAgree = (seat other : Identity) (facts others : List Fact) (m : Carried) (k : ℕ) → AreFactsOf seat facts → AreFactsOf other others → SameFrames (casts_in facts) (casts_in others) m.sender
    → is_expanded (casts_in facts) m ≡ true → is_expanded (casts_in others) m ≡ true → expanded_field (casts_in facts) m.sender m.number k ≡ expanded_field (casts_in others) m.sender m.number k
