-- How the walk of a view and the delay rule agree, and what one delivery after another does.
use Rattle.std.specs.Prelude.{◌≡◌, ℕ, ◌<◌, ◌≤◌, ◌↔◌, true, false, List, [], ◌∷◌, ◌++◌, Some, None}
use Rattle.cb_times.specs.Order.{field}
use Rattle.cb_times.specs.Time.{IsRaised}
use Rattle.cb_frames.specs.Fields.{CastFields, Carried}
use Rattle.cb_delay.specs.Rule.{IsReady}
use Rattle.cb_diffs.specs.Expansion.{expanded_time}
use Rattle.cb_history.specs.Group.{Identity}
use Rattle.cb_history.specs.Facts.{Fact, casts_in, messages_in}
use Rattle.cb_history.specs.View.{count, counts, expanded_in, is_among, is_ready, next_delivery, drain, view}
use Rattle.cb_history.specs.NameLaws.{NamesDiffer, InOrderAfter, IsOneOf}
use Rattle.cb_history.specs.LegalFacts.{AreFactsOf}

-- ---- the rule

-- the delay rule lets the message be delivered where these messages were seen; its time is that of these casts
abbrev pub MeetsRule : ℕ → List CastFields → List Carried → Carried → Type 0
MeetsRule size casts seen m = IsReady m.sender (field (expanded_time size casts m.sender m.number)) (count seen)

-- a message of a member is ready exactly where it was not seen yet and meets the delay rule
abbrev pub ReadinessIsTheDelayRule : Type 0
ReadinessIsTheDelayRule =
    (size : ℕ) (casts : List CastFields) (seen : List Carried) (m : Carried) → m.sender < size
    → (is_ready size casts seen m ≡ true) ↔ ((is_among seen m ≡ false) × MeetsRule size casts seen m)

-- and it makes no difference whether the counts of what was seen are taken as they are, or as a vector time
abbrev pub RuleOfTimes : Type 0
RuleOfTimes =
    (size : ℕ) (casts : List CastFields) (seen : List Carried) (m : Carried) → m.sender < size
    → IsReady m.sender (field (expanded_time size casts m.sender m.number)) (field (counts size seen)) ↔ MeetsRule size casts seen m

-- ---- the next delivery

-- nothing is next exactly where no expanded message is ready
abbrev pub NothingIsNext : Type 0
NothingIsNext =
    (size : ℕ) (casts : List CastFields) (seen : List Carried)
    → (next_delivery size casts seen ≡ None) ↔ ((m : Carried) → IsOneOf m (expanded_in casts) → is_ready size casts seen m ≡ false)

-- an expanded message that is ready, of the smallest sender of which one is
pub record IsReadyOfSmallestSender (size : ℕ) (casts : List CastFields) (seen : List Carried) (m : Carried) : Type 0 where
  pub expanded : IsOneOf m (expanded_in casts)
  pub ready : is_ready size casts seen m ≡ true
  pub smallest : (other : Carried) → IsOneOf other (expanded_in casts) → is_ready size casts seen other ≡ true → m.sender ≤ other.sender

-- the next delivery is a ready one of the smallest sender
abbrev pub NextIsSmallestReady : Type 0
NextIsSmallestReady =
    (size : ℕ) (casts : List CastFields) (seen : List Carried) (m : Carried)
    → next_delivery size casts seen ≡ Some m → IsReadyOfSmallestSender size casts seen m

-- all messages are of members of a group of this size
abbrev pub AreOfMembers : ℕ → List Carried → Type 0
AreOfMembers size messages = (m : Carried) → IsOneOf m messages → m.sender < size

-- What is so while a member delivers: the casts are of members, numbered from 1, no two of one name;
-- what was seen is of the casts, each sender's messages in order.
pub record IsOnTheWay (size : ℕ) (casts : List CastFields) (seen : List Carried) : Type 0 where
  pub names : NamesDiffer (messages_in casts)
  pub members : AreOfMembers size (messages_in casts)
  pub numbered : (m : Carried) → IsOneOf m (messages_in casts) → 1 ≤ m.number
  pub order : InOrderAfter [] seen
  pub of_casts : (m : Carried) → IsOneOf m seen → IsOneOf m (messages_in casts)

-- then the ready message of the smallest sender is the next delivery
abbrev pub SmallestReadyIsNext : Type 0
SmallestReadyIsNext =
    (size : ℕ) (casts : List CastFields) (seen : List Carried) (m : Carried) → IsOnTheWay size casts seen
    → IsReadyOfSmallestSender size casts seen m → next_delivery size casts seen ≡ Some m

-- so it is with every view and all casts that it was made of
abbrev pub ViewsAreOnTheWay : Type 0
ViewsAreOnTheWay =
    (seat : Identity) (facts : List Fact) → AreFactsOf seat facts
    → IsOnTheWay seat.group.size (casts_in facts) (view seat.group.size facts)

-- and a delivery leaves it so
abbrev pub DeliveryLeavesOnTheWay : Type 0
DeliveryLeavesOnTheWay =
    (size : ℕ) (casts : List CastFields) (seen : List Carried) (m : Carried) → IsOnTheWay size casts seen
    → next_delivery size casts seen ≡ Some m → IsOnTheWay size casts (seen ++ m ∷ [])

-- raising the time of what was seen to the time of a message that meets the rule counts just that message more
abbrev pub RaisingCountsTheDelivery : Type 0
RaisingCountsTheDelivery =
    (size : ℕ) (casts : List CastFields) (seen : List Carried) (m : Carried) (raised : List ℕ) → m.sender < size
    → MeetsRule size casts seen m → IsRaised (counts size seen) (expanded_time size casts m.sender m.number) raised
    → raised ≡ counts size (seen ++ m ∷ [])

-- ---- a drain, step by step

-- a drain is its first delivery, and then the drain of what is left
abbrev pub DrainGoesOn : Type 0
DrainGoesOn =
    (size : ℕ) (casts : List CastFields) (seen : List Carried) (m : Carried)
    → next_delivery size casts seen ≡ Some m → drain size casts seen ≡ drain size casts (seen ++ m ∷ [])

-- and it ends where nothing is next
abbrev pub DrainEnds : Type 0
DrainEnds =
    (size : ℕ) (casts : List CastFields) (seen : List Carried)
    → next_delivery size casts seen ≡ None → drain size casts seen ≡ seen

-- ---- views

-- each of these messages meets the rule where it stands, behind the messages before it
abbrev pub MeetRuleAfter : ℕ → List CastFields → List Carried → List Carried → Type 0
MeetRuleAfter size casts before [] = Unit {0}
MeetRuleAfter size casts before (m ∷ ms) = MeetsRule size casts before m × MeetRuleAfter size casts (before ++ m ∷ []) ms

-- in a view the rule is met by each message, given those in front of it
abbrev pub ViewMeetsTheRule : Type 0
ViewMeetsTheRule =
    (seat : Identity) (facts : List Fact) → AreFactsOf seat facts
    → MeetRuleAfter seat.group.size (casts_in facts) [] (view seat.group.size facts)

-- nobody outside the group has a message in a view
abbrev pub ViewIsOfMembers : Type 0
ViewIsOfMembers =
    (seat : Identity) (facts : List Fact) → AreFactsOf seat facts → AreOfMembers seat.group.size (view seat.group.size facts)
