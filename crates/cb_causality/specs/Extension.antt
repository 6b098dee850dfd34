-- Several steps at once: lists that come from other lists by steps, one after the other.
use Rattle.std.specs.Prelude.{◌≡◌, ℕ, ◌<◌, List, [], ◌∷◌, ◌++◌, map}
use Rattle.cb_delay.specs.declared.message.Message.{Message}
use Rattle.cb_delay.specs.declared.message.Event.{Event}
use Rattle.cb_delay.specs.declared.message.Event.TheVariants.{Cast, Deliver}
use Rattle.cb_causality.specs.Lists.{Agree, AppendsAll}
use Rattle.cb_causality.specs.CausalMachine.{Step}
use Rattle.cb_causality.specs.Events.{next_name}
use Rattle.cb_causality.specs.StampedMachine.{StampedLists, StampedStep, StampedRun, IsTimeOfList, DelayRuleAllows, without_times, erased}

-- after comes from before by some steps or none, one after the other; IsStep is what one step of the machine is
pub data Extends {X : Type 0} (IsStep : (ℕ → List X) → (ℕ → List X) → Type 0) (before : ℕ → List X)
    : (ℕ → List X) → Type 0 where
  -- by none: the lists agree, member by member
  Still : (after : ℕ → List X) → Agree before after → Extends IsStep before after
  -- by some, and one more
  Further : (middle after : ℕ → List X) → Extends IsStep before middle → IsStep middle after → Extends IsStep before after

-- what holds of several steps at once, where IsRun is what a run of the machine is and IsStep what one step is
pub record ExtendsRuns {X : Type 0} (IsRun : (ℕ → List X) → Type 0) (IsStep : (ℕ → List X) → (ℕ → List X) → Type 0) : Type 0 where
  -- a run that is extended is a run
  pub run : (before after : ℕ → List X) → IsRun before → Extends IsStep before after → IsRun after
  -- lists extend those with which they agree
  pub reflexive : (before after : ℕ → List X) → Agree before after → Extends IsStep before after
  -- one step extends
  pub one : (before after : ℕ → List X) → IsStep before after → Extends IsStep before after
  -- what extends an extension extends what that one extends
  pub transitive : (before middle after : ℕ → List X) → Extends IsStep before middle → Extends IsStep middle after
      → Extends IsStep before after
  -- each member's list goes on: what it was is its beginning
  pub beginning : (before after : ℕ → List X) → Extends IsStep before after
      → (k : ℕ) → (more : List X) × (after k ≡ before k ++ more)

-- what extends a stamped run, without the times, extends it by steps of the causal machine
abbrev pub ErasesToExtension : ℕ → Type 0
ErasesToExtension size =
    (before after : StampedLists) → StampedRun size before → Extends (StampedStep size) before after
    → Extends (Step size) (erased before) (erased after)

-- the delay rule lets the receiver deliver these messages one after the other, each once those before it are delivered
abbrev pub DelayRuleAllowsInTurn : StampedLists → ℕ → List Message → Type 0
DelayRuleAllowsInTurn lists receiver messages =
    (earlier later : List Message) (message : Message) → messages ≡ earlier ++ message ∷ later
    → (now : StampedLists) → AppendsAll lists now receiver (map Deliver earlier) → DelayRuleAllows now receiver message

-- deliveries in turn extend the lists
abbrev pub DeliveriesInTurnExtend : ℕ → Type 0
DeliveriesInTurnExtend size =
    (before after : StampedLists) (receiver : ℕ) (messages : List Message) → receiver < size
    → DelayRuleAllowsInTurn before receiver messages → AppendsAll before after receiver (map Deliver messages)
    → Extends (StampedStep size) before after

-- the message is the next one of the member whose list this is, stamped with what the list has with its cast
pub record IsNextStamped (size caster : ℕ) (events : List Event) (message : Message) : Type 0 where
  pub name : message.name ≡ next_name caster (without_times events)
  pub stamp : IsTimeOfList size message.time (events ++ Cast message ∷ [])

-- each of these messages is so once those before it are cast
abbrev pub AreStampedInTurn : ℕ → ℕ → List Event → List Message → Type 0
AreStampedInTurn size caster events messages =
    (earlier later : List Message) (message : Message) → messages ≡ earlier ++ message ∷ later
    → IsNextStamped size caster (events ++ map Cast earlier) message

-- casts in turn extend the lists: one step each, and the lists in between need be no member's own
abbrev pub CastsInTurnExtend : ℕ → Type 0
CastsInTurnExtend size =
    (before after : StampedLists) (caster : ℕ) (messages : List Message) → caster < size
    → AreStampedInTurn size caster (before caster) messages → AppendsAll before after caster (map Cast messages)
    → Extends (StampedStep size) before after
