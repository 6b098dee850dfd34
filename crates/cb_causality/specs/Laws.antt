-- What the laws of this crate say.
use Rattle.std.specs.Prelude.{◌≡◌, ◌≢◌, ℕ, ◌<◌, ◌≤◌, ◌⊎◌, ◌↔◌, List, length, take, sum}
use Rattle.cb_times.specs.Order.{field, Compares}
use Rattle.cb_times.specs.declared.order.TimeOrder.{TimeOrder}
use Rattle.cb_times.specs.declared.order.TimeOrder.TheVariants.{Before, After, Same, Concurrent}
use Rattle.cb_times.specs.declared.name.Name.{Name}
use Rattle.cb_delay.specs.declared.message.Event.{Event}
use Rattle.cb_causality.specs.declared.event.CausalEvent.{CausalEvent}
use Rattle.cb_causality.specs.Events.{name_of, payload_of, count, numbers_of, consecutive}
use Rattle.cb_causality.specs.HappenedBefore.{Lists, Place, IsPlace, Path, HappenedBefore}
use Rattle.cb_causality.specs.CausalMachine.{MayDeliver, Step, Run}
use Rattle.cb_causality.specs.StampedMachine.{StampedLists, StampedRun, erased, IsTimeOf, DelayRuleAllows}
use Rattle.cb_delay.specs.Message.{message_of}
use Rattle.cb_causality.specs.Lists.{Agree, StandsIn}

-- it holds of the lists of every run of the causal machine, for every size of the group
abbrev pub EachRun : (ℕ → Lists → Type 0) → Type 0
EachRun P = (size : ℕ) (lists : Lists) → Run size lists → P size lists

-- it holds of the lists before and after every step that follows a run
abbrev pub EachStep : (Lists → Lists → Type 0) → Type 0
EachStep P = (size : ℕ) (before after : Lists) → Run size before → Step size before after → P before after

-- it holds of the lists of every run of the stamped machine, for every size of the group
abbrev pub EachStampedRun : (ℕ → StampedLists → Type 0) → Type 0
EachStampedRun P = (size : ℕ) (lists : StampedLists) → StampedRun size lists → P size lists

-- no message happened before itself
abbrev pub IsIrreflexive : Lists → Type 0
IsIrreflexive lists = (m : Name) → ¬ HappenedBefore lists m m

-- what happened before a message that happened before m, happened before m
abbrev pub IsTransitive : Lists → Type 0
IsTransitive lists = (a b m : Name) → HappenedBefore lists a b → HappenedBefore lists b m → HappenedBefore lists a m

-- between places that were there before, a path leads after the step exactly where one led before it
abbrev pub KeepsPaths : Lists → Lists → Type 0
KeepsPaths before after =
    (from to : Place) → IsPlace before from → IsPlace before to → Path before from to ↔ Path after from to

-- how two messages stand to each other by happened-before, in the words in which times compare
abbrev pub Related : Lists → Name → Name → TimeOrder → Type 0
Related lists a b Before = HappenedBefore lists a b
Related lists a b After = HappenedBefore lists b a
Related lists a b Same = a ≡ b
Related lists a b Concurrent = (a ≢ b) × ¬ HappenedBefore lists a b × ¬ HappenedBefore lists b a

-- the one message is the other, or happened before it
abbrev pub IsOrPrecedes : Lists → Name → Name → Type 0
IsOrPrecedes lists a b = (a ≡ b) ⊎ HappenedBefore lists a b

-- the times of any two messages compare exactly as the messages do
abbrev pub TimesTellOrder : StampedLists → Type 0
TimesTellOrder lists =
    (a b : Name) (time_a time_b : List ℕ) → IsTimeOf lists a time_a → IsTimeOf lists b time_b
    → (order : TimeOrder) → Compares (field time_a) (field time_b) order ↔ Related (erased lists) a b order

-- message t of k is m, or happened before it, exactly where t is at most field k of m's time
abbrev pub TimesCountThePast : StampedLists → Type 0
TimesCountThePast lists =
    (m : Name) (time : List ℕ) → IsTimeOf lists m time → (k t : ℕ) → 1 ≤ t
    → (t ≤ field time k) ↔ IsOrPrecedes (erased lists) (record { sender = k; number = t }) m

-- in each list the messages of each sender are its first ones, in the order of their numbers, each once, none skipped
abbrev pub IsInOrder : Lists → Type 0
IsInOrder lists = (j k : ℕ) → numbers_of k (lists j) ≡ consecutive 1 (count k (lists j))

-- each time has a field for each member of the group
abbrev pub TimesHaveSize : ℕ → StampedLists → Type 0
TimesHaveSize size lists = (m : Name) (time : List ℕ) → IsTimeOf lists m time → length time ≡ size

-- these are the lists of some stamped run, without its times
abbrev pub IsErasure : ℕ → Lists → Type 0
IsErasure size lists = (stamped : StampedLists) × StampedRun size stamped × ((k : ℕ) → erased stamped k ≡ lists k)

-- the delay rule lets a member deliver a message exactly where causality does
abbrev pub DelayRuleIsExact : StampedLists → Type 0
DelayRuleIsExact lists =
    (receiver : ℕ) (m : Name) (payload : List ℕ)
    → ((time : List ℕ) × DelayRuleAllows lists receiver (record { name = m; time = time; payload = payload }))
    ↔ MayDeliver (erased lists) receiver m payload

-- no path leads from a place back to it
abbrev pub IsAcyclic : Lists → Type 0
IsAcyclic lists = (place : Place) → ¬ Path lists place place

-- it depends on each member's list alone: with some lists it holds of all that agree with them
abbrev pub DependsOnListsAlone : {X : Type 0} → ((ℕ → List X) → Type 0) → Type 0
DependsOnListsAlone {X} P = (lists others : ℕ → List X) → Agree lists others → P lists → P others

-- the same of what relates lists before to lists after
abbrev pub RelatesListsAlone : {X : Type 0} → ((ℕ → List X) → (ℕ → List X) → Type 0) → Type 0
RelatesListsAlone {X} R =
    (before after other_before other_after : ℕ → List X)
    → Agree before other_before → Agree after other_after → R before after → R other_before other_after

-- the sum of the fields 0 to size - 1 of a time
abbrev pub sum_of_fields : ℕ → List ℕ → ℕ
sum_of_fields size time = sum (take size time)

-- what happened before a message has a time with a smaller sum of fields
abbrev pub PastHasSmallerSum : ℕ → StampedLists → Type 0
PastHasSmallerSum size lists =
    (a b : Name) (time_a time_b : List ℕ) → IsTimeOf lists a time_a → IsTimeOf lists b time_b
    → HappenedBefore (erased lists) a b → sum_of_fields size time_a < sum_of_fields size time_b

-- the field of a message's sender in its time is its number
abbrev pub OwnFieldIsNumber : StampedLists → Type 0
OwnFieldIsNumber lists = (m : Name) (time : List ℕ) → IsTimeOf lists m time → field time m.sender ≡ m.number

-- events of one name have one payload
abbrev pub OneNameOnePayload : Lists → Type 0
OneNameOnePayload lists =
    (e f : CausalEvent) → StandsIn lists e → StandsIn lists f → name_of e ≡ name_of f → payload_of e ≡ payload_of f

-- events of one name are of one message, so that their times and their payloads are the same
abbrev pub OneNameOneMessage : StampedLists → Type 0
OneNameOneMessage lists =
    (e f : Event) → StandsIn lists e → StandsIn lists f
    → (message_of e).name ≡ (message_of f).name → message_of e ≡ message_of f
