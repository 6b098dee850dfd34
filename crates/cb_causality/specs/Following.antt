-- Runs of groups that follow one another, as one run of all persons who were ever in one of them.
use Rattle.std.specs.Prelude.{◌≡◌, ◌↔◌, ℕ, ◌+◌, ◌<◌, ◌==◌, List, [], ◌∷◌, ◌++◌, length, map, get_or, if◌then◌else◌}
use Rattle.std.specs.List.{position_or_len}
use Rattle.cb_times.specs.declared.name.Name.{Name}
use Rattle.cb_causality.specs.declared.event.CausalEvent.{CausalEvent}
use Rattle.cb_causality.specs.declared.event.CausalEvent.TheVariants.{Cast, Deliver}
use Rattle.cb_causality.specs.Events.{name_of, payload_of, casts_of, Has}
use Rattle.cb_causality.specs.HappenedBefore.{Lists, Place, IsCastAt, HappenedBefore}
use Rattle.cb_causality.specs.CausalMachine.{Run}

-- the message was cast
abbrev pub IsCast : Lists → Name → Type 0
IsCast lists m = (place : Place) × IsCastAt lists place m

-- ---- one group behind another

-- the person who is member b of the next group, where these are its members in the order of their numbers there
abbrev pub person_of : List ℕ → ℕ → ℕ
person_of persons b = get_or persons b 0

-- the number of a person in it; who is not in it has a number beyond its size
abbrev pub number_in : List ℕ → ℕ → ℕ
number_in persons p = position_or_len (λ q. q == p) persons

-- The name of a message of the next group among all messages: its sender is a person, whose numbers go on behind the casts made before.
abbrev pub name_behind : List ℕ → Lists → Name → Name
name_behind persons earlier m = record {
  sender = person_of persons m.sender;
  number = casts_of (earlier (person_of persons m.sender)) + m.number;
}

abbrev pub event_behind : List ℕ → Lists → CausalEvent → CausalEvent
event_behind persons earlier (Cast m payload) = Cast (name_behind persons earlier m) payload
event_behind persons earlier (Deliver m payload) = Deliver (name_behind persons earlier m) payload

-- the persons' lists, with what the next group's members cast and delivered behind what stood there
abbrev pub put_behind : List ℕ → Lists → Lists → Lists
put_behind persons earlier next p = earlier p ++ map (event_behind persons earlier) (next (number_in persons p))

-- These may be the members of a next group: each is a person and stands there once, and each has all that anybody has.
pub record MayFollow (size : ℕ) (earlier : Lists) (persons : List ℕ) : Type 0 where
  pub inside : (b : ℕ) → b < length persons → person_of persons b < size
  pub once : (b : ℕ) → b < length persons → number_in persons (person_of persons b) ≡ b
  pub whole : (b : ℕ) → b < length persons → (j : ℕ) (m : Name) → Has (earlier j) m → Has (earlier (person_of persons b)) m

-- ---- newcomers

-- an event as a delivery of its message
abbrev pub as_delivery : CausalEvent → CausalEvent
as_delivery e = Deliver (name_of e) (payload_of e)

-- who comes is shown what another person has, as deliveries in that one's order
pub record Newcomer : Type 0 where
  pub person : ℕ
  pub after : ℕ

abbrev pub with_newcomer : Newcomer → Lists → Lists
with_newcomer newcomer lists p = if p == newcomer.person then map as_delivery (lists newcomer.after) else lists p

-- a person who was in no group so far
pub record MayCome (size : ℕ) (lists : Lists) (newcomer : Newcomer) : Type 0 where
  pub inside : newcomer.person < size
  pub new : lists newcomer.person ≡ []

abbrev pub with_newcomers : List Newcomer → Lists → Lists
with_newcomers [] lists = lists
with_newcomers (newcomer ∷ newcomers) lists = with_newcomers newcomers (with_newcomer newcomer lists)

-- so with each of them, one after another
abbrev pub MayAllCome : ℕ → Lists → List Newcomer → Type 0
MayAllCome size lists [] = Unit {0}
MayAllCome size lists (newcomer ∷ newcomers) =
    MayCome size lists newcomer × MayAllCome size (with_newcomer newcomer lists) newcomers

-- ---- any number of groups

-- a group: who came when it began, who its members are, and what these cast and delivered
pub record NextGroup : Type 0 where
  pub newcomers : List Newcomer
  pub persons : List ℕ
  pub lists : Lists

abbrev pub with_group : NextGroup → Lists → Lists
with_group group earlier = put_behind group.persons (with_newcomers group.newcomers earlier) group.lists

-- A run of a group whose members have all that anybody has before, newcomers as they came.
pub record GroupFollows (size : ℕ) (earlier : Lists) (group : NextGroup) : Type 0 where
  pub newcomers : MayAllCome size earlier group.newcomers
  pub members : MayFollow size (with_newcomers group.newcomers earlier) group.persons
  pub run : Run (length group.persons) group.lists

-- the persons' lists behind all these groups
abbrev pub with_groups : List NextGroup → Lists → Lists
with_groups [] earlier = earlier
with_groups (group ∷ groups) earlier = with_groups groups (with_group group earlier)

abbrev pub GroupsFollow : ℕ → Lists → List NextGroup → Type 0
GroupsFollow size earlier [] = Unit {0}
GroupsFollow size earlier (group ∷ groups) = GroupFollows size earlier group × GroupsFollow size (with_group group earlier) groups

-- ---- the laws

-- the persons' lists are a run of the causal machine, behind any number of groups
abbrev pub FollowingGroupsAreOneRun : Type 0
FollowingGroupsAreOneRun =
    (size : ℕ) (earlier : Lists) (groups : List NextGroup)
    → Run size earlier → GroupsFollow size earlier groups → Run size (with_groups groups earlier)

-- it holds of each run, and of each run of a group put behind it
abbrev pub EachGroupBehind : (Lists → List ℕ → Lists → Type 0) → Type 0
EachGroupBehind P =
    (size : ℕ) (earlier : Lists) (persons : List ℕ) (next : Lists)
    → Run size earlier → MayFollow size earlier persons → Run (length persons) next → P earlier persons next

-- every message of the next group happened after every message before
abbrev pub ComesBehind : Lists → List ℕ → Lists → Type 0
ComesBehind earlier persons next =
    (a m : Name) → IsCast earlier a → IsCast next m
    → HappenedBefore (put_behind persons earlier next) a (name_behind persons earlier m)

-- two messages of the next group stand to each other as in that group
abbrev pub KeepsTheOrderInside : Lists → List ℕ → Lists → Type 0
KeepsTheOrderInside earlier persons next =
    (a b : Name) → IsCast next a → IsCast next b
    → HappenedBefore (put_behind persons earlier next) (name_behind persons earlier a) (name_behind persons earlier b)
    ↔ HappenedBefore next a b

-- and two messages before it as they stood
abbrev pub KeepsTheOrderBefore : Lists → List ℕ → Lists → Type 0
KeepsTheOrderBefore earlier persons next =
    (a b : Name) → IsCast earlier a → IsCast earlier b
    → HappenedBefore (put_behind persons earlier next) a b ↔ HappenedBefore earlier a b
