-- Those who begin by one plan have the same cut, and nobody begins beside them.
use Rattle.std.specs.Prelude.{◌≡◌, ◌↔◌, ◌⊎◌, ℕ, ◌<◌, ◌≤◌, true, false, ◌&&◌, ◌==◌, nat_le, List, [], ◌∷◌, ◌++◌, length, Some, slice_get, bytes_eq, if◌then◌else◌}
use Rattle.std.specs.List.{list_any}
use Rattle.cb_times.specs.declared.name.Name.{Name}
use Rattle.cb_frames.specs.declared.frame.TheConstants.{LAST_NUMBER}
use Rattle.cb_delay.specs.declared.message.Event.{Event}
use Rattle.cb_causality.specs.declared.event.CausalEvent.TheVariants.{Cast}
use Rattle.cb_causality.specs.Events.{Has}
use Rattle.cb_causality.specs.HappenedBefore.{Lists}
use Rattle.cb_causality.specs.CausalMachine.{Run}
use Rattle.cb_causality.specs.StampedMachine.{without_times}
use Rattle.cb_causality.specs.Laws.{IsOrPrecedes}
use Rattle.cb_causality.specs.Parts.{part}
use Rattle.cb_history.specs.Answers.{delivered, is_window_full}
use Rattle.cb_schedules.specs.Schedule.{seat_at}
use Rattle.cb_schedules.specs.Messages.{facts_at, stamped_lists, causal_lists, HasDelivered}
use Rattle.cb_schedules.specs.Succession.{Plan, EndableGroup, IsEndable, is_listed, upto_end, own_plans, cut_field, Begin, the_rules, SuccessionStep, SuccessionState, succession, shown}

-- it holds after every list of steps, for every group, every way in which payloads are read, and however many places are kept
abbrev pub EachSuccession : (EndableGroup → SuccessionState → Type 0) → Type 0
EachSuccession P = (g : EndableGroup) (steps : List SuccessionStep) → IsEndable g → P g (succession the_rules g steps)

-- this begin has been
abbrev pub HasBegun : SuccessionState → Begin → Type 0
HasBegun t b = (n : ℕ) × (slice_get t.begun n ≡ Some b)

-- what a member was shown, without times
abbrev pub HasBeenShown : EndableGroup → SuccessionState → ℕ → Name → Type 0
HasBeenShown g t i m = Has (without_times (shown g t i)) m

-- member k has cast an END with this text
pub record HasEnded (lists : Lists) (k : ℕ) (text : List ℕ) : Type 0 where
  pub index : ℕ
  pub name : Name
  pub stands : slice_get (lists k) index ≡ Some (Cast name text)

-- The cut of a plan: what is, or happened before, an END with its text by somebody whom it lists.
pub record IsInTheCut (lists : Lists) (text : List ℕ) (plan : Plan) (m : Name) : Type 0 where
  pub member : ℕ
  pub listed : is_listed member plan ≡ true
  pub end : HasEnded lists member text
  pub reaches : IsOrPrecedes lists m end.name

-- ---- the same cut

-- A member that has begun was shown exactly the cut of its plan: so those who began by one plan were shown the same.
abbrev pub ExactlyTheCutIsShown : EndableGroup → SuccessionState → Type 0
ExactlyTheCutIsShown g t =
    (b : Begin) (m : Name) → HasBegun t b
    → HasBeenShown g t b.member m ↔ IsInTheCut (causal_lists g.setting t.group) b.text b.plan m

abbrev pub TheSameIsShown : EndableGroup → SuccessionState → Type 0
TheSameIsShown g t =
    (b c : Begin) (m : Name) → HasBegun t b → HasBegun t c → b.text ≡ c.text → HasBeenShown g t b.member m → HasBeenShown g t c.member m

-- this plan, which lists member i, was read in this text, and member i has cast its END
pub record EndsBy (g : EndableGroup) (t : SuccessionState) (i : ℕ) (text : List ℕ) (plan : Plan) : Type 0 where
  pub read : g.plan_in text ≡ Some plan
  pub listed : is_listed i plan ≡ true
  pub end : HasEnded (causal_lists g.setting t.group) i text

-- what it was shown before it begins is in the cut
abbrev pub WhatWasShownIsInTheCut : EndableGroup → SuccessionState → Type 0
WhatWasShownIsInTheCut g t =
    (i : ℕ) (text : List ℕ) (plan : Plan) (m : Name) → EndsBy g t i text plan
    → Has (without_times (upto_end g.plan_in (stamped_lists g.setting t.group i))) m
    → IsInTheCut (causal_lists g.setting t.group) text plan m

-- and so is each of its casts, but later ENDs
abbrev pub CastsAreInTheCut : EndableGroup → SuccessionState → Type 0
CastsAreInTheCut g t =
    (i : ℕ) (text : List ℕ) (plan : Plan) (index : ℕ) (m : Name) (payload : List ℕ) → EndsBy g t i text plan
    → slice_get (causal_lists g.setting t.group i) index ≡ Some (Cast m payload)
    → IsInTheCut (causal_lists g.setting t.group) text plan m
    ⊎ ((later : Plan) × (g.plan_in payload ≡ Some later) × (plan.number < later.number))

-- the cut as the events of one who has begun tell it
abbrev pub cut_told : EndableGroup → SuccessionState → Begin → ℕ → ℕ
cut_told g t b s = cut_field b.text b.plan (stamped_lists g.setting t.group b.member) s

-- it is one vector: of each sender the messages up to a number
abbrev pub TheCutIsOneVector : EndableGroup → SuccessionState → Type 0
TheCutIsOneVector g t =
    (b : Begin) (m : Name) → HasBegun t b → 1 ≤ m.number
    → IsInTheCut (causal_lists g.setting t.group) b.text b.plan m ↔ (m.number ≤ cut_told g t b m.sender)

-- what those who began by the plan of b were shown, and of each other member's list what is in the cut
abbrev pub lists_at_the_cut : EndableGroup → SuccessionState → Begin → Lists
lists_at_the_cut g t b k =
    if list_any (λ c. c.member == k && bytes_eq b.text c.text) t.begun
    then without_times (shown g t k)
    else part (λ m. nat_le m.number (cut_told g t b m.sender)) (causal_lists g.setting t.group) k

-- this is a run of the causal machine
abbrev pub TheCutIsCausal : EndableGroup → SuccessionState → Type 0
TheCutIsCausal g t = (b : Begin) → HasBegun t b → Run g.setting.group.size (lists_at_the_cut g t b)

-- There each member that began by this plan has all that anybody has: so these may be the members of a next group, which is put behind.
abbrev pub TheCutCanBeFollowed : EndableGroup → SuccessionState → Type 0
TheCutCanBeFollowed g t =
    (b c : Begin) (j : ℕ) (m : Name) → HasBegun t b → HasBegun t c → b.text ≡ c.text
    → Has (lists_at_the_cut g t b j) m → Has (lists_at_the_cut g t b c.member) m

-- by no step what was shown is taken back
abbrev pub ShownListsGoOn : Type 0
ShownListsGoOn =
    (g : EndableGroup) (steps : List SuccessionStep) (step : SuccessionStep) (i : ℕ) → IsEndable g
    → (more : List Event) × (shown g (succession the_rules g (steps ++ step ∷ [])) i ≡ shown g (succession the_rules g steps) i ++ more)

-- ---- nobody beside them

-- Once a member has begun, nobody ever begins by a later plan that lists it, whatever the lists are.
abbrev pub NobodyBeginsByALaterPlan : EndableGroup → SuccessionState → Type 0
NobodyBeginsByALaterPlan g t =
    (b c : Begin) → HasBegun t b → HasBegun t c → b.plan.number < c.plan.number → is_listed b.member c.plan ≡ true → ⊥

-- One number has one text: one whom a plan lists that somebody began by began by no other plan of that number.
abbrev pub OneNumberHasOneText : EndableGroup → SuccessionState → Type 0
OneNumberHasOneText g t =
    (b c : Begin) → HasBegun t b → HasBegun t c → b.plan.number ≡ c.plan.number → is_listed c.member b.plan ≡ true → b.text ≡ c.text

-- these members are in the list of every plan by which somebody began: so it is with those of the last list, where lists shrink
abbrev pub AreInEveryList : SuccessionState → List ℕ → Type 0
AreInEveryList t last = (b : Begin) (k : ℕ) → HasBegun t b → list_any (λ l. l == k) last ≡ true → is_listed k b.plan ≡ true

-- any two of them that have begun, began by the same plan
abbrev pub TheLastListGoesOneWay : EndableGroup → SuccessionState → Type 0
TheLastListGoesOneWay g t =
    (last : List ℕ) (b c : Begin) → AreInEveryList t last → HasBegun t b → HasBegun t c
    → list_any (λ l. l == b.member) last ≡ true → list_any (λ l. l == c.member) last ≡ true → b.text ≡ c.text

-- ---- room

-- A member with fewer ENDs than there are kept places has room for one more, as long as there are numbers.
abbrev pub EndsHaveRoom : EndableGroup → SuccessionState → Type 0
EndsHaveRoom g t =
    (i : ℕ) → i < g.setting.group.size → length (own_plans g.plan_in (stamped_lists g.setting t.group i)) < g.kept
    → delivered (seat_at g.setting i) (facts_at t.group i) i < LAST_NUMBER
    → is_window_full (seat_at g.setting i) (facts_at t.group i) ≡ false

-- ---- the old group

-- who has begun has delivered the whole cut
abbrev pub TheCutIsDelivered : EndableGroup → SuccessionState → Type 0
TheCutIsDelivered g t =
    (b : Begin) (m : Name) → HasBegun t b → IsInTheCut (causal_lists g.setting t.group) b.text b.plan m
    → HasDelivered g.setting t.group b.member m

-- and each member that its plan lists has cast that plan's END: it was in the group that this plan ends
abbrev pub WhoIsListedHasEnded : EndableGroup → SuccessionState → Type 0
WhoIsListedHasEnded g t =
    (b : Begin) (k : ℕ) → HasBegun t b → is_listed k b.plan ≡ true → HasEnded (causal_lists g.setting t.group) k b.text
