-- What rounds do: a few of them repair whatever was lost, and then nothing changes any more.
use Rattle.std.specs.Prelude.{◌≡◌, ◌≢◌, ◌↔◌, ℕ, ◌+◌, ◌<◌, ◌≤◌, min, Bool, true, not, ◌&&◌, ◌==◌, nat_lt, [], ◌∷◌, ◌++◌, length, Option, Some, None, slice_get, if◌then◌else◌}
use Rattle.std.specs.List.{AllByRecursion}
use Rattle.std.specs.Int.{div_ceil}
use Rattle.cb_times.specs.declared.name.Name.{Name}
use Rattle.cb_frames.specs.declared.frame.TheConstants.{MOST_FRAMES}
use Rattle.cb_history.specs.Facts.{casts_in}
use Rattle.cb_history.specs.Known.{known, expanded_count, missing, stable_of, stable}
use Rattle.cb_history.specs.Answers.{delivered, own_casts, window}
use Rattle.cb_schedules.specs.Schedule.{Setting, IsSetting, seat_at, Step, CastStep, ArriveStep, TickStep, HelpStep, Schedule, SentFrame, GroupState, run_from, run}
use Rattle.cb_schedules.specs.Messages.{facts_at, has_arrived, WasCast, HasDelivered}
use Rattle.cb_schedules.specs.Rounds.{answered, round_steps, after_round, steps_of_rounds, after_rounds, FindNoneFull}

-- ---- what a round is

-- how many of these steps are ticks of member i
abbrev pub ticks_of : ℕ → Schedule → ℕ
ticks_of i [] = 0
ticks_of i (CastStep j load ∷ steps) = ticks_of i steps
ticks_of i (ArriveStep j number ∷ steps) = ticks_of i steps
ticks_of i (TickStep j ∷ steps) = (if j == i then 1 else 0) + ticks_of i steps
ticks_of i (HelpStep j k ∷ steps) = ticks_of i steps

-- how many are arrivals of the frame with this number at member j
abbrev pub arrivals_at : ℕ → ℕ → Schedule → ℕ
arrivals_at j number [] = 0
arrivals_at j number (CastStep i load ∷ steps) = arrivals_at j number steps
arrivals_at j number (ArriveStep i n ∷ steps) = (if i == j && n == number then 1 else 0) + arrivals_at j number steps
arrivals_at j number (TickStep i ∷ steps) = arrivals_at j number steps
arrivals_at j number (HelpStep i k ∷ steps) = arrivals_at j number steps

-- whether a frame was sent to member j: it names j, or nobody and j is another member than its sender
abbrev pub names_receiver : ℕ → ℕ → Option ℕ → ℕ → Bool
names_receiver size from None j = nat_lt j size && not (j == from)
names_receiver size from (Some k) j = k == j

abbrev pub is_sent_to : ℕ → SentFrame → ℕ → Bool
is_sent_to size frame j = names_receiver size frame.from frame.to j

-- every member ticks once in a round, and nobody else does
abbrev pub EachTicksOnce : Type 0
EachTicksOnce =
    (setting : Setting) (s : GroupState) (i : ℕ)
    → ticks_of i (round_steps setting s) ≡ (if nat_lt i setting.group.size then 1 else 0)

-- each frame that was sent in a round arrives in it once at everyone it was sent to, and at nobody else
abbrev pub EachArrivesOnce : Type 0
EachArrivesOnce =
    (setting : Setting) (steps : Schedule) (number j : ℕ) (frame : SentFrame) → IsSetting setting
    → length (run setting steps).sent ≤ number → slice_get (after_round setting (run setting steps)).sent number ≡ Some frame
    → arrivals_at j number (round_steps setting (run setting steps)) ≡ (if is_sent_to setting.group.size frame j then 1 else 0)

-- and no frame that was sent before
abbrev pub NothingOldArrives : Type 0
NothingOldArrives =
    (setting : Setting) (s : GroupState) (number j : ℕ)
    → number < length s.sent → arrivals_at j number (round_steps setting s) ≡ 0

-- what is sent in answer arrives without sending anything
abbrev pub AnswersPutNothingOut : Type 0
AnswersPutNothingOut =
    (setting : Setting) (steps : Schedule) → IsSetting setting
    → (after_round setting (run setting steps)).sent ≡ (answered setting (run setting steps)).sent

-- rounds are steps of a schedule like any others
abbrev pub RoundsAreSteps : Type 0
RoundsAreSteps =
    (setting : Setting) (steps : Schedule) (n : ℕ)
    → after_rounds setting n (run setting steps) ≡ run setting (steps ++ steps_of_rounds setting n (run setting steps))

-- and nobody casts in them
abbrev pub RoundsCastNothing : Type 0
RoundsCastNothing =
    (setting : Setting) (s : GroupState) (n i : ℕ) → own_casts (facts_at (after_rounds setting n s) i) ≡ own_casts (facts_at s i)

-- no step finds a history full where each history has an entry left for each step
abbrev pub RoomForEachStepIsEnough : Type 0
RoomForEachStepIsEnough =
    (setting : Setting) (s : GroupState) (steps : Schedule)
    → ((k : ℕ) → length (s.histories k) + length steps ≤ setting.limit) → FindNoneFull setting s steps

-- Behind so many rounds it holds, from every state that any schedule reaches, where no answer in these rounds is that a history
-- is full. Nothing is asked of what was received before: all frames may have been lost.
abbrev pub BehindRounds : (Setting → ℕ) → (Setting → GroupState → Type 0) → Type 0
BehindRounds rounds P =
    (setting : Setting) (steps : Schedule) → IsSetting setting
    → FindNoneFull setting (run setting steps) (steps_of_rounds setting (rounds setting) (run setting steps))
    → P setting (after_rounds setting (rounds setting) (run setting steps))

-- ---- what each round does

abbrev pub one_round : Setting → ℕ
one_round setting = 1

-- how many casts member i made
abbrev pub cast_count : Setting → GroupState → ℕ → ℕ
cast_count setting s i = delivered (seat_at setting i) (facts_at s i) i

-- how many of them are expanded at member j: all before the first one that it lacks
abbrev pub expanded_at : GroupState → ℕ → ℕ → ℕ
expanded_at s j i = expanded_count (casts_in (facts_at s j)) i

-- everybody has heard of every cast of each other member
abbrev pub EverybodyHasHeard : Setting → GroupState → Type 0
EverybodyHasHeard setting s =
    (j i : ℕ) → j < setting.group.size → i < setting.group.size → j ≢ i → known (facts_at s j) i ≡ cast_count setting s i

-- Where everybody has heard of every cast, a round expands with each member, of each other, as many more casts as an answer has frames;
-- or all that there are.
abbrev pub RoundsExpand : Type 0
RoundsExpand =
    (setting : Setting) (steps : Schedule) (j i : ℕ) → IsSetting setting → EverybodyHasHeard setting (run setting steps)
    → FindNoneFull setting (run setting steps) (round_steps setting (run setting steps))
    → j < setting.group.size → i < setting.group.size → j ≢ i
    → min (cast_count setting (run setting steps) i) (expanded_at (run setting steps) j i + MOST_FRAMES)
    ≤ expanded_at (after_round setting (run setting steps)) j i

-- ---- what a few rounds do

-- one round, and as many more as it takes to ask for a whole window
abbrev pub rounds_to_deliver : Setting → ℕ
rounds_to_deliver setting = 1 + div_ceil setting.group.window MOST_FRAMES

-- two rounds where the window is no wider than an answer has frames, and never more than five
abbrev pub TheseAreFew : Type 0
TheseAreFew =
    (setting : Setting) → IsSetting setting
    → (setting.group.window ≤ MOST_FRAMES → rounds_to_deliver setting ≡ 2) × (rounds_to_deliver setting ≤ 5)

-- every member has delivered every message that was cast
abbrev pub EverybodyHasEverything : Setting → GroupState → Type 0
EverybodyHasEverything setting s =
    (j : ℕ) (m : Name) → j < setting.group.size → WasCast setting s m → HasDelivered setting s j m

-- no two members differ in what they have delivered
abbrev pub EverybodyHasTheSame : Setting → GroupState → Type 0
EverybodyHasTheSame setting s =
    (j k : ℕ) (m : Name) → j < setting.group.size → k < setting.group.size
    → HasDelivered setting s j m ↔ HasDelivered setting s k m

-- no member lacks anything that it has heard of, so nobody asks
abbrev pub NothingIsMissing : Setting → GroupState → Type 0
NothingIsMissing setting s =
    (j i : ℕ) → j < setting.group.size → i < setting.group.size → missing (seat_at setting j) (facts_at s j) i ≡ []

-- where everything that was cast has arrived everywhere, everything is delivered everywhere
abbrev pub ArrivedEverywhereIsDelivered : Setting → GroupState → Type 0
ArrivedEverywhereIsDelivered setting s =
    ((j : ℕ) (m : Name) → j < setting.group.size → WasCast setting s m → has_arrived s j m ≡ true)
    → EverybodyHasEverything setting s

-- ---- and one round more

abbrev pub rounds_to_be_stable : Setting → ℕ
rounds_to_be_stable setting = rounds_to_deliver setting + 1

-- every member knows that all its casts are delivered everywhere, and keeps none of their frames
abbrev pub EverythingIsStable : Setting → GroupState → Type 0
EverythingIsStable setting s =
    (i : ℕ) → i < setting.group.size
    → (stable (seat_at setting i) (facts_at s i) ≡ cast_count setting s i) × (window (seat_at setting i) (facts_at s i) ≡ [])

-- and every member knows of the casts of each member that all are delivered everywhere
abbrev pub EverybodyKnowsWhatIsStable : Setting → GroupState → Type 0
EverybodyKnowsWhatIsStable setting s =
    (j i : ℕ) → j < setting.group.size → i < setting.group.size → stable_of (seat_at setting j) (facts_at s j) i ≡ cast_count setting s i

-- a step that is a tick, an arrival, or asks for help
abbrev pub IsNoCastStep : Step → Type 0
IsNoCastStep (CastStep i load) = ⊥
IsNoCastStep (ArriveStep j number) = Unit {0}
IsNoCastStep (TickStep i) = Unit {0}
IsNoCastStep (HelpStep j i) = Unit {0}

-- whatever ticks, asks for help and arrives from now on, of all frames that were ever sent, no history changes
abbrev pub NothingChangesAnyMore : Setting → GroupState → Type 0
NothingChangesAnyMore setting s =
    (steps : Schedule) (k : ℕ) → AllByRecursion IsNoCastStep steps
    → (run_from setting s steps).histories k ≡ s.histories k

-- so every further round leaves each history as it is
abbrev pub FurtherRoundsAreQuiet : Type 0
FurtherRoundsAreQuiet =
    (setting : Setting) (steps : Schedule) (more k : ℕ) → IsSetting setting
    → FindNoneFull setting (run setting steps) (steps_of_rounds setting (rounds_to_be_stable setting) (run setting steps))
    → (after_rounds setting (rounds_to_be_stable setting + more) (run setting steps)).histories k
    ≡ (after_rounds setting (rounds_to_be_stable setting) (run setting steps)).histories k
