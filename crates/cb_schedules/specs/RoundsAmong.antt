-- Rounds among some members, however many others are silent: each of these ticks, what they sent arrives at them, and then each asks for
-- help among them, and gets what they hand on.
use Rattle.std.specs.Prelude.{ℕ, zero, suc, ◌+◌, ◌<◌, Bool, true, not, ◌&&◌, ◌==◌, nat_le, List, [], ◌∷◌, ◌++◌, length, take, drop, map, filter, bytes_eq, ◌≡◌, if◌then◌else◌}
use Rattle.std.specs.List.{AllByRecursion, list_any, flat_map, range_with_len}
use Rattle.cb_times.specs.declared.name.Name.{Name}
use Rattle.cb_frames.specs.declared.frame.TheConstants.{MOST_RANGES}
use Rattle.cb_frames.specs.declared.frame.Range.{Range}
use Rattle.cb_frames.specs.Fields.{HelpFields, HelpFrame}
use Rattle.cb_history.specs.declared.answer.Outgoing.{Outgoing}
use Rattle.cb_history.specs.Group.{Identity}
use Rattle.cb_history.specs.Facts.{Fact}
use Rattle.cb_history.specs.Known.{missing, ranges_of, acknowledged_of}
use Rattle.cb_history.specs.Answers.{sent_in_answer}
use Rattle.cb_schedules.specs.Schedule.{Setting, IsSetting, seat_at, TickStep, ArriveStep, Schedule, SentFrame, GroupState, run_from, run}
use Rattle.cb_schedules.specs.Messages.{facts_at, HasDelivered}
use Rattle.cb_schedules.specs.Rounds.{receivers, FindNoneFull}
use Rattle.cb_schedules.specs.RoundLaws.{IsNoCastStep, rounds_to_deliver}
use Rattle.cb_schedules.specs.HelpRounds.{all_but}
use Rattle.cb_schedules.specs.HelpRoundLaws.{member_of_step}

-- ---- steps of those who are given

abbrev pub is_given : List ℕ → ℕ → Bool
is_given list k = list_any (λ l. l == k) list

-- those of the group, in rising order
abbrev pub given_members : ℕ → List ℕ → List ℕ
given_members size list = filter (is_given list) (range_with_len 0 size)

-- each of them ticks once
abbrev pub given_tick : ℕ → List ℕ → Schedule
given_tick size list = map TickStep (given_members size list)

-- those of them that a frame was sent to
abbrev pub given_receivers : ℕ → List ℕ → SentFrame → List ℕ
given_receivers size list frame = filter (is_given list) (receivers size frame.from frame.to)

-- frames, numbered from here on, arrive one after another, each once at each of them that it was sent to
abbrev pub given_take : ℕ → List ℕ → ℕ → List SentFrame → Schedule
given_take size list number [] = []
given_take size list number (frame ∷ frames) =
    map (λ j. ArriveStep j number) (given_receivers size list frame) ++ given_take size list (number + 1) frames

-- so do all that were sent since there were `count` of them
abbrev pub given_take_since : ℕ → List ℕ → ℕ → GroupState → Schedule
given_take_since size list count s = given_take size list count (drop count s.sent)

-- ---- help among them

-- whom a member asks for message n of sender i: each of the given others that it knows to have delivered it
abbrev pub helpers_among : Identity → List Fact → List ℕ → ℕ → ℕ → List ℕ
helpers_among seat facts list i n =
    filter (λ k. not (k == i) && not (k == seat.me) && nat_le n (acknowledged_of seat facts k i)) (given_members seat.group.size list)

-- what member j sends to helper l for these ranges of sender i
abbrev pub asks_for_help : Setting → ℕ → ℕ → List Range → ℕ → HelpFields
asks_for_help setting j i ranges l = record { group = setting.group.number; requester = j; helper = l; sender = i; ranges = take MOST_RANGES ranges }

-- what the helpers of member j answer, each by its definition; they are chosen for the first message that is missing, where one is
abbrev pub handed_by : Setting → List ℕ → GroupState → ℕ → ℕ → List Range → List Outgoing
handed_by setting list s j i [] = []
handed_by setting list s j i (r ∷ ranges) =
    flat_map (λ l. sent_in_answer (seat_at setting l) (facts_at s l) (HelpFrame (asks_for_help setting j i (r ∷ ranges) l)))
    (helpers_among (seat_at setting j) (facts_at s j) list i r.first)

-- the number of the first of these frames with these bytes, where they are numbered from here on and one has them
abbrev pub number_of : List ℕ → ℕ → List SentFrame → List ℕ
number_of bytes number [] = []
number_of bytes number (frame ∷ frames) = if bytes_eq bytes frame.bytes then number ∷ [] else number_of bytes (number + 1) frames

-- A helper hands on frames that were sent before, byte for byte: these arrive at the member. The help frames are no steps here, since they
-- enter nothing in a history.
abbrev pub takes_again : ℕ → List SentFrame → List Outgoing → Schedule
takes_again j sent outs = flat_map (λ out. map (ArriveStep j) (number_of out.bytes 0 sent)) outs

-- so each of them gets what it asks for, of each sender but itself
abbrev pub given_help : Setting → List ℕ → GroupState → Schedule
given_help setting list s =
    flat_map (λ j.
    flat_map (λ i. takes_again j s.sent (handed_by setting list s j i (ranges_of (missing (seat_at setting j) (facts_at s j) i))))
    (all_but setting.group.size j)) (given_members setting.group.size list)

-- ---- rounds

-- behind the ticks of a round
unfoldable pub given_ticked : Setting → List ℕ → GroupState → GroupState
given_ticked setting list s = run_from setting s (given_tick setting.group.size list)

-- behind the arrivals of what they sent, the statuses and the requests
unfoldable pub given_answered : Setting → List ℕ → GroupState → GroupState
given_answered setting list s =
    run_from setting (given_ticked setting list s)
    (given_take_since setting.group.size list (length s.sent) (given_ticked setting list s))

-- and behind the arrivals of what was sent in answer
unfoldable pub given_supplied : Setting → List ℕ → GroupState → GroupState
given_supplied setting list s =
    run_from setting (given_answered setting list s)
    (given_take_since setting.group.size list (length (given_ticked setting list s).sent) (given_answered setting list s))

-- A round: the ticks, the arrivals of what they sent, and of what was sent in answer; then the arrivals of what is handed on.
unfoldable pub round_among : Setting → List ℕ → GroupState → Schedule
round_among setting list s =
    given_tick setting.group.size list
    ++ (given_take_since setting.group.size list (length s.sent) (given_ticked setting list s)
    ++ (given_take_since setting.group.size list (length (given_ticked setting list s).sent) (given_answered setting list s)
    ++ given_help setting list (given_supplied setting list s)))

-- so many rounds, one after another
unfoldable pub rounds_among : Setting → List ℕ → ℕ → GroupState → Schedule
rounds_among setting list zero s = []
rounds_among setting list (suc n) s =
    rounds_among setting list n s ++ round_among setting list (run_from setting s (rounds_among setting list n s))

abbrev pub after_rounds_among : Setting → List ℕ → ℕ → GroupState → GroupState
after_rounds_among setting list n s = run_from setting s (rounds_among setting list n s)

-- ---- what they do

-- in no step does anybody else do anything or get anything
abbrev pub GivenActAlone : Type 0
GivenActAlone =
    (setting : Setting) (list : List ℕ) (n : ℕ) (s : GroupState)
    → AllByRecursion (λ step. is_given list (member_of_step step) ≡ true) (rounds_among setting list n s)

-- and nobody casts
abbrev pub RoundsAmongCastNothing : Type 0
RoundsAmongCastNothing =
    (setting : Setting) (list : List ℕ) (n : ℕ) (s : GroupState) → AllByRecursion IsNoCastStep (rounds_among setting list n s)

-- each of the given members has delivered what any of them had delivered before, its own casts among it
abbrev pub GivenHaveWhatAnyHad : Setting → List ℕ → GroupState → GroupState → Type 0
GivenHaveWhatAnyHad setting list before s =
    (j k : ℕ) (m : Name) → j < setting.group.size → k < setting.group.size → is_given list j ≡ true → is_given list k ≡ true
    → HasDelivered setting before k m → HasDelivered setting s j m

-- Behind as many rounds as repair takes where nobody is silent: whatever schedule led there, whoever is silent now.
abbrev pub RoundsAmongBringAll : Type 0
RoundsAmongBringAll =
    (setting : Setting) (list : List ℕ) (steps : Schedule) → IsSetting setting
    → FindNoneFull setting (run setting steps) (rounds_among setting list (rounds_to_deliver setting) (run setting steps))
    → GivenHaveWhatAnyHad setting list (run setting steps) (after_rounds_among setting list (rounds_to_deliver setting) (run setting steps))
