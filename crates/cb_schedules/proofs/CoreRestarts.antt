-- Cores come back as members do.
use Rattle.std.proofs.Common.{◌≡◌, ℕ, suc, ◌+◌, ◌≤◌, Bool, leb, List, [], ◌∷◌, ◌++◌, length, map, take, filter, Option, Some, None, slice_get, refl, sym, ap, subst, ◌∙◌, arith}
use Rattle.std.proofs.lemmas.Bool.{cond_both}
use Rattle.std.proofs.lemmas.List.{length-append, length-take}
use Rattle.cb_delay.specs.declared.message.Event.{Event}
use Rattle.cb_history.specs.Group.{Parameters, AreParameters}
use Rattle.cb_history.specs.Facts.{EntryFields, facts_of}
use Rattle.cb_history.specs.Events.{events}
use Rattle.cb_history.specs.Legal.{Call, room_for_one, and_entry, entry_of, history_after}
use Rattle.cb_schedules.specs.Schedule.{Setting, IsSetting, seat_at, CastStep, ArriveStep, TickStep, HelpStep, SentFrame, Asked, Calls, OfNoMember, OfNoFrame, OfNoBytes, Answer, answer_of, frames_sent, sent_by, asked_by, GroupState, run}
use Rattle.cb_schedules.specs.SentLaws.{OneNameSameBytes}
use Rattle.cb_schedules.specs.Headline.{Headline}
use Rattle.cb_schedules.specs.Forgetting.{run_of_cores}
use Rattle.cb_schedules.specs.Restarts.{WaitingFrame, EnteredCall, JournaledState, nothing_journaled, with_own, JournaledStep, EnterStep, WriteStep, SendStep, HandOutStep, RestartStep, WriteFirst, entered_call, waiting_frames, after_entering, and_sent, written_entries, and_handed, is_kept, journaled_step, journaled_from, journaled_run, steps_for, without_dropped, there_now}
use Rattle.cb_schedules.specs.RestartLaws.{EachJournaledRun, OfWhatIsThere, BesideWhatIsLeft, AsksForWhatWasEntered, ArrivalsWereSent, HasItsHistories, SentItsFrames, HandedOutItsEvents, NothingIsTakenBack, written_events}
use Rattle.cb_schedules.specs.ForgettingRestarts.{after_entering_of_cores, journaled_step_of_cores, journaled_cores_from, journaled_run_of_cores, JournaledCoresRunAsMembers, EachJournaledRunOfCores, BesideWhatCoresLeave, OfWhatCoresLeave, WhatCoresWroteIsHandedOut, StepsOfCoresTakeNothingBack}
use Rattle.cb_schedules.proofs.Room.{call_not_full, one_more}
use Rattle.cb_schedules.proofs.Forgetting.{call_same, cores_run_as_members}
use Rattle.cb_schedules.proofs.Cores.{headline_of_cores}
use Rattle.cb_schedules.proofs.Journaled.{of_each, run_holds}
use Rattle.cb_schedules.proofs.RestartLaws.{each_run, asks_for_what_was_entered, arrivals_were_sent, has_its_histories, sent_its_frames, handed_out_its_events, names_have_one_text_now, steps_take_nothing_back, hands_out_behind}

-- ---- no more calls are left than steps were made

filter_few : {A : Type 0} (p : A → Bool) (xs : List A) → length (filter p xs) ≤ length xs
filter_few p [] = omega arith
filter_few {A} p (x ∷ xs) = cond_both (p x) (x ∷ filter p xs) (filter p xs) (λ (ys : List A). length ys ≤ length (x ∷ xs)) (λ _. let few = filter_few p xs in omega (arith, few)) (λ _. let few = filter_few p xs in omega (arith, few))

abbrev AreFew : JournaledState → JournaledState → Type 0
AreFew r s = length s.entered ≤ length r.entered + 1

entering_few : (setting : Setting) (r : JournaledState) (asked : Asked) → AreFew r (after_entering setting r asked)
entering_few setting r (Calls i call) = omega (arith, length-append r.entered (entered_call setting i (r.histories i) call ∷ []))
entering_few setting r OfNoMember = omega arith
entering_few setting r OfNoFrame = omega arith
entering_few setting r OfNoBytes = omega arith

sending_few : (r : JournaledState) (j n : ℕ) (o : Option WaitingFrame) → AreFew r (and_sent WriteFirst r j n o)
sending_few r j n None = omega arith
sending_few r j n (Some w) = cond_both (leb w.behind (r.written j)) _ r (AreFew r) (λ _. omega arith) (λ _. omega arith)

handing_few : (r : JournaledState) (j : ℕ) (o : Option Event) → AreFew r (and_handed r j o)
handing_few r j None = omega arith
handing_few r j (Some e) = omega arith

step_few : (setting : Setting) (r : JournaledState) (step : JournaledStep) → AreFew r (journaled_step WriteFirst setting r step)
unfolding journaled_step
step_few setting r (EnterStep step) = entering_few setting r (asked_by setting r.sent step)
step_few setting r (WriteStep j) = omega arith
step_few setting r (SendStep j n) = sending_few r j n (slice_get (r.waiting j) n)
step_few setting r (HandOutStep j) = handing_few r j (slice_get (events (seat_at setting j) (facts_of (written_entries r j))) (length (r.handed j)))
step_few setting r (RestartStep j) = let few = filter_few (is_kept r j) r.entered in omega (arith, few)

from_few : (setting : Setting) (r : JournaledState) (steps : List JournaledStep) → length (journaled_from WriteFirst setting r steps).entered ≤ length r.entered + length steps
unfolding journaled_from
from_few setting r [] = omega arith
from_few setting r (step ∷ steps) =
    let one = step_few setting r step in
    let rest = from_few setting (journaled_step WriteFirst setting r step) steps in
    omega (arith, one, rest)

as_many_steps : (frames : List SentFrame) (calls : List EnteredCall) → length (steps_for frames calls) ≡ length calls
as_many_steps frames [] = refl
as_many_steps frames (x ∷ calls) = let rest = as_many_steps (frames ++ x.out) calls in omega (arith, rest)

-- what is left of members with room for each step is a run of cores
left_alike : (setting : Setting) (steps : List JournaledStep) → length steps ≤ setting.limit
    → run_of_cores setting.group (without_dropped (journaled_run WriteFirst setting steps)) ≡ run setting (without_dropped (journaled_run WriteFirst setting steps))
left_alike setting steps room =
    let r = journaled_run WriteFirst setting steps in
    let few = from_few setting nothing_journaled steps in
    let many = as_many_steps [] r.entered in
    cores_run_as_members setting (without_dropped r) (omega (arith, few, many, room))

-- ---- a step of cores is one of members with room

-- each history has room for so many entries more
abbrev HasRoom : Setting → JournaledState → ℕ → Type 0
HasRoom setting r n = (k : ℕ) → length (r.histories k) + n ≤ setting.limit

-- member i gave this answer, and has entered this
abbrev state_with : JournaledState → ℕ → Call → Answer → Option EntryFields → JournaledState
state_with r i call answer o =
    let x : EnteredCall = record { member = i; call = call; place = length (and_entry (r.histories i) o); out = map (sent_by i) (frames_sent answer) } in
    record r { histories = with_own r.histories i (and_entry (r.histories i) o); waiting = with_own r.waiting i (r.waiting i ++ waiting_frames x); entered = r.entered ++ x ∷ [] }

entering_alike : (setting : Setting) (r : JournaledState) (asked : Asked) → HasRoom setting r 1 → after_entering_of_cores setting.group r asked ≡ after_entering setting r asked
entering_alike setting r (Calls i call) room =
    let entries = r.histories i in
    let seat = seat_at setting i in
    let same = call_same seat setting.limit entries call (call_not_full seat setting.limit entries (let left = room i in omega (arith, left)) call) in
    ap (λ (answer : Answer). state_with r i call answer (entry_of seat (room_for_one entries) entries call)) (sym same.0)
    ∙ ap (state_with r i call (answer_of seat setting.limit entries call)) (sym same.1)
entering_alike setting r OfNoMember room = refl
entering_alike setting r OfNoFrame room = refl
entering_alike setting r OfNoBytes room = refl

step_alike : (setting : Setting) (r : JournaledState) (step : JournaledStep) → HasRoom setting r 1 → journaled_step_of_cores setting.group r step ≡ journaled_step WriteFirst setting r step
unfolding journaled_step_of_cores journaled_step
step_alike setting r (EnterStep (CastStep i load)) room = entering_alike setting r (asked_by setting r.sent (CastStep i load)) room
step_alike setting r (EnterStep (ArriveStep j number)) room = entering_alike setting r (asked_by setting r.sent (ArriveStep j number)) room
step_alike setting r (EnterStep (TickStep i)) room = entering_alike setting r (asked_by setting r.sent (TickStep i)) room
step_alike setting r (EnterStep (HelpStep j i)) room = entering_alike setting r (asked_by setting r.sent (HelpStep j i)) room
step_alike setting r (WriteStep j) room = refl
step_alike setting r (SendStep j n) room = refl
step_alike setting r (HandOutStep j) room = refl
step_alike setting r (RestartStep j) room = refl

-- ---- each step adds at most an entry

abbrev AddsOne : JournaledState → JournaledState → Type 0
AddsOne r s = (k : ℕ) → length (s.histories k) ≤ length (r.histories k) + 1

entering_adds : (setting : Setting) (r : JournaledState) (asked : Asked) → AddsOne r (after_entering setting r asked)
entering_adds setting r (Calls i call) k =
    of_each (λ (n : ℕ) (es : List EntryFields). length es ≤ length (r.histories n) + 1) r.histories i (history_after (seat_at setting i) setting.limit (r.histories i) call) k
    (one_more (r.histories i) (entry_of (seat_at setting i) setting.limit (r.histories i) call)) (λ other. omega arith)
entering_adds setting r OfNoMember k = omega arith
entering_adds setting r OfNoFrame k = omega arith
entering_adds setting r OfNoBytes k = omega arith

sending_adds : (r : JournaledState) (j n : ℕ) (o : Option WaitingFrame) → AddsOne r (and_sent WriteFirst r j n o)
sending_adds r j n None k = omega arith
sending_adds r j n (Some w) k = cond_both (leb w.behind (r.written j)) _ r (λ (s : JournaledState). length (s.histories k) ≤ length (r.histories k) + 1) (λ _. omega arith) (λ _. omega arith)

handing_adds : (r : JournaledState) (j : ℕ) (o : Option Event) → AddsOne r (and_handed r j o)
handing_adds r j None k = omega arith
handing_adds r j (Some e) k = omega arith

cut_is_short : {A : Type 0} (n : ℕ) (xs : List A) → length (take n xs) ≤ length xs + 1
cut_is_short n xs = let cut = length-take n xs in omega (arith, cut)

step_adds : (setting : Setting) (r : JournaledState) (step : JournaledStep) → AddsOne r (journaled_step WriteFirst setting r step)
unfolding journaled_step
step_adds setting r (EnterStep step) k = entering_adds setting r (asked_by setting r.sent step) k
step_adds setting r (WriteStep j) k = omega arith
step_adds setting r (SendStep j n) k = sending_adds r j n (slice_get (r.waiting j) n) k
step_adds setting r (HandOutStep j) k = handing_adds r j (slice_get (events (seat_at setting j) (facts_of (written_entries r j))) (length (r.handed j))) k
step_adds setting r (RestartStep j) k =
    of_each (λ (n : ℕ) (es : List EntryFields). length es ≤ length (r.histories n) + 1) r.histories j (written_entries r j) k (cut_is_short (r.written j) (r.histories j)) (λ other. omega arith)

from_alike : (setting : Setting) (r : JournaledState) (steps : List JournaledStep) → HasRoom setting r (length steps) → journaled_cores_from setting.group r steps ≡ journaled_from WriteFirst setting r steps
unfolding journaled_cores_from journaled_from
from_alike setting r [] room = refl
from_alike setting r (step ∷ steps) room =
    ap (λ (s : JournaledState). journaled_cores_from setting.group s steps) (step_alike setting r step (λ k. let left = room k in omega (arith, left)))
    ∙ from_alike setting (journaled_step WriteFirst setting r step) steps (λ k. let left = room k in let adds = step_adds setting r step k in omega (arith, left, adds))

pub journaled_cores_run_as_members : JournaledCoresRunAsMembers
journaled_cores_run_as_members setting steps few = from_alike setting nothing_journaled steps (λ k. omega (arith, few))

-- ---- what is so of members is so of cores

-- the group, with a limit that these steps do not reach
abbrev with_room : Parameters → List JournaledStep → Setting
with_room group steps = record { group = group; limit = suc (length steps) }

alike : (group : Parameters) (steps : List JournaledStep) → journaled_run_of_cores group steps ≡ journaled_run WriteFirst (with_room group steps) steps
alike group steps = journaled_cores_run_as_members (with_room group steps) steps (omega arith)

has_room : (group : Parameters) (steps : List JournaledStep) → AreParameters group → IsSetting (with_room group steps)
has_room group steps are = record { group = are; one_or_more = omega arith }

of_cores : (P : Setting → GroupState → JournaledState → Type 0) → EachJournaledRun (BesideWhatIsLeft P) → (group : Parameters) (steps : List JournaledStep) → AreParameters group
    → P (with_room group steps) (run_of_cores group (without_dropped (journaled_run_of_cores group steps))) (journaled_run_of_cores group steps)
of_cores P each group steps are =
    let room = with_room group steps in
    subst (λ (r : JournaledState). P room (run_of_cores group (without_dropped r)) r) (sym (alike group steps))
    (subst (λ (s : GroupState). P room s (journaled_run WriteFirst room steps)) (sym (left_alike room steps (omega arith))) (each room steps (has_room group steps are)))

pub cores_ask_for_what_was_entered : EachJournaledRunOfCores (BesideWhatCoresLeave AsksForWhatWasEntered)
cores_ask_for_what_was_entered setting steps are = of_cores AsksForWhatWasEntered (each_run (BesideWhatIsLeft AsksForWhatWasEntered) asks_for_what_was_entered) setting.group steps are

pub arrivals_at_cores_were_sent : EachJournaledRunOfCores (BesideWhatCoresLeave ArrivalsWereSent)
arrivals_at_cores_were_sent setting steps are = of_cores ArrivalsWereSent (each_run (BesideWhatIsLeft ArrivalsWereSent) arrivals_were_sent) setting.group steps are

pub cores_have_its_histories : EachJournaledRunOfCores (BesideWhatCoresLeave HasItsHistories)
cores_have_its_histories setting steps are = of_cores HasItsHistories (each_run (BesideWhatIsLeft HasItsHistories) has_its_histories) setting.group steps are

pub cores_sent_its_frames : EachJournaledRunOfCores (BesideWhatCoresLeave SentItsFrames)
cores_sent_its_frames setting steps are = of_cores SentItsFrames (each_run (BesideWhatIsLeft SentItsFrames) sent_its_frames) setting.group steps are

pub cores_handed_out_its_events : EachJournaledRunOfCores (BesideWhatCoresLeave HandedOutItsEvents)
cores_handed_out_its_events setting steps are = of_cores HandedOutItsEvents (each_run (BesideWhatIsLeft HandedOutItsEvents) handed_out_its_events) setting.group steps are

pub headline_of_cores_with_restarts : EachJournaledRunOfCores (OfWhatCoresLeave Headline)
headline_of_cores_with_restarts setting steps are = headline_of_cores setting (without_dropped (journaled_run_of_cores setting.group steps)) are

pub cores_names_have_one_text : EachJournaledRunOfCores (OfWhatIsThere OneNameSameBytes)
cores_names_have_one_text setting steps are =
    of_cores (λ (within : Setting) (s : GroupState) (r : JournaledState). OneNameSameBytes within (there_now r)) (each_run (OfWhatIsThere OneNameSameBytes) names_have_one_text_now) setting.group steps are

pub steps_of_cores_take_nothing_back : StepsOfCoresTakeNothingBack
steps_of_cores_take_nothing_back setting steps step are =
    let all = steps ++ step ∷ [] in
    let room = with_room setting.group all in
    let longer = length-append steps (step ∷ []) in
    let before : journaled_run_of_cores setting.group steps ≡ journaled_run WriteFirst room steps = journaled_cores_run_as_members room steps (omega (arith, longer)) in
    subst (λ (r : JournaledState). NothingIsTakenBack r (journaled_run_of_cores setting.group all)) (sym before)
    (subst (NothingIsTakenBack (journaled_run WriteFirst room steps)) (sym (alike setting.group all)) (steps_take_nothing_back room steps step (has_room setting.group all are)))

pub what_cores_wrote_is_handed_out : WhatCoresWroteIsHandedOut
what_cores_wrote_is_handed_out setting steps are k =
    let r = journaled_run_of_cores setting.group steps in
    let tells = subst (λ (s : JournaledState). (more : List Event) × (written_events setting s k ≡ s.handed k ++ more)) (sym (alike setting.group steps)) ((run_holds (with_room setting.group steps) steps (has_room setting.group steps are)).handed k) in
    let more = map (λ (e : Event). HandOutStep k) tells.0 in
    let all = steps ++ more in
    let room = with_room setting.group all in
    let longer = length-append steps more in
    let before : r ≡ journaled_run WriteFirst room steps = journaled_cores_run_as_members room steps (omega (arith, longer)) in
    let tells_there : written_events room (journaled_run WriteFirst room steps) k ≡ (journaled_run WriteFirst room steps).handed k ++ tells.0 =
    subst (λ (s : JournaledState). written_events setting s k ≡ s.handed k ++ tells.0) before tells.1 in (
      tells.0,
      tells.1,
      ap (λ (s : JournaledState). s.handed k) (alike setting.group all) ∙ hands_out_behind room steps k tells.0 tells_there
          ∙ ap (λ (s : JournaledState). written_events setting s k) (sym before),
    )
