-- Cores run as members do whose histories are never full.
use Rattle.std.proofs.Common.{◌≡◌, ℕ, suc, ◌≤◌, Bool, true, false, cond, not, ◌&&◌, eqb, ltb, List, [], ◌∷◌, ◌++◌, length, map, Option, None, Result, Ok, Err, refl, sym, ap, subst, ◌∙◌, arith}
use Rattle.cb_frames.specs.declared.frame.TheConstants.{LONGEST_PAYLOAD, MOST_MESSAGES}
use Rattle.cb_frames.specs.declared.fault.FrameFault.{FrameFault}
use Rattle.cb_frames.specs.Fields.{Load, payloads_of, load_bytes, CastFields, FrameFields, StatusFrame}
use Rattle.cb_frames.specs.Text.{text_of}
use Rattle.cb_history.specs.Read.{frame_read}
use Rattle.cb_history.specs.declared.answer.ArriveRefusal.{ArriveRefusal}
use Rattle.cb_history.specs.declared.answer.ArriveRefusal.TheVariants as arrivals
use Rattle.cb_history.specs.declared.answer.TickRefusal.{TickRefusal}
use Rattle.cb_history.specs.declared.answer.TickRefusal.TheVariants as ticks
use Rattle.cb_history.specs.declared.answer.Outgoing.{Outgoing}
use Rattle.cb_history.specs.CastFault.{CastFault, EmptyBurst, BurstTooLong, PayloadTooLong, WindowFull, HistoryFull}
use Rattle.cb_history.specs.Group.{Parameters, AreParameters, Identity}
use Rattle.cb_history.specs.Facts.{EntryFields, facts_of}
use Rattle.cb_history.specs.Answers.{is_full, is_too_many, next_cast, cast_answer, group_of, are_members, is_impossible, is_repeat, is_overlap, is_too_far, is_change, deliveries, sent_in_answer, ArrivalSays, Accepted, Repeat, frame_answer, answer_to, arrive_answer, status_of, is_new_status, requests, tick_answer}
use Rattle.cb_history.specs.Legal.{Call, ToCast, ToTake, ToTick, ToHelp, cast_entry, arrive_entry, tick_entry, entry_of, and_entry, room_for_one}
use Rattle.cb_history.proofs.Calls.{room_left}
use Rattle.cb_schedules.specs.Schedule.{Setting, seat_at, Step, CastStep, ArriveStep, TickStep, HelpStep, Schedule, Asked, Calls, OfNoMember, OfNoFrame, OfNoBytes, Answer, CastAnswer, ArrivalAnswer, TickAnswer, answer_of, frames_sent, sent_by, GroupState, with_history, asked_by, after_asked, step_after, nothing_yet, run_from, run}
use Rattle.cb_schedules.specs.Headline.{EachSchedule}
use Rattle.cb_schedules.specs.Rounds.{IsNotFull}
use Rattle.cb_schedules.specs.Forgetting.{after_asked_of_cores, step_of_cores, cores_from, run_of_cores}
use Rattle.cb_schedules.specs.ForgettingLaws.{NoneIsFull, CoresRunAsMembers, NoCoreIsFull, FullHistoriesMakeTheDifference, RunsOfCoresGoOn}
use Rattle.cb_schedules.proofs.Happening.{answer_to_asked, answer_to_step, FindNoneFullFrom, none_full_from, from_none_full}
use Rattle.cb_schedules.proofs.Room.{none_full}

-- ---- an answer that is not that the history is full is the same with room for one entry

-- the tests of an answer, of which `none` is that no entry is left
abbrev a_cast : Bool → Bool → Bool → Bool → CastFields → Bool → Result CastFields CastFault
a_cast empty many long closed c none =
    cond empty (Err EmptyBurst) (cond many (Err BurstTooLong) (cond long (Err PayloadTooLong) (cond closed (Err WindowFull) (cond none (Err HistoryFull) (Ok c)))))

cast_free : (empty many long closed : Bool) (c : CastFields) (none : Bool) → IsNotFull (CastAnswer (a_cast empty many long closed c none)) → a_cast empty many long closed c none ≡ a_cast empty many long closed c false
cast_free true many long closed c none free = refl
cast_free false true long closed c none free = refl
cast_free false false true closed c none free = refl
cast_free false false false true c none free = refl
cast_free false false false false c true free = absurd (free refl)
cast_free false false false false c false free = refl

abbrev an_arrival : Bool → Bool → Bool → Bool → Bool → Bool → Bool → ArrivalSays → ArrivalSays → Bool → Result ArrivalSays ArriveRefusal
an_arrival group members impossible repeat overlap far change changed unchanged none =
    cond (not group) (Err arrivals.OtherGroup) (cond (not members) (Err arrivals.BadMember) (cond impossible (Err arrivals.Impossible) (cond repeat (Ok Repeat) (cond overlap (Err arrivals.Overlap)
    (cond far (Err arrivals.TooFar) (cond (change && none) (Err arrivals.HistoryFull) (cond change (Ok changed) (Ok unchanged))))))))

arrival_free : (group members impossible repeat overlap far change : Bool) (changed unchanged : ArrivalSays) (none : Bool)
    → IsNotFull (ArrivalAnswer (an_arrival group members impossible repeat overlap far change changed unchanged none))
    → an_arrival group members impossible repeat overlap far change changed unchanged none ≡ an_arrival group members impossible repeat overlap far change changed unchanged false
arrival_free false members impossible repeat overlap far change changed unchanged none free = refl
arrival_free true false impossible repeat overlap far change changed unchanged none free = refl
arrival_free true true true repeat overlap far change changed unchanged none free = refl
arrival_free true true false true overlap far change changed unchanged none free = refl
arrival_free true true false false true far change changed unchanged none free = refl
arrival_free true true false false false true change changed unchanged none free = refl
arrival_free true true false false false false false changed unchanged none free = refl
arrival_free true true false false false false true changed unchanged true free = absurd (free refl)
arrival_free true true false false false false true changed unchanged false free = refl

abbrev a_tick : Bool → List Outgoing → Bool → Result (Bool × List Outgoing) TickRefusal
a_tick new out none = cond (new && none) (Err ticks.HistoryFull) (Ok (new, out))

tick_free : (new : Bool) (out : List Outgoing) (none : Bool) → IsNotFull (TickAnswer (a_tick new out none)) → a_tick new out none ≡ a_tick new out false
tick_free false out none free = refl
tick_free true out true free = absurd (free refl)
tick_free true out false free = refl

module _ (seat : Identity) (limit : ℕ) (entries : List EntryFields) where
  abbrev room : ℕ
  room = room_for_one entries

  cast_same : (load : Load) → IsNotFull (CastAnswer (cast_answer seat limit entries load)) → cast_answer seat limit entries load ≡ cast_answer seat room entries load
  unfolding cast_answer
  cast_same load free =
      let count = length (payloads_of load) in
      let long : Bool = ltb LONGEST_PAYLOAD (length (load_bytes load)) in
      let closed : Bool = is_too_many seat (facts_of entries) count in
      let answer : Bool → Result CastFields CastFault = a_cast (eqb count 0) (ltb MOST_MESSAGES count) long closed (next_cast seat (facts_of entries) load) in
      cast_free (eqb count 0) (ltb MOST_MESSAGES count) long closed (next_cast seat (facts_of entries) load) (is_full limit entries) free ∙ sym (ap answer (room_left entries))

  frame_same : (frame : FrameFields) → IsNotFull (ArrivalAnswer (frame_answer seat limit entries (facts_of entries) frame))
      → frame_answer seat limit entries (facts_of entries) frame ≡ frame_answer seat room entries (facts_of entries) frame
  frame_same frame free =
      let facts = facts_of entries in
      let group : Bool = eqb (group_of frame) seat.group.number in
      let changed : ArrivalSays = Accepted (deliveries seat facts frame) true (sent_in_answer seat facts frame) in
      let unchanged : ArrivalSays = Accepted [] false (sent_in_answer seat facts frame) in
      let answer : Bool → Result ArrivalSays ArriveRefusal =
      an_arrival group (are_members seat.group.size frame) (is_impossible seat facts frame) (is_repeat facts frame) (is_overlap facts frame) (is_too_far seat facts frame) (is_change seat facts frame) changed unchanged in
      arrival_free group (are_members seat.group.size frame) (is_impossible seat facts frame) (is_repeat facts frame) (is_overlap facts frame) (is_too_far seat facts frame) (is_change seat facts frame) changed unchanged
      (is_full limit entries) free
      ∙ sym (ap answer (room_left entries))

  read_same : (r : Result FrameFields FrameFault) → IsNotFull (ArrivalAnswer (answer_to seat limit entries r)) → answer_to seat limit entries r ≡ answer_to seat room entries r
  read_same (Ok frame) free = frame_same frame free
  read_same (Err fault) free = refl

  arrive_same : (bytes : List ℕ) → IsNotFull (ArrivalAnswer (arrive_answer seat limit entries bytes)) → arrive_answer seat limit entries bytes ≡ arrive_answer seat room entries bytes
  unfolding arrive_answer
  arrive_same bytes free = read_same (frame_read bytes) free

  tick_same : IsNotFull (TickAnswer (tick_answer seat limit entries)) → tick_answer seat limit entries ≡ tick_answer seat room entries
  unfolding tick_answer
  tick_same free =
      let new : Bool = is_new_status seat (facts_of entries) in
      let out : List Outgoing = record { to = None; bytes = text_of (StatusFrame (status_of seat (facts_of entries))) } ∷ requests seat (facts_of entries) in
      tick_free new out (is_full limit entries) free ∙ sym (ap (a_tick new out) (room_left entries))

  -- and so is the entry that it adds
  pub call_same : (call : Call) → IsNotFull (answer_of seat limit entries call) → (answer_of seat limit entries call ≡ answer_of seat room entries call) × (entry_of seat limit entries call ≡ entry_of seat room entries call)
  call_same (ToCast load) free = let same = cast_same load free in (ap CastAnswer same, ap cast_entry same)
  call_same (ToTake bytes) free = let same = arrive_same bytes free in (ap ArrivalAnswer same, ap (arrive_entry bytes) same)
  call_same ToTick free = let same = tick_same free in (ap TickAnswer same, ap (tick_entry (text_of (StatusFrame (status_of seat (facts_of entries))))) same)
  call_same (ToHelp i) free = (refl, refl)

-- ---- a step

-- member i gave this answer, and has entered this
abbrev state_with : GroupState → ℕ → Call → Answer → Option EntryFields → GroupState
state_with s i call answer o = record {
  histories = with_history s.histories i (and_entry (s.histories i) o);
  sent = s.sent ++ map (sent_by i) (frames_sent answer);
  outcomes = s.outcomes ++ record { asked = Calls i call; answer = answer; first = length s.sent; count = length (frames_sent answer) } ∷ [];
}

module _ (setting : Setting) (s : GroupState) where
  call_alike : (i : ℕ) (call : Call) → IsNotFull (answer_of (seat_at setting i) setting.limit (s.histories i) call) → after_asked_of_cores setting.group s (Calls i call) ≡ after_asked setting s (Calls i call)
  call_alike i call free =
      let entries = s.histories i in
      let same = call_same (seat_at setting i) setting.limit entries call free in
      ap (λ (answer : Answer). state_with s i call answer (entry_of (seat_at setting i) (room_for_one entries) entries call)) (sym same.0)
      ∙ ap (state_with s i call (answer_of (seat_at setting i) setting.limit entries call)) (sym same.1)

  asked_alike : (asked : Asked) → IsNotFull (answer_to_asked setting s asked) → after_asked_of_cores setting.group s asked ≡ after_asked setting s asked
  asked_alike (Calls i call) free = call_alike i call free
  asked_alike OfNoMember free = refl
  asked_alike OfNoFrame free = refl
  asked_alike OfNoBytes free = refl

  pub step_alike : (step : Step) → IsNotFull (answer_to_step setting s step) → step_of_cores setting.group s step ≡ step_after setting s step
  unfolding step_of_cores step_after
  step_alike (CastStep i load) free = asked_alike (asked_by setting s.sent (CastStep i load)) free
  step_alike (ArriveStep j number) free = asked_alike (asked_by setting s.sent (ArriveStep j number)) free
  step_alike (TickStep i) free = asked_alike (asked_by setting s.sent (TickStep i)) free
  step_alike (HelpStep j i) free = asked_alike (asked_by setting s.sent (HelpStep j i)) free

-- ---- runs

pub cores_run_alike : (setting : Setting) (s : GroupState) (steps : Schedule) → FindNoneFullFrom setting s steps → cores_from setting.group s steps ≡ run_from setting s steps
unfolding cores_from run_from
cores_run_alike setting s [] none = refl
cores_run_alike setting s (step ∷ steps) none =
    ap (λ (t : GroupState). cores_from setting.group t steps) (step_alike setting s step none.0) ∙ cores_run_alike setting (step_after setting s step) steps none.1

never_full : (setting : Setting) (steps : Schedule) → length steps ≤ setting.limit → FindNoneFullFrom setting nothing_yet steps
never_full setting steps few = none_full setting nothing_yet steps (λ k. omega (arith, few))

pub cores_run_as_members : CoresRunAsMembers
cores_run_as_members setting steps few = cores_run_alike setting nothing_yet steps (never_full setting steps few)

pub full_histories_make_the_difference : FullHistoriesMakeTheDifference
full_histories_make_the_difference setting steps none = sym (cores_run_alike setting nothing_yet steps (none_full_from setting nothing_yet steps none))

-- the group, with a limit that these steps do not reach
abbrev pub with_room : Parameters → Schedule → Setting
with_room group steps = record { group = group; limit = suc (length steps) }

pub in_room : (group : Parameters) (steps : Schedule) → run_of_cores group steps ≡ run (with_room group steps) steps
in_room group steps = cores_run_as_members (with_room group steps) steps (omega arith)

pub no_core_is_full : NoCoreIsFull
no_core_is_full group steps =
    subst NoneIsFull (sym (in_room group steps)) (from_none_full (with_room group steps) nothing_yet steps (never_full (with_room group steps) steps (omega arith)))

cores_go_on : (group : Parameters) (s : GroupState) (steps : Schedule) (step : Step) → cores_from group s (steps ++ step ∷ []) ≡ step_of_cores group (cores_from group s steps) step
unfolding cores_from
cores_go_on group s [] step = refl
cores_go_on group s (first ∷ steps) step = cores_go_on group (step_of_cores group s first) steps step

pub runs_of_cores_go_on : RunsOfCoresGoOn
runs_of_cores_go_on group steps step = cores_go_on group nothing_yet steps step

-- what is so after every schedule of members is so after every schedule of cores
pub each_of_cores : (P : Setting → GroupState → Type 0) → EachSchedule P → (group : Parameters) (steps : Schedule) → AreParameters group → P (with_room group steps) (run_of_cores group steps)
each_of_cores P each group steps are =
    subst (P (with_room group steps)) (sym (in_room group steps)) (each (with_room group steps) steps (record { group = are; one_or_more = omega arith }))
