-- A history that has an entry left for each step is never found full.
use Rattle.std.proofs.Common.{◌≡◌, ℕ, ◌+◌, ◌<◌, ◌≤◌, Bool, true, not, ◌&&◌, eqb, ltb, List, [], ◌∷◌, ◌++◌, length, Option, Some, None, Result, Ok, Err, sym, subst, arith}
use Rattle.std.proofs.lemmas.Bool.{cond_both, eqb-true, leb-true, and_parts}
use Rattle.cb_frames.specs.declared.frame.TheConstants.{LONGEST_PAYLOAD, MOST_MESSAGES}
use Rattle.cb_frames.specs.declared.fault.FrameFault.{FrameFault}
use Rattle.cb_frames.specs.Fields.{Load, payloads_of, load_bytes, CastFields, FrameFields}
use Rattle.cb_history.specs.Read.{frame_read}
use Rattle.cb_history.specs.declared.answer.ArriveRefusal.{ArriveRefusal}
use Rattle.cb_history.specs.declared.answer.TickRefusal.{TickRefusal}
use Rattle.cb_history.specs.declared.answer.Outgoing.{Outgoing}
use Rattle.cb_history.specs.CastFault.{CastFault}
use Rattle.cb_history.specs.Group.{Identity}
use Rattle.cb_history.specs.Facts.{EntryFields, facts_of}
use Rattle.cb_history.specs.Answers.{is_full, is_too_many, cast_answer, group_of, are_members, is_impossible, is_repeat, is_overlap, is_too_far, is_change, ArrivalSays, frame_answer, answer_to, arrive_answer, is_new_status, tick_answer}
use Rattle.cb_history.specs.Legal.{Call, ToCast, ToTake, ToTick, ToHelp, entry_of, and_entry, history_after}
use Rattle.cb_schedules.specs.Schedule.{Setting, seat_at, Step, Schedule, Asked, Calls, OfNoMember, OfNoFrame, OfNoBytes, CastAnswer, ArrivalAnswer, TickAnswer, answer_of, GroupState, asked_by, after_asked, step_after}
use Rattle.cb_schedules.specs.Rounds.{IsNotFull}
use Rattle.cb_schedules.specs.RoundLaws.{RoomForEachStepIsEnough}
use Rattle.cb_schedules.proofs.Happening.{answer_to_asked, FindNoneFullFrom, from_none_full}

-- with an entry left no answer is that the history is full
module _ (seat : Identity) (limit : ℕ) (entries : List EntryFields) (room : length entries < limit) where
  never_full : is_full limit entries ≡ true → ⊥
  never_full full = let le = leb-true limit (length entries) full in omega (arith, room, le)

  cast_not_full : (load : Load) → IsNotFull (CastAnswer (cast_answer seat limit entries load))
  unfolding cast_answer
  cast_not_full load =
      let Fine : Result CastFields CastFault → Type 0 = λ r. IsNotFull (CastAnswer r) in
      cond_both (eqb (length (payloads_of load)) 0) _ _ Fine (λ _ e. cc)
      (λ _. cond_both (ltb MOST_MESSAGES (length (payloads_of load))) _ _ Fine (λ _ e. cc)
      (λ _. cond_both (ltb LONGEST_PAYLOAD (length (load_bytes load))) _ _ Fine (λ _ e. cc)
      (λ _. cond_both (is_too_many seat (facts_of entries) (length (payloads_of load))) _ _ Fine (λ _ e. cc)
      (λ _. cond_both (is_full limit entries) _ _ Fine (λ full. absurd (never_full full)) (λ _. tt)))))

  frame_not_full : (frame : FrameFields) → IsNotFull (ArrivalAnswer (frame_answer seat limit entries (facts_of entries) frame))
  frame_not_full frame =
      let Fine : Result ArrivalSays ArriveRefusal → Type 0 = λ r. IsNotFull (ArrivalAnswer r) in
      cond_both (not (eqb (group_of frame) seat.group.number)) _ _ Fine (λ _ e. cc)
      (λ _. cond_both (not (are_members seat.group.size frame)) _ _ Fine (λ _ e. cc)
      (λ _. cond_both (is_impossible seat (facts_of entries) frame) _ _ Fine (λ _ e. cc)
      (λ _. cond_both (is_repeat (facts_of entries) frame) _ _ Fine (λ _. tt)
      (λ _. cond_both (is_overlap (facts_of entries) frame) _ _ Fine (λ _ e. cc)
      (λ _. cond_both (is_too_far seat (facts_of entries) frame) _ _ Fine (λ _ e. cc)
      (λ _. cond_both (is_change seat (facts_of entries) frame && is_full limit entries) _ _ Fine
      (λ full. absurd (never_full (and_parts (is_change seat (facts_of entries) frame) (is_full limit entries) full).1))
      (λ _. cond_both (is_change seat (facts_of entries) frame) _ _ Fine (λ _. tt) (λ _. tt))))))))

  answer_not_full : (r : Result FrameFields FrameFault) → IsNotFull (ArrivalAnswer (answer_to seat limit entries r))
  answer_not_full (Ok frame) = frame_not_full frame
  answer_not_full (Err fault) = λ e. cc

  arrival_not_full : (bytes : List ℕ) → IsNotFull (ArrivalAnswer (arrive_answer seat limit entries bytes))
  unfolding arrive_answer
  arrival_not_full bytes = answer_not_full (frame_read bytes)

  tick_not_full : IsNotFull (TickAnswer (tick_answer seat limit entries))
  unfolding tick_answer
  tick_not_full =
      cond_both (is_new_status seat (facts_of entries) && is_full limit entries) _ _ (λ (r : Result (Bool × List Outgoing) TickRefusal). IsNotFull (TickAnswer r))
      (λ full. absurd (never_full (and_parts (is_new_status seat (facts_of entries)) (is_full limit entries) full).1)) (λ _. tt)

  pub call_not_full : (call : Call) → IsNotFull (answer_of seat limit entries call)
  call_not_full (ToCast load) = cast_not_full load
  call_not_full (ToTake bytes) = arrival_not_full bytes
  call_not_full ToTick = tick_not_full
  call_not_full (ToHelp i) = tt

pub one_more : (entries : List EntryFields) (o : Option EntryFields) → length (and_entry entries o) ≤ length entries + 1
one_more entries None = omega arith
one_more entries (Some e) = grown entries
  where
    grown : (es : List EntryFields) → length (es ++ e ∷ []) ≤ length es + 1
    grown [] = omega arith
    grown (x ∷ es) = let rest = grown es in omega (arith, rest)

-- a step adds at most an entry to each history
asked_adds : (setting : Setting) (s : GroupState) (asked : Asked) (k : ℕ) → length ((after_asked setting s asked).histories k) ≤ length (s.histories k) + 1
asked_adds setting s (Calls i call) k =
    cond_both (eqb k i) (history_after (seat_at setting i) setting.limit (s.histories i) call) (s.histories k) (λ (es : List EntryFields). length es ≤ length (s.histories k) + 1)
    (λ same. subst (λ (j : ℕ). length (history_after (seat_at setting i) setting.limit (s.histories i) call) ≤ length (s.histories j) + 1) (sym (eqb-true k i same))
    (one_more (s.histories i) (entry_of (seat_at setting i) setting.limit (s.histories i) call)))
    (λ _. omega arith)
asked_adds setting s OfNoMember k = omega arith
asked_adds setting s OfNoFrame k = omega arith
asked_adds setting s OfNoBytes k = omega arith

asked_not_full : (setting : Setting) (s : GroupState) (asked : Asked) → ((k : ℕ) → length (s.histories k) < setting.limit) → IsNotFull (answer_to_asked setting s asked)
asked_not_full setting s (Calls i call) room = call_not_full (seat_at setting i) setting.limit (s.histories i) (room i) call
asked_not_full setting s OfNoMember room = tt
asked_not_full setting s OfNoFrame room = tt
asked_not_full setting s OfNoBytes room = tt

pub step_adds : (setting : Setting) (s : GroupState) (step : Step) (k : ℕ) → length ((step_after setting s step).histories k) ≤ length (s.histories k) + 1
unfolding step_after
step_adds setting s step k = asked_adds setting s (asked_by setting s.sent step) k

pub none_full : (setting : Setting) (s : GroupState) (steps : Schedule) → ((k : ℕ) → length (s.histories k) + length steps ≤ setting.limit) → FindNoneFullFrom setting s steps
none_full setting s [] room = tt
none_full setting s (step ∷ steps) room = (
  asked_not_full setting s (asked_by setting s.sent step) (λ k. let left = room k in omega (arith, left)),
  none_full setting (step_after setting s step) steps (λ k. let left = room k in let adds = step_adds setting s step k in omega (arith, left, adds)),
)

pub room_enough : RoomForEachStepIsEnough
room_enough setting s steps room = from_none_full setting s steps (none_full setting s steps room)
