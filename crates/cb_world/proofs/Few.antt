-- An answer sends few frames.
use Rattle.std.proofs.Common.{ℕ, ◌≤◌, Bool, true, false, not, ◌&&◌, eqb, ltb, List, [], ◌∷◌, length, map, take, filter, Option, Some, None, Result, Ok, Err, arith}
use Rattle.std.specs.List.{range_with_len}
use Rattle.std.proofs.lemmas.Bool.{cond_both}
use Rattle.std.proofs.lemmas.List.{length-map}
use Rattle.std.proofs.lemmas.List.FromFn.{length-range_with_len}
use Rattle.cb_frames.specs.declared.frame.TheConstants.{LONGEST_PAYLOAD, MOST_FRAMES, MOST_MESSAGES}
use Rattle.cb_frames.specs.declared.frame.Range.{Range}
use Rattle.cb_frames.specs.declared.fault.FrameFault.{FrameFault}
use Rattle.cb_frames.specs.Fields.{Load, payloads_of, load_bytes, CastFields, FrameFields, CastFrame, StatusFrame, RequestFrame, HelpFrame}
use Rattle.cb_frames.specs.Text.{text_of}
use Rattle.cb_history.specs.Read.{frame_read}
use Rattle.cb_history.specs.declared.answer.ArriveRefusal.{ArriveRefusal}
use Rattle.cb_history.specs.declared.answer.TickRefusal.{TickRefusal}
use Rattle.cb_history.specs.declared.answer.HelpFault.{HelpFault}
use Rattle.cb_history.specs.declared.answer.ArriveRefusal.TheVariants as arrivals
use Rattle.cb_history.specs.declared.answer.TickRefusal.TheVariants as ticks
use Rattle.cb_history.specs.declared.answer.Outgoing.{Outgoing}
use Rattle.cb_history.specs.CastFault.{CastFault, EmptyBurst, BurstTooLong, PayloadTooLong, WindowFull, HistoryFull}
use Rattle.cb_history.specs.Group.{Identity}
use Rattle.cb_history.specs.Facts.{EntryFields, Fact, facts_of}
use Rattle.cb_history.specs.Known.{missing, ranges_of}
use Rattle.cb_history.specs.Helping.{handed_on, help_answer}
use Rattle.cb_history.specs.Answers.{is_full, is_too_many, next_cast, cast_answer, group_of, are_members, is_impossible, is_repeat, is_overlap, is_too_far, is_change, deliveries, is_asked_for, window, sent_in_answer, ArrivalSays, Accepted, Repeat, answer_to, arrive_answer, status_of, is_new_status, request_to, requests, tick_answer}
use Rattle.cb_history.specs.Legal.{Call, ToCast, ToTake, ToTick, ToHelp}
use Rattle.cb_schedules.specs.Schedule.{Answer, CastAnswer, ArrivalAnswer, TickAnswer, HelpAnswer, answer_of, frames_sent}
use Rattle.cb_world.specs.declared.taking.TheConstants.{MOST_SENT_OUT}
use Rattle.cb_world.proofs.Lists.{short_flat, short_filter, short_take}

-- a status to all, and a request to each other member; or the frames that were asked for
abbrev Few : Answer → Type 0
Few answer = length (frames_sent answer) ≤ MOST_SENT_OUT

module _ (seat : Identity) (limit : ℕ) (entries : List EntryFields) where
  one_request : (i : ℕ) (ranges : List Range) → length (request_to seat i ranges) ≤ 1
  one_request i [] = omega arith
  one_request i (r ∷ ranges) = omega arith

  few_requests : (facts : List Fact) → length (requests seat facts) ≤ seat.group.size
  few_requests facts =
      let others : List ℕ = filter (λ i. not (eqb i seat.me)) (range_with_len 0 seat.group.size) in
      omega (
        arith,
        length-range_with_len 0 seat.group.size,
        short_filter (λ i. not (eqb i seat.me)) (range_with_len 0 seat.group.size),
        short_flat (λ i. request_to seat i (ranges_of (missing seat facts i))) others (λ i. one_request i (ranges_of (missing seat facts i))),
      )

  tick_refused : (refusal : TickRefusal) → Few (TickAnswer (Err refusal))
  tick_refused refusal = omega arith

  status_and_requests : (is_new : Bool) (status : Outgoing) → seat.group.size ≤ 64 → Few (TickAnswer (Ok (is_new, status ∷ requests seat (facts_of entries))))
  status_and_requests is_new status size = omega (arith, size, few_requests (facts_of entries))

  few_in_a_tick : seat.group.size ≤ 64 → Few (TickAnswer (tick_answer seat limit entries))
  unfolding tick_answer
  few_in_a_tick size =
      cond_both (is_new_status seat (facts_of entries) && is_full limit entries) _ _ (λ (r : Result (Bool × List Outgoing) TickRefusal). Few (TickAnswer r)) (λ _. tick_refused ticks.HistoryFull)
      (λ _. status_and_requests (is_new_status seat (facts_of entries)) (record { to = None; bytes = text_of (StatusFrame (status_of seat (facts_of entries))) }) size)

  no_cast : (fault : CastFault) → Few (CastAnswer (Err fault))
  no_cast fault = omega arith

  one_cast : (c : CastFields) → Few (CastAnswer (Ok c))
  one_cast c = omega arith

  few_in_a_cast : (load : Load) → Few (CastAnswer (cast_answer seat limit entries load))
  unfolding cast_answer
  few_in_a_cast load =
      let P : Result CastFields CastFault → Type 0 = λ r. Few (CastAnswer r) in
      cond_both (eqb (length (payloads_of load)) 0) _ _ P (λ _. no_cast EmptyBurst)
      (λ _. cond_both (ltb MOST_MESSAGES (length (payloads_of load))) _ _ P (λ _. no_cast BurstTooLong)
      (λ _. cond_both (ltb LONGEST_PAYLOAD (length (load_bytes load))) _ _ P (λ _. no_cast PayloadTooLong)
      (λ _. cond_both (is_too_many seat (facts_of entries) (length (payloads_of load))) _ _ P (λ _. no_cast WindowFull)
      (λ _. cond_both (is_full limit entries) _ _ P (λ _. no_cast HistoryFull) (λ _. one_cast (next_cast seat (facts_of entries) load))))))

  none_asked_for : length {A = Outgoing} [] ≤ MOST_SENT_OUT
  none_asked_for = omega arith

  first_asked_for : (to : ℕ) (asked : List CastFields) → length (map (λ c. let out : Outgoing = record { to = Some to; bytes = text_of (CastFrame c) } in out) (take MOST_FRAMES asked)) ≤ MOST_SENT_OUT
  first_asked_for to asked =
      omega (arith, length-map (take MOST_FRAMES asked) (λ c. let out : Outgoing = record { to = Some to; bytes = text_of (CastFrame c) } in out), short_take MOST_FRAMES asked)

  few_asked_for : (facts : List Fact) (frame : FrameFields) → length (sent_in_answer seat facts frame) ≤ MOST_SENT_OUT
  few_asked_for facts (CastFrame c) = none_asked_for
  few_asked_for facts (StatusFrame s) = none_asked_for
  few_asked_for facts (HelpFrame h) =
      cond_both (eqb h.helper seat.me) _ _ (λ (out : List Outgoing). length out ≤ MOST_SENT_OUT)
      (λ _. first_asked_for h.requester (filter (is_asked_for h.ranges) (handed_on seat facts h.sender))) (λ _. none_asked_for)
  few_asked_for facts (RequestFrame r) =
      cond_both (eqb r.asked seat.me) _ _ (λ (out : List Outgoing). length out ≤ MOST_SENT_OUT) (λ _. first_asked_for r.requester (filter (is_asked_for r.ranges) (window seat facts))) (λ _. none_asked_for)

  few_in_help : (r : Result (Option Outgoing) HelpFault) → Few (HelpAnswer r)
  few_in_help (Ok None) = omega arith
  few_in_help (Ok (Some out)) = omega arith
  few_in_help (Err fault) = omega arith

  arrival_refused : (refusal : ArriveRefusal) → Few (ArrivalAnswer (Err refusal))
  arrival_refused refusal = omega arith

  repeated : Few (ArrivalAnswer (Ok Repeat))
  repeated = omega arith

  few_in_answer : (read : Result FrameFields FrameFault) → Few (ArrivalAnswer (answer_to seat limit entries read))
  few_in_answer (Err fault) = arrival_refused (arrivals.Malformed fault)
  few_in_answer (Ok frame) =
      let P : Result ArrivalSays ArriveRefusal → Type 0 = λ r. Few (ArrivalAnswer r) in
      let facts : List Fact = facts_of entries in
      cond_both (not (eqb (group_of frame) seat.group.number)) _ _ P (λ _. arrival_refused arrivals.OtherGroup)
      (λ _. cond_both (not (are_members seat.group.size frame)) _ _ P (λ _. arrival_refused arrivals.BadMember)
      (λ _. cond_both (is_impossible seat facts frame) _ _ P (λ _. arrival_refused arrivals.Impossible)
      (λ _. cond_both (is_repeat facts frame) _ _ P (λ _. repeated)
      (λ _. cond_both (is_overlap facts frame) _ _ P (λ _. arrival_refused arrivals.Overlap)
      (λ _. cond_both (is_too_far seat facts frame) _ _ P (λ _. arrival_refused arrivals.TooFar)
      (λ _. cond_both (is_change seat facts frame && is_full limit entries) _ _ P (λ _. arrival_refused arrivals.HistoryFull)
      (λ _. cond_both (is_change seat facts frame) (Ok (Accepted (deliveries seat facts frame) true (sent_in_answer seat facts frame))) (Ok (Accepted [] false (sent_in_answer seat facts frame))) P
      (λ _. few_asked_for facts frame) (λ _. few_asked_for facts frame))))))))

  few_in_an_arrival : (bytes : List ℕ) → Few (ArrivalAnswer (arrive_answer seat limit entries bytes))
  unfolding arrive_answer
  few_in_an_arrival bytes = few_in_answer (frame_read bytes)

  pub few_sent_out : (call : Call) → seat.group.size ≤ 64 → length (frames_sent (answer_of seat limit entries call)) ≤ MOST_SENT_OUT
  few_sent_out (ToCast load) size = few_in_a_cast load
  few_sent_out (ToTake bytes) size = few_in_an_arrival bytes
  few_sent_out ToTick size = few_in_a_tick size
  few_sent_out (ToHelp i) size = few_in_help (help_answer seat entries i)
