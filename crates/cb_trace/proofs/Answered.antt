-- What an answer that adds an entry sends, and that it does not depend on the limit while an entry is left.
use Rattle.std.proofs.Common.{◌≡◌, ◌⊎◌, ℕ, Bool, true, false, not, ◌&&◌, eqb, ltb, List, [], ◌∷◌, length, filter, Some, None, Result, Ok, Err, refl, sym, ap, subst, ◌∙◌, inl, inr, if◌then◌else◌}
use Rattle.std.specs.List.{AllByRecursion, range_with_len}
use Rattle.std.proofs.lemmas.Bool.{cond_both}
use Rattle.cb_times.specs.declared.name.Name.{Name}
use Rattle.cb_frames.specs.declared.frame.TheConstants.{LONGEST_PAYLOAD, MOST_MESSAGES}
use Rattle.cb_frames.specs.declared.frame.Range.{Range}
use Rattle.cb_frames.specs.declared.fault.FrameFault.{FrameFault}
use Rattle.cb_frames.specs.Fields.{Load, payloads_of, load_bytes, CastFields, RequestFields, FrameFields, CastFrame, StatusFrame, RequestFrame, HelpFrame}
use Rattle.cb_frames.specs.Text.{text_of}
use Rattle.cb_history.specs.Read.{frame_read}
use Rattle.cb_history.specs.declared.answer.ArriveRefusal.{ArriveRefusal}
use Rattle.cb_history.specs.declared.answer.ArriveRefusal.TheVariants as arrivals
use Rattle.cb_history.specs.declared.answer.TickRefusal.{TickRefusal}
use Rattle.cb_history.specs.declared.answer.TickRefusal.TheVariants as ticks
use Rattle.cb_history.specs.declared.answer.Outgoing.{Outgoing}
use Rattle.cb_history.specs.CastFault.{CastFault, EmptyBurst, BurstTooLong, PayloadTooLong, WindowFull, HistoryFull}
use Rattle.cb_history.specs.Group.{Identity}
use Rattle.cb_history.specs.Facts.{EntryFields, CastEntry, ArriveEntry, TickEntry, Fact, facts_of}
use Rattle.cb_history.specs.Known.{missing, ranges_of}
use Rattle.cb_history.specs.Answers.{is_full, is_too_many, next_cast, cast_answer, group_of, are_members, is_impossible, is_repeat, is_overlap, is_too_far, is_change, deliveries, sent_in_answer, ArrivalSays, Accepted, Repeat, frame_answer, answer_to, arrive_answer, status_of, is_new_status, request_to, requests, tick_answer}
use Rattle.cb_history.specs.Legal.{Call, ToCast, ToTake, ToTick, ToHelp, cast_entry, arrive_entry, tick_entry, entry_of}
use Rattle.cb_history.specs.ReplayLaws.{call_of}
use Rattle.cb_history.proofs.Views.{IsIn}
use Rattle.cb_schedules.specs.Schedule.{CastAnswer, ArrivalAnswer, TickAnswer, answer_of, frames_sent}
use Rattle.cb_schedules.proofs.Lists.{all_flat}
use Rattle.cb_trace.specs.JointOrder.{PutsOut}

-- ---- limits

module _ (seat : Identity) (limit other : ℕ) (entries : List EntryFields) (same : is_full limit entries ≡ is_full other entries) where
  cast_room : (load : Load) → cast_answer seat limit entries load ≡ cast_answer seat other entries load
  unfolding cast_answer
  cast_room load =
      let r : Bool → Result CastFields CastFault = λ full.
      if eqb (length (payloads_of load)) 0 then Err EmptyBurst else
      if ltb MOST_MESSAGES (length (payloads_of load)) then Err BurstTooLong else
      if ltb LONGEST_PAYLOAD (length (load_bytes load)) then Err PayloadTooLong else
      if is_too_many seat (facts_of entries) (length (payloads_of load)) then Err WindowFull else
      if full then Err HistoryFull else Ok (next_cast seat (facts_of entries) load) in
      ap r same

  frame_room : (facts : List Fact) (frame : FrameFields) → frame_answer seat limit entries facts frame ≡ frame_answer seat other entries facts frame
  frame_room facts frame =
      let r : Bool → Result ArrivalSays ArriveRefusal = λ full.
      if not (eqb (group_of frame) seat.group.number) then Err arrivals.OtherGroup else
      if not (are_members seat.group.size frame) then Err arrivals.BadMember else
      if is_impossible seat facts frame then Err arrivals.Impossible else
      if is_repeat facts frame then Ok Repeat else
      if is_overlap facts frame then Err arrivals.Overlap else
      if is_too_far seat facts frame then Err arrivals.TooFar else
      if is_change seat facts frame && full then Err arrivals.HistoryFull else
      if is_change seat facts frame then Ok (Accepted (deliveries seat facts frame) true (sent_in_answer seat facts frame)) else
      Ok (Accepted [] false (sent_in_answer seat facts frame)) in
      ap r same

  answer_room : (r : Result FrameFields FrameFault) → answer_to seat limit entries r ≡ answer_to seat other entries r
  answer_room (Ok frame) = frame_room (facts_of entries) frame
  answer_room (Err fault) = refl

  arrive_room : (bytes : List ℕ) → arrive_answer seat limit entries bytes ≡ arrive_answer seat other entries bytes
  unfolding arrive_answer
  arrive_room bytes = answer_room (frame_read bytes)

  tick_room : tick_answer seat limit entries ≡ tick_answer seat other entries
  unfolding tick_answer
  tick_room =
      let new : Bool = is_new_status seat (facts_of entries) in
      let out : List Outgoing = record { to = None; bytes = text_of (StatusFrame (status_of seat (facts_of entries))) } ∷ requests seat (facts_of entries) in
      let r : Bool → Result (Bool × List Outgoing) TickRefusal = λ full. if new && full then Err ticks.HistoryFull else Ok (new, out) in
      ap r same

  -- the entry that a call adds
  pub entry_room : (call : Call) → entry_of seat limit entries call ≡ entry_of seat other entries call
  entry_room (ToCast load) = ap cast_entry (cast_room load)
  entry_room (ToTake bytes) = ap (arrive_entry bytes) (arrive_room bytes)
  entry_room ToTick = ap (tick_entry (text_of (StatusFrame (status_of seat (facts_of entries))))) tick_room
  entry_room (ToHelp i) = refl

-- ---- what is sent

-- the bytes ask for what is missing
abbrev pub IsRequest : List ℕ → Type 0
IsRequest bytes = (r : RequestFields) × (bytes ≡ text_of (RequestFrame r))

-- What is received out with an entry: the bytes that it sends, and beside these requests alone.
pub record ComesWith (e : EntryFields) (out : List Outgoing) : Type 0 where
  pub all : (bytes : List ℕ) → PutsOut e bytes → (o : Outgoing) × IsIn o out × (o.bytes ≡ bytes)
  pub only : AllByRecursion (λ (o : Outgoing). PutsOut e o.bytes ⊎ IsRequest o.bytes) out

cast_out : (frame : List ℕ) (r : Result CastFields CastFault) → cast_entry r ≡ Some (CastEntry frame) → ComesWith (CastEntry frame) (frames_sent (CastAnswer r))
cast_out frame (Ok c) is =
    let said : text_of (CastFrame c) ≡ frame = cc in
    record {
      all = λ bytes e. (record { to = None; bytes = text_of (CastFrame c) }, inl refl, said ∙ e);
      only = (inl (sym said), tt);
    }
cast_out frame (Err fault) is = absurd cc

-- an arrival that adds an entry puts nothing out: only a request is answered
abbrev Quiet : List ℕ → EntryFields → Result ArrivalSays ArriveRefusal → Type 0
Quiet bytes e r = arrive_entry bytes r ≡ Some e → frames_sent (ArrivalAnswer r) ≡ []

accepted_quiet : (bytes : List ℕ) (e : EntryFields) (seat : Identity) (facts : List Fact) (frame : FrameFields) → is_change seat facts frame ≡ true
    → Quiet bytes e (Ok (Accepted (deliveries seat facts frame) true (sent_in_answer seat facts frame)))
accepted_quiet bytes e seat facts (CastFrame c) change is = refl
accepted_quiet bytes e seat facts (StatusFrame s) change is = refl
accepted_quiet bytes e seat facts (RequestFrame r) change is = absurd cc
accepted_quiet bytes e seat facts (HelpFrame h) change is = absurd cc

frame_quiet : (seat : Identity) (limit : ℕ) (entries : List EntryFields) (facts : List Fact) (frame : FrameFields) (bytes : List ℕ) (e : EntryFields) → Quiet bytes e (frame_answer seat limit entries facts frame)
frame_quiet seat limit entries facts frame bytes e =
    let P : Result ArrivalSays ArriveRefusal → Type 0 = Quiet bytes e in
    cond_both (not (eqb (group_of frame) seat.group.number)) _ _ P (λ _ is. refl) (λ _.
    cond_both (not (are_members seat.group.size frame)) _ _ P (λ _ is. refl) (λ _.
    cond_both (is_impossible seat facts frame) _ _ P (λ _ is. refl) (λ _.
    cond_both (is_repeat facts frame) _ _ P (λ _ is. refl) (λ _.
    cond_both (is_overlap facts frame) _ _ P (λ _ is. refl) (λ _.
    cond_both (is_too_far seat facts frame) _ _ P (λ _ is. refl) (λ _.
    cond_both (is_change seat facts frame && is_full limit entries) _ _ P (λ _ is. refl) (λ _.
    cond_both (is_change seat facts frame) _ _ P (λ change. accepted_quiet bytes e seat facts frame change) (λ _ is. absurd cc))))))))

answer_quiet : (seat : Identity) (limit : ℕ) (entries : List EntryFields) (r : Result FrameFields FrameFault) (bytes : List ℕ) (e : EntryFields) → Quiet bytes e (answer_to seat limit entries r)
answer_quiet seat limit entries (Ok frame) bytes e is = frame_quiet seat limit entries (facts_of entries) frame bytes e is
answer_quiet seat limit entries (Err fault) bytes e is = refl

take_out : (seat : Identity) (limit : ℕ) (entries : List EntryFields) (bytes : List ℕ) (e : EntryFields) → Quiet bytes e (arrive_answer seat limit entries bytes)
unfolding arrive_answer
take_out seat limit entries bytes e = answer_quiet seat limit entries (frame_read bytes) bytes e

nothing_comes : (bytes : List ℕ) (names : List Name) → ComesWith (ArriveEntry bytes names) []
nothing_comes bytes names = record { all = λ _ e. absurd e; only = tt }

-- a tick sends its status, and requests
asks_alone : (seat : Identity) (i : ℕ) (ranges : List Range) → AllByRecursion (λ (o : Outgoing). IsRequest o.bytes) (request_to seat i ranges)
asks_alone seat i [] = tt
asks_alone seat i (r ∷ ranges) = ((_, refl), tt)

are_requests : (seat : Identity) (facts : List Fact) → AllByRecursion (λ (o : Outgoing). IsRequest o.bytes) (requests seat facts)
are_requests seat facts =
    all_flat (λ (o : Outgoing). IsRequest o.bytes) (λ i. request_to seat i (ranges_of (missing seat facts i))) (filter (λ i. not (eqb i seat.me)) (range_with_len 0 seat.group.size))
    (λ i there. asks_alone seat i (ranges_of (missing seat facts i)))

or_requests : (e : EntryFields) (out : List Outgoing) → AllByRecursion (λ (o : Outgoing). IsRequest o.bytes) out → AllByRecursion (λ (o : Outgoing). PutsOut e o.bytes ⊎ IsRequest o.bytes) out
or_requests e [] all = tt
or_requests e (o ∷ out) all = (inr all.0, or_requests e out all.1)

abbrev ticked : Bool → Bool → List ℕ → List Outgoing → Result (Bool × List Outgoing) TickRefusal
ticked new full status out = if new && full then Err ticks.HistoryFull else Ok (new, record { to = None; bytes = status } ∷ out)

tick_out : (new full : Bool) (said status : List ℕ) (out : List Outgoing) → AllByRecursion (λ (o : Outgoing). IsRequest o.bytes) out → tick_entry said (ticked new full said out) ≡ Some (TickEntry status)
    → ComesWith (TickEntry status) (frames_sent (TickAnswer (ticked new full said out)))
tick_out false full said status out asks is = absurd cc
tick_out true true said status out asks is = absurd cc
tick_out true false said status out asks is =
    let same : said ≡ status = cc in
    record {
      all = λ bytes e. (record { to = None; bytes = said }, inl refl, same ∙ e);
      only = (inl (sym same), or_requests (TickEntry status) out asks);
    }

tick_comes : (seat : Identity) (limit : ℕ) (entries : List EntryFields) (status : List ℕ) → entry_of seat limit entries ToTick ≡ Some (TickEntry status) → ComesWith (TickEntry status) (frames_sent (TickAnswer (tick_answer seat limit entries)))
unfolding tick_answer
tick_comes seat limit entries status is =
    tick_out (is_new_status seat (facts_of entries)) (is_full limit entries) (text_of (StatusFrame (status_of seat (facts_of entries)))) status (requests seat (facts_of entries)) (are_requests seat (facts_of entries)) is

pub comes_with : (seat : Identity) (limit : ℕ) (entries : List EntryFields) (e : EntryFields) → entry_of seat limit entries (call_of e) ≡ Some e → ComesWith e (frames_sent (answer_of seat limit entries (call_of e)))
comes_with seat limit entries (CastEntry frame) is = cast_out frame (cast_answer seat limit entries _) is
comes_with seat limit entries (ArriveEntry frame names) is =
    subst (ComesWith (ArriveEntry frame names)) (sym (take_out seat limit entries frame (ArriveEntry frame names) is)) (nothing_comes frame names)
comes_with seat limit entries (TickEntry status) is = tick_comes seat limit entries status is
