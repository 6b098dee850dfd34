-- Where a history has room, or a call adds nothing, its answer is the one without a limit; else the history is full.
use Rattle.std.proofs.Common.{◌≡◌, ◌≢◌, ◌⊎◌, ℕ, Bool, true, false, ◌&&◌, not, ◌==◌, List, [], ◌∷◌, length, Option, Some, None, Result, Ok, Err, refl, sym, ap, ◌∙◌, inl, inr}
use Rattle.std.specs.Prelude.{if◌then◌else◌, nat_le, nat_lt}
use Rattle.std.proofs.lemmas.Bool.{cases_Bool, eq-eqb}
use Rattle.cb_frames.specs.declared.frame.TheConstants.{LONGEST_PAYLOAD, MOST_MESSAGES}
use Rattle.cb_frames.specs.declared.fault.FrameFault.{FrameFault}
use Rattle.cb_frames.specs.Fields.{Load, load_bytes, payloads_of, CastFields, FrameFields}
use Rattle.cb_frames.specs.Reading.{HasValue}
use Rattle.cb_history.specs.Read.{frame_read}
use Rattle.cb_delay.specs.declared.message.Message.{Message}
use Rattle.cb_history.specs.declared.answer.ArriveRefusal.{ArriveRefusal}
use Rattle.cb_history.specs.declared.answer.ArriveRefusal.TheVariants as arrivals
use Rattle.cb_history.specs.declared.answer.Outgoing.{Outgoing}
use Rattle.cb_history.specs.declared.answer.TickRefusal.{TickRefusal}
use Rattle.cb_history.specs.declared.answer.TickRefusal.TheVariants as ticks
use Rattle.cb_frames.specs.Fields.{StatusFrame}
use Rattle.cb_frames.specs.Text.{text_of}
use Rattle.cb_history.specs.Answers.{ArrivalSays, Accepted, Repeat, answer_to, are_members, arrive_answer, cast_answer, deliveries, group_of, is_change, is_full, is_impossible, is_new_status, is_overlap, is_repeat, is_too_far, is_too_many, next_cast, requests, sent_in_answer, status_of, tick_answer}
use Rattle.cb_history.specs.CastFault.{CastFault, EmptyBurst, BurstTooLong, PayloadTooLong, WindowFull, HistoryFull, IsFault}
use Rattle.cb_history.specs.Facts.{EntryFields, facts_of}
use Rattle.cb_history.specs.Group.{Identity}
use Rattle.cb_history.specs.Legal.{arrive_entry, room_for_one, tick_entry}
use Rattle.cb_history.proofs.Calls.{room_left}
use Rattle.cb_member.specs.Kept.{limit_for}

-- ---- room

pub is_some : (n : ℕ) → (n == 0) ≡ false → n ≢ 0
is_some n off zero = let e : true ≡ false = sym (eq-eqb n 0 zero) ∙ off in absurd cc

pub room_is_left : (n : ℕ) (es kept : List EntryFields) → (n ≢ 0 → es ≡ kept) → (not (n == 0) && nat_le n (length kept)) ≡ false → is_full (limit_for n es) es ≡ false
room_is_left n es kept same off = elim (cases_Bool (n == 0)) [
  | inl zero ↦ ap (λ (b : Bool). is_full (if b then room_for_one es else n) es) zero ∙ room_left es
  | inr some ↦
      ap (λ (b : Bool). is_full (if b then room_for_one es else n) es) some ∙ ap (λ (xs : List EntryFields). nat_le n (length xs)) (same (is_some n some))
      ∙ (sym (ap (λ (b : Bool). not b && nat_le n (length kept)) some) ∙ off)
]

none_without : (x : Bool) → (not true && x) ≡ true → ⊥
none_without x on = absurd cc

pub no_room_is_left : (n : ℕ) (es kept : List EntryFields) → (n ≢ 0 → es ≡ kept) → (not (n == 0) && nat_le n (length kept)) ≡ true → is_full (limit_for n es) es ≡ true
no_room_is_left n es kept same on = elim (cases_Bool (n == 0)) [
  | inl zero ↦ absurd (none_without (nat_le n (length kept)) (sym (ap (λ (b : Bool). not b && nat_le n (length kept)) zero) ∙ on))
  | inr some ↦
      ap (λ (b : Bool). is_full (if b then room_for_one es else n) es) some ∙ ap (λ (xs : List EntryFields). nat_le n (length xs)) (same (is_some n some))
      ∙ (sym (ap (λ (b : Bool). not b && nat_le n (length kept)) some) ∙ on)
]

-- ---- casts

abbrev cast_rules : (empty many long window : Bool) → CastFields → Bool → Result CastFields CastFault
cast_rules empty many long window c full =
    if empty then Err EmptyBurst else if many then Err BurstTooLong else if long then Err PayloadTooLong else if window then Err WindowFull else if full then Err HistoryFull else Ok c

cast_refused_by : (empty many long window full : Bool) (c : CastFields) (fault : CastFault) → cast_rules empty many long window c false ≡ Err fault → cast_rules empty many long window c full ≡ Err fault
cast_refused_by true many long window full c fault h = h
cast_refused_by false true long window full c fault h = h
cast_refused_by false false true window full c fault h = h
cast_refused_by false false false true full c fault h = h
cast_refused_by false false false false full c fault h = absurd cc

cast_full_by : (empty many long window : Bool) (c d : CastFields) → cast_rules empty many long window c false ≡ Ok d → cast_rules empty many long window c true ≡ Err HistoryFull
cast_full_by true many long window c d h = absurd cc
cast_full_by false true long window c d h = absurd cc
cast_full_by false false true window c d h = absurd cc
cast_full_by false false false true c d h = absurd cc
cast_full_by false false false false c d h = refl

module _ (seat : Identity) (limit : ℕ) (es : List EntryFields) (load : Load) where
  abbrev many : ℕ
  many = length (payloads_of load)

  abbrev next : CastFields
  next = next_cast seat (facts_of es) load

  abbrev cast_with : Bool → Result CastFields CastFault
  cast_with full = cast_rules (many == 0) (nat_lt MOST_MESSAGES many) (nat_lt LONGEST_PAYLOAD (length (load_bytes load))) (is_too_many seat (facts_of es) many) next full

  cast_limited : (n : ℕ) → cast_answer seat n es load ≡ cast_with (is_full n es)
  unfolding cast_answer
  cast_limited n = refl

  cast_free : cast_answer seat (room_for_one es) es load ≡ cast_with false
  cast_free = cast_limited (room_for_one es) ∙ ap cast_with (room_left es)

  pub cast_same : is_full limit es ≡ false → cast_answer seat limit es load ≡ cast_answer seat (room_for_one es) es load
  cast_same room = cast_limited limit ∙ ap cast_with room ∙ sym cast_free

  cast_fault : (fault : CastFault) → cast_answer seat (room_for_one es) es load ≡ Err fault → cast_answer seat limit es load ≡ Err fault
  cast_fault fault h =
      cast_limited limit
      ∙ cast_refused_by (many == 0) (nat_lt MOST_MESSAGES many) (nat_lt LONGEST_PAYLOAD (length (load_bytes load))) (is_too_many seat (facts_of es) many) (is_full limit es) next fault (sym cast_free ∙ h)

  pub cast_refused : (told : Option CastFault) → IsFault told (cast_answer seat (room_for_one es) es load) → IsFault told (cast_answer seat limit es load)
  cast_refused (Some fault) h = cast_fault fault h
  cast_refused None h = absurd h

  pub cast_full : (c : CastFields) → is_full limit es ≡ true → cast_answer seat (room_for_one es) es load ≡ Ok c → cast_answer seat limit es load ≡ Err HistoryFull
  cast_full c full h =
      cast_limited limit ∙ ap cast_with full
      ∙ cast_full_by (many == 0) (nat_lt MOST_MESSAGES many) (nat_lt LONGEST_PAYLOAD (length (load_bytes load))) (is_too_many seat (facts_of es) many) next c (sym cast_free ∙ h)

-- ---- received bytes

abbrev frame_rules : (other strange impossible repeat overlap far change : Bool) (ds : List Message) (out : List Outgoing) (full : Bool) → Result ArrivalSays ArriveRefusal
frame_rules other strange impossible repeat overlap far change ds out full =
    if other then Err arrivals.OtherGroup else if strange then Err arrivals.BadMember else if impossible then Err arrivals.Impossible else
    if repeat then Ok Repeat else if overlap then Err arrivals.Overlap else if far then Err arrivals.TooFar else if change && full then Err arrivals.HistoryFull else
    if change then Ok (Accepted ds true out) else Ok (Accepted [] false out)

-- with no room it is the same, or would be a change
by_rules : (other strange impossible repeat overlap far change full : Bool) (ds : List Message) (out : List Outgoing) (bytes : List ℕ)
    → (frame_rules other strange impossible repeat overlap far change ds out full ≡ frame_rules other strange impossible repeat overlap far change ds out false)
    ⊎ (frame_rules other strange impossible repeat overlap far change ds out false ≡ Ok (Accepted ds true out))
by_rules true strange impossible repeat overlap far change full ds out bytes = inl refl
by_rules false true impossible repeat overlap far change full ds out bytes = inl refl
by_rules false false true repeat overlap far change full ds out bytes = inl refl
by_rules false false false true overlap far change full ds out bytes = inl refl
by_rules false false false false true far change full ds out bytes = inl refl
by_rules false false false false false true change full ds out bytes = inl refl
by_rules false false false false false false true true ds out bytes = inr refl
by_rules false false false false false false true false ds out bytes = inl refl
by_rules false false false false false false false full ds out bytes = inl refl

full_by : (other strange impossible repeat overlap far change : Bool) (ds : List Message) (out : List Outgoing) (bytes : List ℕ)
    → arrive_entry bytes (frame_rules other strange impossible repeat overlap far change ds out false) ≢ None
    → frame_rules other strange impossible repeat overlap far change ds out true ≡ Err arrivals.HistoryFull
full_by true strange impossible repeat overlap far change ds out bytes some = absurd (some refl)
full_by false true impossible repeat overlap far change ds out bytes some = absurd (some refl)
full_by false false true repeat overlap far change ds out bytes some = absurd (some refl)
full_by false false false true overlap far change ds out bytes some = absurd (some refl)
full_by false false false false true far change ds out bytes some = absurd (some refl)
full_by false false false false false true change ds out bytes some = absurd (some refl)
full_by false false false false false false true ds out bytes some = refl
full_by false false false false false false false ds out bytes some = absurd (some refl)

-- the answer with this limit is the one without, or that is a change
abbrev pub Limited : (free limited : Result ArrivalSays ArriveRefusal) → Type 0
Limited free limited =
    (limited ≡ free) ⊎ ((ds : List Message) × (out : List Outgoing) × (free ≡ Ok (Accepted ds true out)))

module _ (seat : Identity) (limit : ℕ) (es : List EntryFields) where
  abbrev frame_with : FrameFields → Bool → Result ArrivalSays ArriveRefusal
  frame_with frame full =
      let facts = facts_of es in
      frame_rules (not (group_of frame == seat.group.number)) (not (are_members seat.group.size frame)) (is_impossible seat facts frame) (is_repeat facts frame) (is_overlap facts frame) (is_too_far seat facts frame)
      (is_change seat facts frame) (deliveries seat facts frame) (sent_in_answer seat facts frame) full

  read_limited : (bytes : List ℕ) (r : Result FrameFields FrameFault) → Limited (answer_to seat (room_for_one es) es r) (answer_to seat limit es r)
  read_limited bytes (Err fault) = inl refl
  read_limited bytes (Ok frame) =
      let facts = facts_of es in
      let free : answer_to seat (room_for_one es) es (Ok frame) ≡ frame_with frame false = ap (frame_with frame) (room_left es) in
      elim (by_rules (not (group_of frame == seat.group.number)) (not (are_members seat.group.size frame)) (is_impossible seat facts frame) (is_repeat facts frame) (is_overlap facts frame) (is_too_far seat facts frame)
      (is_change seat facts frame) (is_full limit es) (deliveries seat facts frame) (sent_in_answer seat facts frame) bytes) [
        | inl same ↦ inl (same ∙ sym free)
        | inr change ↦ inr (deliveries seat facts frame, sent_in_answer seat facts frame, free ∙ change)
      ]

  full_read : (bytes : List ℕ) (r : Result FrameFields FrameFault) → is_full limit es ≡ true → arrive_entry bytes (answer_to seat (room_for_one es) es r) ≢ None → answer_to seat limit es r ≡ Err arrivals.HistoryFull
  full_read bytes (Err fault) full some = absurd (some refl)
  full_read bytes (Ok frame) full some =
      let facts = facts_of es in
      ap (frame_with frame) full ∙ full_by (not (group_of frame == seat.group.number)) (not (are_members seat.group.size frame)) (is_impossible seat facts frame) (is_repeat facts frame) (is_overlap facts frame) (is_too_far seat facts frame)
      (is_change seat facts frame) (deliveries seat facts frame) (sent_in_answer seat facts frame) bytes (λ none. some (ap (arrive_entry bytes) (ap (frame_with frame) (room_left es)) ∙ none))

  pub arrival_limited : (bytes : List ℕ) → Limited (arrive_answer seat (room_for_one es) es bytes) (arrive_answer seat limit es bytes)
  unfolding arrive_answer
  arrival_limited bytes = read_limited bytes (frame_read bytes)

  room_same : (bytes : List ℕ) (r : Result FrameFields FrameFault) → is_full limit es ≡ false → answer_to seat limit es r ≡ answer_to seat (room_for_one es) es r
  room_same bytes (Err fault) room = refl
  room_same bytes (Ok frame) room = ap (frame_with frame) (room ∙ sym (room_left es))

  pub arrival_same : (bytes : List ℕ) → is_full limit es ≡ false → arrive_answer seat limit es bytes ≡ arrive_answer seat (room_for_one es) es bytes
  unfolding arrive_answer
  arrival_same bytes room = room_same bytes (frame_read bytes) room

  change_enters : (bytes : List ℕ) (free : Result ArrivalSays ArriveRefusal) (ds : List Message) (out : List Outgoing) → free ≡ Ok (Accepted ds true out) → arrive_entry bytes free ≡ None → ⊥
  change_enters bytes free ds out is none = let e : arrive_entry bytes (Ok (Accepted ds true out)) ≡ None = ap (arrive_entry bytes) (sym is) ∙ none in absurd cc

  pub arrival_silent : (bytes : List ℕ) → arrive_entry bytes (arrive_answer seat (room_for_one es) es bytes) ≡ None → arrive_answer seat limit es bytes ≡ arrive_answer seat (room_for_one es) es bytes
  arrival_silent bytes none = elim (arrival_limited bytes) [
    | inl same ↦ same
    | inr change ↦ absurd (change_enters bytes (arrive_answer seat (room_for_one es) es bytes) change.0 change.1 change.2 none)
  ]

  not_both : (free : Result ArrivalSays ArriveRefusal) (says : ArrivalSays) (refusal : ArriveRefusal) → free ≡ Ok says → free ≡ Err refusal → ⊥
  not_both free says refusal ok err = let e : (let r : Result ArrivalSays ArriveRefusal = Ok says in r) ≡ Err refusal = sym ok ∙ err in absurd cc

  pub arrival_refused : (bytes : List ℕ) (refusal : ArriveRefusal) → arrive_answer seat (room_for_one es) es bytes ≡ Err refusal → arrive_answer seat limit es bytes ≡ Err refusal
  arrival_refused bytes refusal h = elim (arrival_limited bytes) [
    | inl same ↦ same ∙ h
    | inr change ↦ absurd (not_both (arrive_answer seat (room_for_one es) es bytes) (Accepted change.0 true change.1) refusal change.2 h)
  ]

  -- an entry would be added, and there is no room
  pub arrival_full : (bytes : List ℕ) → is_full limit es ≡ true → arrive_entry bytes (arrive_answer seat (room_for_one es) es bytes) ≢ None → arrive_answer seat limit es bytes ≡ Err arrivals.HistoryFull
  unfolding arrive_answer
  arrival_full bytes full some = full_read bytes (frame_read bytes) full some

  there_to_read : (bytes : List ℕ) (r : Result FrameFields FrameFault) → (answer_to seat limit es r ≡ Err arrivals.HistoryFull) ⊎ (arrive_entry bytes (answer_to seat limit es r) ≢ None) → HasValue r
  there_to_read bytes (Ok frame) enters = tt
  there_to_read bytes (Err fault) (inl full) = absurd cc
  there_to_read bytes (Err fault) (inr some) = absurd (some refl)

  -- bytes of which there is an entry, or would be, are a frame
  pub arrival_read : (bytes : List ℕ) → (arrive_answer seat limit es bytes ≡ Err arrivals.HistoryFull) ⊎ (arrive_entry bytes (arrive_answer seat limit es bytes) ≢ None) → HasValue (frame_read bytes)
  unfolding arrive_answer
  arrival_read bytes enters = there_to_read bytes (frame_read bytes) enters

-- ---- ticks

module _ (seat : Identity) (limit : ℕ) (es : List EntryFields) where
  abbrev tick_with : Bool → Bool → Result (Bool × List Outgoing) TickRefusal
  tick_with news full =
      if news && full then Err ticks.HistoryFull else
      Ok (news, record { to = None; bytes = text_of (StatusFrame (status_of seat (facts_of es))) } ∷ requests seat (facts_of es))

  tick_limited : (n : ℕ) → tick_answer seat n es ≡ tick_with (is_new_status seat (facts_of es)) (is_full n es)
  unfolding tick_answer
  tick_limited n = refl

  pub tick_same : is_full limit es ≡ false → tick_answer seat limit es ≡ tick_answer seat (room_for_one es) es
  tick_same room = tick_limited limit ∙ ap (tick_with (is_new_status seat (facts_of es))) (room ∙ sym (room_left es)) ∙ sym (tick_limited (room_for_one es))

  pub tick_silent : is_new_status seat (facts_of es) ≡ false → tick_answer seat limit es ≡ tick_answer seat (room_for_one es) es
  tick_silent off =
      tick_limited limit ∙ ap (λ (b : Bool). tick_with b (is_full limit es)) off ∙ sym (ap (λ (b : Bool). tick_with b (is_full (room_for_one es) es)) off) ∙ sym (tick_limited (room_for_one es))

  pub tick_full : is_new_status seat (facts_of es) ≡ true → is_full limit es ≡ true → tick_answer seat limit es ≡ Err ticks.HistoryFull
  tick_full on full = tick_limited limit ∙ ap (λ (b : Bool). tick_with b (is_full limit es)) on ∙ ap (tick_with true) full

  pub tick_enters_none : (status : List ℕ) → is_new_status seat (facts_of es) ≡ false → tick_entry status (tick_answer seat limit es) ≡ None
  tick_enters_none status off = ap (tick_entry status) (tick_limited limit ∙ ap (λ (b : Bool). tick_with b (is_full limit es)) off)

  no_tick_refused : (news : Bool) (refusal : TickRefusal) → tick_with news false ≡ Err refusal → ⊥
  no_tick_refused true refusal h = absurd cc
  no_tick_refused false refusal h = absurd cc

  pub tick_refused : (refusal : TickRefusal) → tick_answer seat (room_for_one es) es ≡ Err refusal → ⊥
  tick_refused refusal h =
      no_tick_refused (is_new_status seat (facts_of es)) refusal (sym (ap (tick_with (is_new_status seat (facts_of es))) (room_left es)) ∙ sym (tick_limited (room_for_one es)) ∙ h)
