-- A history that always has room for one entry more is never full.
use Rattle.std.proofs.Common.{◌≡◌, ◌≢◌, ℕ, Bool, true, false, ◌&&◌, not, ◌==◌, List, [], length, Result, Ok, Err, subst, inl, inr}
use Rattle.std.specs.Prelude.{IfErr, if◌then◌else◌, nat_lt}
use Rattle.std.proofs.lemmas.Bool.{lt-leb}
use Rattle.cb_frames.specs.declared.frame.TheConstants.{LONGEST_PAYLOAD, MOST_MESSAGES}
use Rattle.cb_frames.specs.declared.fault.FrameFault.{FrameFault}
use Rattle.cb_frames.specs.Fields.{Load, load_bytes, payloads_of, CastFields, FrameFields}
use Rattle.cb_history.specs.Read.{frame_read}
use Rattle.cb_history.specs.declared.answer.ArriveRefusal.{ArriveRefusal}
use Rattle.cb_history.specs.declared.answer.ArriveRefusal.TheVariants as arrivals
use Rattle.cb_history.specs.declared.answer.BurstRefusal.{BurstRefusal}
use Rattle.cb_history.specs.declared.answer.BurstRefusal.TheVariants as bursts
use Rattle.cb_history.specs.declared.answer.CastRefusal.{CastRefusal}
use Rattle.cb_history.specs.declared.answer.CastRefusal.TheVariants as casts
use Rattle.cb_history.specs.declared.answer.Outgoing.{Outgoing}
use Rattle.cb_history.specs.declared.answer.TickRefusal.{TickRefusal}
use Rattle.cb_history.specs.declared.answer.TickRefusal.TheVariants as ticks
use Rattle.cb_history.specs.CastFault.{CastFault, EmptyBurst, BurstTooLong, PayloadTooLong, WindowFull, HistoryFull}
use Rattle.cb_history.specs.Group.{Identity}
use Rattle.cb_history.specs.Facts.{EntryFields, facts_of}
use Rattle.cb_history.specs.Answers.{ArrivalSays, Accepted, Repeat, answer_to, are_members, arrive_answer, cast_answer, deliveries, group_of, is_change, is_full, is_impossible, is_new_status, is_overlap, is_repeat, is_too_far, is_too_many, next_cast, sent_in_answer, tick_answer}
use Rattle.cb_history.specs.Legal.{room_for_one}
use Rattle.cb_history.specs.State.{RefusesArrival, RefusesTick}
use Rattle.cb_member.specs.Casting.{RefusesBurstExactly, RefusesExactly}
use Rattle.cb_member.specs.CoreCalls.{RefusesWithin}
use Rattle.cb_member.specs.CoreMember.{Core, IsCore, OnEach, unlimited}
use Rattle.cb_member.proofs.CoreArrivals.{without_limit}
use Rattle.cb_member.proofs.Cores.{one_is_left}

not_full : (es : List EntryFields) → is_full (room_for_one es) es ≡ false
not_full es = lt-leb (room_for_one es) (length es) (one_is_left es)

-- ---- calls that are not refused so

refusal_is : {A R : Type 0} (a b : R) → (let r : Result A R = Err a in r) ≡ Err b → a ≡ b
refusal_is a b same = cc

never : {A R : Type 0} (Refuses : R → Type 0) (full : R) (result : Result A R) → (Refuses full → ⊥) → IfErr result Refuses → result ≢ Err full
never Refuses full (Ok a) nowhere says e = absurd cc
never {A = A} Refuses full (Err refusal) nowhere says e = nowhere (subst Refuses (refusal_is {A = A} refusal full e) says)

-- ---- casts

by_cast_rules : (none many long window full : Bool) (c : CastFields) → full ≡ false
    → (let r : Result CastFields CastFault =
    if none then Err EmptyBurst else if many then Err BurstTooLong else if long then Err PayloadTooLong else if window then Err WindowFull else if full then Err HistoryFull else Ok c in r) ≢ Err HistoryFull
by_cast_rules true many long window full c off says = absurd cc
by_cast_rules false true long window full c off says = absurd cc
by_cast_rules false false true window full c off says = absurd cc
by_cast_rules false false false true full c off says = absurd cc
by_cast_rules false false false false true c off says = absurd cc
by_cast_rules false false false false false c off says = absurd cc

cast_answer_not_full : (seat : Identity) (es : List EntryFields) (load : Load) → cast_answer seat (room_for_one es) es load ≢ Err HistoryFull
unfolding cast_answer
cast_answer_not_full seat es load says =
    by_cast_rules (length (payloads_of load) == 0) (nat_lt MOST_MESSAGES (length (payloads_of load))) (nat_lt LONGEST_PAYLOAD (length (load_bytes load))) (is_too_many seat (facts_of es) (length (payloads_of load)))
    (is_full (room_for_one es) es) (next_cast seat (facts_of es) load) (not_full es) says

not_refused_full : (seat : Identity) (es : List EntryFields) (load : Load) → RefusesExactly (unlimited seat es) load casts.HistoryFull → ⊥
not_refused_full seat es load (inl says) = cast_answer_not_full seat es load says
not_refused_full seat es load (inr memory) = let is = memory.0 in absurd cc

no_full_burst : (seat : Identity) (es : List EntryFields) (load : Load) → RefusesBurstExactly (unlimited seat es) load bursts.HistoryFull → ⊥
no_full_burst seat es load (inl says) = cast_answer_not_full seat es load says
no_full_burst seat es load (inr memory) = let is = memory.0 in absurd cc

-- of any call that is refused as a cast is, or as a burst
pub cast_never_full : {A : Type 0} (load : Load) (core : Core) (result : Result A CastRefusal) → IsCore core → IfErr result (λ refusal. OnEach core (λ m. RefusesExactly m load refusal)) → result ≢ Err casts.HistoryFull
cast_never_full load core result is refused =
    never (λ refusal. OnEach core (λ m. RefusesExactly m load refusal)) casts.HistoryFull result (λ all. not_refused_full core.seat is.entries load (all is.entries is.stands)) refused

pub burst_never_full : {A : Type 0} (load : Load) (core : Core) (result : Result A BurstRefusal) → IsCore core → IfErr result (λ refusal. OnEach core (λ m. RefusesBurstExactly m load refusal)) → result ≢ Err bursts.HistoryFull
burst_never_full load core result is refused =
    never (λ refusal. OnEach core (λ m. RefusesBurstExactly m load refusal)) bursts.HistoryFull result (λ all. no_full_burst core.seat is.entries load (all is.entries is.stands)) refused

-- ---- ticks

by_tick_rules : (news full : Bool) (said : Bool × List Outgoing) → full ≡ false → (let r : Result (Bool × List Outgoing) TickRefusal = if news && full then Err ticks.HistoryFull else Ok said in r) ≢ Err ticks.HistoryFull
by_tick_rules true true said off says = absurd cc
by_tick_rules true false said off says = absurd cc
by_tick_rules false full said off says = absurd cc

tick_answer_not_full : (seat : Identity) (es : List EntryFields) → tick_answer seat (room_for_one es) es ≢ Err ticks.HistoryFull
unfolding tick_answer
tick_answer_not_full seat es says = by_tick_rules (is_new_status seat (facts_of es)) (is_full (room_for_one es) es) _ (not_full es) says

no_full_tick : (seat : Identity) (es : List EntryFields) → RefusesTick (unlimited seat es) ticks.HistoryFull → ⊥
no_full_tick seat es (inl says) = tick_answer_not_full seat es says
no_full_tick seat es (inr memory) = absurd cc

pub tick_never_full : {A : Type 0} (core : Core) (result : Result A TickRefusal) → IsCore core → IfErr result (λ refusal. OnEach core (λ m. RefusesTick m refusal)) → result ≢ Err ticks.HistoryFull
tick_never_full core result is refused =
    never (λ refusal. OnEach core (λ m. RefusesTick m refusal)) ticks.HistoryFull result (λ all. no_full_tick core.seat is.entries (all is.entries is.stands)) refused

-- ---- received bytes

by_frame_rules : (other strange impossible repeat overlap far change full : Bool) (one two : ArrivalSays) → full ≡ false
    → (let r : Result ArrivalSays ArriveRefusal =
    if other then Err arrivals.OtherGroup else if strange then Err arrivals.BadMember else if impossible then Err arrivals.Impossible else
    if repeat then Ok Repeat else if overlap then Err arrivals.Overlap else if far then Err arrivals.TooFar else if change && full then Err arrivals.HistoryFull else if change then Ok one else Ok two in r) ≢ Err arrivals.HistoryFull
by_frame_rules true strange impossible repeat overlap far change full one two off says = absurd cc
by_frame_rules false true impossible repeat overlap far change full one two off says = absurd cc
by_frame_rules false false true repeat overlap far change full one two off says = absurd cc
by_frame_rules false false false true overlap far change full one two off says = absurd cc
by_frame_rules false false false false true far change full one two off says = absurd cc
by_frame_rules false false false false false true change full one two off says = absurd cc
by_frame_rules false false false false false false true true one two off says = absurd cc
by_frame_rules false false false false false false true false one two off says = absurd cc
by_frame_rules false false false false false false false full one two off says = absurd cc

read_not_full : (seat : Identity) (es : List EntryFields) (read : Result FrameFields FrameFault) → answer_to seat (room_for_one es) es read ≢ Err arrivals.HistoryFull
read_not_full seat es (Err fault) says = absurd cc
read_not_full seat es (Ok frame) says =
    let facts = facts_of es in
    by_frame_rules (not (group_of frame == seat.group.number)) (not (are_members seat.group.size frame)) (is_impossible seat facts frame) (is_repeat facts frame) (is_overlap facts frame) (is_too_far seat facts frame)
    (is_change seat facts frame) (is_full (room_for_one es) es) (Accepted (deliveries seat facts frame) true (sent_in_answer seat facts frame)) (Accepted [] false (sent_in_answer seat facts frame)) (not_full es) says

arrive_answer_not_full : (seat : Identity) (es : List EntryFields) (bytes : List ℕ) → arrive_answer seat (room_for_one es) es bytes ≢ Err arrivals.HistoryFull
unfolding arrive_answer
arrive_answer_not_full seat es bytes says = read_not_full seat es (frame_read bytes) says

no_full_arrival : (seat : Identity) (es : List EntryFields) (bytes : List ℕ) → RefusesArrival (unlimited seat es) bytes arrivals.HistoryFull → ⊥
no_full_arrival seat es bytes (inl says) = arrive_answer_not_full seat es bytes says
no_full_arrival seat es bytes (inr memory) = let is = memory.0 in absurd cc

pub arrival_never_full : (core : Core) (bytes : List ℕ) (refusal : ArriveRefusal) → IsCore core → OnEach core (λ m. RefusesWithin true m bytes refusal) → refusal ≢ arrivals.HistoryFull
arrival_never_full core bytes refusal is refuses full =
    no_full_arrival core.seat is.entries bytes (subst (λ (r : ArriveRefusal). RefusesArrival (unlimited core.seat is.entries) bytes r) full (without_limit _ bytes refusal (refuses is.entries is.stands)))

pub same_refusal : {T : Type 0} → (a b : ArriveRefusal) → (let r : Result T ArriveRefusal = Err a in r) ≡ Err b → a ≡ b
same_refusal a b same = cc
