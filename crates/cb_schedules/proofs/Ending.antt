-- What is sent in answer is casts alone, and a cast that arrives puts nothing out: so a round has no third wave.
use Rattle.std.proofs.Common.{◌≡◌, ℕ, suc, ◌+◌, not, ◌&&◌, eqb, ltb, List, [], ◌∷◌, ◌++◌, length, drop, map, take, Option, Some, None, Result, Ok, Err, refl, sym, ap, subst, ◌∙◌, append_assoc, arith}
use Rattle.std.specs.Prelude.{slice_get}
use Rattle.std.specs.List.{AllByRecursion, filter}
use Rattle.std.proofs.lemmas.Bool.{cond_both}
use Rattle.std.proofs.lemmas.List.{append-nil}
use Rattle.std.proofs.Math.Seq.{drop-append_seam}
use Rattle.cb_frames.specs.declared.frame.TheConstants.{MOST_FRAMES}
use Rattle.cb_frames.specs.declared.fault.FrameFault.{FrameFault}
use Rattle.cb_frames.specs.Fields.{CastFields, FrameFields, CastFrame, StatusFrame, RequestFrame, HelpFrame, last_number}
use Rattle.cb_frames.specs.Text.{text_of}
use Rattle.cb_history.specs.Read.{frame_read}
use Rattle.cb_history.specs.declared.answer.ArriveRefusal.{ArriveRefusal}
use Rattle.cb_history.specs.declared.answer.Outgoing.{Outgoing}
use Rattle.cb_history.specs.Known.{stable}
use Rattle.cb_history.specs.Helping.{handed_on}
use Rattle.cb_history.specs.Answers.{own_casts, window, is_full, group_of, are_members, is_impossible, is_repeat, is_overlap, is_too_far, is_change, is_asked_for, sent_in_answer, ArrivalSays, frame_answer, answer_to, arrive_answer}
use Rattle.cb_history.specs.Legal.{ToTake}
use Rattle.cb_history.proofs.Views.{filter_in}
use Rattle.cb_schedules.specs.Schedule.{Setting, IsSetting, seat_at, Step, CastStep, ArriveStep, TickStep, HelpStep, Schedule, SentFrame, Asked, OfNoMember, ArrivalAnswer, frames_sent, sent_by, answer_of, GroupState, handed_over, after_asked, step_after, run_from}
use Rattle.cb_schedules.specs.Messages.{facts_at}
use Rattle.cb_schedules.specs.Consistent.{IsConsistent}
use Rattle.cb_schedules.specs.Rounds.{tick_steps, receivers, arrivals_from, arrivals_since, ticked, answered, round_steps}
use Rattle.cb_schedules.proofs.Lists.{all_map, all_both, in_take}
use Rattle.cb_schedules.proofs.Members.{is_own}
use Rattle.cb_schedules.proofs.Handing.{handed_on_is_there}
use Rattle.cb_schedules.proofs.Courses.{step_goes_on, consistent_from}
use Rattle.cb_schedules.proofs.Happening.{get_behind}
use Rattle.cb_schedules.proofs.Asking.{own_cast_read}
use Rattle.cb_schedules.proofs.Waves.{round_ends}

-- bytes that are read as a cast
abbrev pub IsCast : List ℕ → Type 0
IsCast bytes = (c : CastFields) × (frame_read bytes ≡ Ok (CastFrame c))

abbrev AreCasts : List SentFrame → Type 0
AreCasts frames = AllByRecursion (λ frame. IsCast frame.bytes) frames

abbrev PutsOutCasts : Result ArrivalSays ArriveRefusal → Type 0
PutsOutCasts r = AllByRecursion (λ out. IsCast out.bytes) (frames_sent (ArrivalAnswer r))

abbrev PutsOutNothing : Result ArrivalSays ArriveRefusal → Type 0
PutsOutNothing r = frames_sent (ArrivalAnswer r) ≡ []

sent_are_casts : (i : ℕ) (outs : List Outgoing) → AllByRecursion (λ out. IsCast out.bytes) outs → AreCasts (map (sent_by i) outs)
sent_are_casts i [] all = tt
sent_are_casts i (out ∷ outs) all = (all.0, sent_are_casts i outs all.1)

-- ---- one arrival

-- a frame that is answered by its rules sends what is sent in answer, or nothing
pub answer_puts_out : (P : List Outgoing → Type 0) (setting : Setting) (s : GroupState) (i : ℕ) (frame : FrameFields) → P [] → P (sent_in_answer (seat_at setting i) (facts_at s i) frame)
    → P (frames_sent (ArrivalAnswer (frame_answer (seat_at setting i) setting.limit (s.histories i) (facts_at s i) frame)))
answer_puts_out P setting s i frame none sent =
    let Right : Result ArrivalSays ArriveRefusal → Type 0 = λ r. P (frames_sent (ArrivalAnswer r)) in
    cond_both (not (eqb (group_of frame) setting.group.number)) _ _ Right (λ _. none)
    (λ _. cond_both (not (are_members setting.group.size frame)) _ _ Right (λ _. none)
    (λ _. cond_both (is_impossible (seat_at setting i) (facts_at s i) frame) _ _ Right (λ _. none)
    (λ _. cond_both (is_repeat (facts_at s i) frame) _ _ Right (λ _. none)
    (λ _. cond_both (is_overlap (facts_at s i) frame) _ _ Right (λ _. none)
    (λ _. cond_both (is_too_far (seat_at setting i) (facts_at s i) frame) _ _ Right (λ _. none)
    (λ _. cond_both (is_change (seat_at setting i) (facts_at s i) frame && is_full setting.limit (s.histories i)) _ _ Right (λ _. none)
    (λ _. cond_both (is_change (seat_at setting i) (facts_at s i) frame) _ _ Right (λ _. sent) (λ _. sent))))))))

casts_in_answer : (setting : Setting) (s : GroupState) → IsConsistent setting s → (i : ℕ) (frame : FrameFields) → AllByRecursion (λ out. IsCast out.bytes) (sent_in_answer (seat_at setting i) (facts_at s i) frame)
casts_in_answer setting s inv i (CastFrame c) = tt
casts_in_answer setting s inv i (StatusFrame t) = tt
casts_in_answer setting s inv i (RequestFrame r) =
    cond_both (eqb r.asked i) _ _ (AllByRecursion (λ (out : Outgoing). IsCast out.bytes))
    (λ _. all_map (λ (out : Outgoing). IsCast out.bytes) (λ c. record { to = Some r.requester; bytes = text_of (CastFrame c) }) (take MOST_FRAMES (filter (is_asked_for r.ranges) (window (seat_at setting i) (facts_at s i)))) (λ c there.
    let asked = filter_in (is_asked_for r.ranges) (window (seat_at setting i) (facts_at s i)) c (in_take MOST_FRAMES (filter (is_asked_for r.ranges) (window (seat_at setting i) (facts_at s i))) c there) in
    (c, own_cast_read setting s inv i c (filter_in (λ c. ltb (stable (seat_at setting i) (facts_at s i)) (last_number c)) (own_casts (facts_at s i)) c asked.1).1)))
    (λ _. tt)
casts_in_answer setting s inv i (HelpFrame h) =
    cond_both (eqb h.helper i) _ _ (AllByRecursion (λ (out : Outgoing). IsCast out.bytes))
    (λ _. all_map (λ (out : Outgoing). IsCast out.bytes) (λ c. record { to = Some h.requester; bytes = text_of (CastFrame c) }) (take MOST_FRAMES (filter (is_asked_for h.ranges) (handed_on (seat_at setting i) (facts_at s i) h.sender))) (λ c there.
    let asked = filter_in (is_asked_for h.ranges) (handed_on (seat_at setting i) (facts_at s i) h.sender) c (in_take MOST_FRAMES (filter (is_asked_for h.ranges) (handed_on (seat_at setting i) (facts_at s i) h.sender)) c there) in
    (c, own_cast_read setting s inv c.sender c (is_own setting.group (facts_at s) inv.together i c (handed_on_is_there (seat_at setting i) (facts_at s i) h.sender c asked.1)))))
    (λ _. tt)

arrival_puts_out_casts : (setting : Setting) (s : GroupState) → IsConsistent setting s → (i : ℕ) (bytes : List ℕ) → PutsOutCasts (arrive_answer (seat_at setting i) setting.limit (s.histories i) bytes)
unfolding arrive_answer
arrival_puts_out_casts setting s inv i bytes = answered (frame_read bytes)
  where
    answered : (r : Result FrameFields FrameFault) → PutsOutCasts (answer_to (seat_at setting i) setting.limit (s.histories i) r)
    answered (Ok frame) = answer_puts_out (AllByRecursion (λ (out : Outgoing). IsCast out.bytes)) setting s i frame tt (casts_in_answer setting s inv i frame)
    answered (Err fault) = tt

cast_puts_out_nothing : (setting : Setting) (s : GroupState) (i : ℕ) (bytes : List ℕ) → IsCast bytes → PutsOutNothing (arrive_answer (seat_at setting i) setting.limit (s.histories i) bytes)
unfolding arrive_answer
cast_puts_out_nothing setting s i bytes is =
    subst (λ (r : Result FrameFields FrameFault). PutsOutNothing (answer_to (seat_at setting i) setting.limit (s.histories i) r)) (sym is.1)
    (answer_puts_out (λ outs. outs ≡ []) setting s i (CastFrame is.0) refl refl)

-- ---- the first wave sends casts

-- what a step sends more
abbrev SendsCasts : GroupState → GroupState → Type 0
SendsCasts s t = (new : List SentFrame) × (t.sent ≡ s.sent ++ new) × AreCasts new

abbrev IsArrival : Step → Type 0
IsArrival (CastStep i load) = ⊥
IsArrival (ArriveStep j number) = Unit {0}
IsArrival (TickStep i) = ⊥
IsArrival (HelpStep j i) = ⊥

arrival_sends_casts : (setting : Setting) (s : GroupState) → IsConsistent setting s → (step : Step) → IsArrival step → SendsCasts s (step_after setting s step)
unfolding step_after
arrival_sends_casts setting s inv (CastStep i load) is = absurd is
arrival_sends_casts setting s inv (TickStep i) is = absurd is
arrival_sends_casts setting s inv (HelpStep j i) is = absurd is
arrival_sends_casts setting s inv (ArriveStep j number) is =
    cond_both (ltb j setting.group.size) (handed_over j (slice_get s.sent number)) OfNoMember (λ (asked : Asked). SendsCasts s (after_asked setting s asked))
    (λ _. handed (slice_get s.sent number)) (λ _. ([], sym (append-nil s.sent), tt))
  where
    handed : (found : Option SentFrame) → SendsCasts s (after_asked setting s (handed_over j found))
    handed None = ([], sym (append-nil s.sent), tt)
    handed (Some frame) = (
      map (sent_by j) (frames_sent (answer_of (seat_at setting j) setting.limit (s.histories j) (ToTake frame.bytes))),
      refl,
      sent_are_casts j (frames_sent (answer_of (seat_at setting j) setting.limit (s.histories j) (ToTake frame.bytes))) (arrival_puts_out_casts setting s inv j frame.bytes),
    )

arrivals_send_casts : (setting : Setting) → IsSetting setting → (s : GroupState) → IsConsistent setting s → (steps : Schedule) → AllByRecursion IsArrival steps → SendsCasts s (run_from setting s steps)
unfolding run_from
arrivals_send_casts setting is s inv [] all = ([], sym (append-nil s.sent), tt)
arrivals_send_casts setting is s inv (step ∷ steps) all =
    let (new, is_new, casts) = arrival_sends_casts setting s inv step all.0 in
    let (more, is_more, more_casts) = arrivals_send_casts setting is (step_after setting s step) (step_goes_on setting is s inv step).0 steps all.1 in (
      new ++ more,
      is_more ∙ ap (λ (fs : List SentFrame). fs ++ more) is_new ∙ append_assoc s.sent new more,
      all_both (λ (frame : SentFrame). IsCast frame.bytes) new more casts more_casts,
    )

-- ---- the second sends nothing

-- the arrival of a cast among these frames
abbrev BringsCast : List SentFrame → Step → Type 0
BringsCast sent (CastStep i load) = ⊥
BringsCast sent (ArriveStep j number) = (frame : SentFrame) × (slice_get sent number ≡ Some frame) × IsCast frame.bytes
BringsCast sent (TickStep i) = ⊥
BringsCast sent (HelpStep j i) = ⊥

bringing_sends_nothing : (setting : Setting) (s : GroupState) (step : Step) → BringsCast s.sent step → (step_after setting s step).sent ≡ s.sent
unfolding step_after
bringing_sends_nothing setting s (CastStep i load) brings = absurd brings
bringing_sends_nothing setting s (TickStep i) brings = absurd brings
bringing_sends_nothing setting s (HelpStep j i) brings = absurd brings
bringing_sends_nothing setting s (ArriveStep j number) brings =
    cond_both (ltb j setting.group.size) (handed_over j (slice_get s.sent number)) OfNoMember (λ (asked : Asked). (after_asked setting s asked).sent ≡ s.sent)
    (λ _. subst (λ (found : Option SentFrame). (after_asked setting s (handed_over j found)).sent ≡ s.sent) (sym brings.1) (taken brings.0 brings.2)) (λ _. refl)
  where
    taken : (frame : SentFrame) → IsCast frame.bytes → (after_asked setting s (handed_over j (Some frame))).sent ≡ s.sent
    taken frame is = ap (λ (outs : List Outgoing). s.sent ++ map (sent_by j) outs) (cast_puts_out_nothing setting s j frame.bytes is) ∙ append-nil s.sent

bringing_all_sends_nothing : (setting : Setting) (sent : List SentFrame) (s : GroupState) (steps : Schedule) → s.sent ≡ sent → AllByRecursion (BringsCast sent) steps → (run_from setting s steps).sent ≡ sent
unfolding run_from
bringing_all_sends_nothing setting sent s [] same all = same
bringing_all_sends_nothing setting sent s (step ∷ steps) same all =
    bringing_all_sends_nothing setting sent (step_after setting s step) steps (bringing_sends_nothing setting s step (subst (λ (fs : List SentFrame). BringsCast fs step) (sym same) all.0) ∙ same) all.1

-- ---- the steps of a wave

each_to : (P : Step → Type 0) (number : ℕ) → ((j : ℕ) → P (ArriveStep j number)) → (js : List ℕ) → AllByRecursion P (map (λ j. ArriveStep j number) js)
each_to P number each [] = tt
each_to P number each (j ∷ js) = (each j, each_to P number each js)

arrivals_are : (setting : Setting) (number : ℕ) (frames : List SentFrame) → AllByRecursion IsArrival (arrivals_from setting number frames)
arrivals_are setting number [] = tt
arrivals_are setting number (frame ∷ frames) =
    all_both IsArrival (map (λ j. ArriveStep j number) (receivers setting.group.size frame.from frame.to)) (arrivals_from setting (number + 1) frames)
    (each_to IsArrival number (λ j. tt) (receivers setting.group.size frame.from frame.to)) (arrivals_are setting (number + 1) frames)

arrivals_bring_casts : (setting : Setting) (sent : List SentFrame) (number : ℕ) (frames : List SentFrame) → AreCasts frames
    → ((k : ℕ) (frame : SentFrame) → slice_get frames k ≡ Some frame → slice_get sent (number + k) ≡ Some frame) → AllByRecursion (BringsCast sent) (arrivals_from setting number frames)
arrivals_bring_casts setting sent number [] casts at = tt
arrivals_bring_casts setting sent number (frame ∷ frames) casts at =
    let e : number + 0 ≡ number = omega arith in
    let here : slice_get sent number ≡ Some frame = ap (slice_get sent) (sym e) ∙ at 0 frame refl in
    all_both (BringsCast sent) (map (λ j. ArriveStep j number) (receivers setting.group.size frame.from frame.to)) (arrivals_from setting (number + 1) frames)
    (each_to (BringsCast sent) number (λ j. (frame, here, casts.0)) (receivers setting.group.size frame.from frame.to))
    (arrivals_bring_casts setting sent (number + 1) frames casts.1 (λ k f found. let next : number + 1 + k ≡ number + suc k = omega arith in ap (slice_get sent) next ∙ at (suc k) f found))

-- ---- a round

pub round_ends_there : (setting : Setting) → IsSetting setting → (s : GroupState) → IsConsistent setting s → (run_from setting s (round_steps setting s)).sent ≡ (answered setting s).sent
unfolding ticked answered
round_ends_there setting is s inv =
    let a = ticked setting s in
    let b = answered setting s in
    let inv_a = consistent_from setting is s inv (tick_steps setting) in
    let (new, is_new, casts) = arrivals_send_casts setting is a inv_a (arrivals_since setting (length s.sent) a) (arrivals_are setting (length s.sent) (drop (length s.sent) a.sent)) in
    let behind : drop (length a.sent) b.sent ≡ new = ap (drop (length a.sent)) is_new ∙ drop-append_seam a.sent new in
    let brings : AllByRecursion (BringsCast b.sent) (arrivals_since setting (length a.sent) b) =
    subst (λ (frames : List SentFrame). AllByRecursion (BringsCast b.sent) (arrivals_from setting (length a.sent) frames)) (sym behind)
    (arrivals_bring_casts setting b.sent (length a.sent) new casts (λ k frame found. ap (λ (fs : List SentFrame). slice_get fs (length a.sent + k)) is_new ∙ get_behind a.sent new k ∙ found)) in
    ap (λ (t : GroupState). t.sent) (round_ends setting s) ∙ bringing_all_sends_nothing setting b.sent b (arrivals_since setting (length a.sent) b) refl brings
