-- The laws of runs with restarts.
use Rattle.std.proofs.Common.{◌≡◌, ℕ, leb, List, [], ◌∷◌, ◌++◌, length, take, drop, Option, Some, None, slice_get, refl, sym, ap, subst, ◌∙◌, append_assoc, append-nil, arith, eqb, map}
use Rattle.std.proofs.lemmas.Bool.{cond_both, cond-true, eq-eqb}
use Rattle.std.proofs.lemmas.List.{take_all, take-take, take-append-drop}
use Rattle.cb_delay.specs.declared.message.Event.{Event}
use Rattle.cb_causality.proofs.Agreement.{depends_on_lists_alone}
use Rattle.cb_history.specs.Facts.{EntryFields, facts_of}
use Rattle.cb_history.specs.Events.{events}
use Rattle.cb_history.specs.Answers.{own_casts}
use Rattle.cb_history.specs.Legal.{entry_of, history_after, Call, ToCast, ToTake, ToTick, ToHelp, IsLegal}
use Rattle.cb_history.specs.BufferLaws.{IsCastOf}
use Rattle.cb_history.proofs.Views.{IsIn}
use Rattle.cb_schedules.specs.Schedule.{Setting, IsSetting, seat_at, Asked, Calls, OfNoMember, OfNoFrame, OfNoBytes, asked_by, GroupState, run}
use Rattle.cb_schedules.specs.Honest.{IsReported}
use Rattle.cb_schedules.specs.SentLaws.{SentCastsAreOwn, OneNameSameBytes, SentStatusesAreSo, NobodyAsksItself, HelpersAreThird}
use Rattle.cb_schedules.specs.Headline.{EachSchedule, IsCausalBroadcast, Headline}
use Rattle.cb_schedules.specs.StepLaws.{FramesGoOn}
use Rattle.cb_schedules.specs.Restarts.{WaitingFrame, EnteredCall, JournaledState, nothing_journaled, JournaledStep, EnterStep, WriteStep, SendStep, HandOutStep, RestartStep, WriteFirst, after_entering, and_sent, and_handed, journaled_step, journaled_from, journaled_run, without_dropped, there_now, written_entries, with_own}
use Rattle.cb_schedules.specs.RestartLaws.{EachJournaledRun, BesideWhatIsLeft, OfWhatIsLeft, AsksForWhatWasEntered, HasItsHistories, SentItsFrames, HandedOutItsEvents, NothingIsTakenBack, StepsTakeNothingBack, TakesWhatWasSent, ArrivalsWereSent, written_events, WhatIsWrittenIsHandedOut, WhatIsWrittenIsLegal}
use Rattle.cb_schedules.proofs.Headlines.{each_schedule, headline_holds, sent_casts_are_own, one_name_same_bytes, sent_statuses_are_so, nobody_asks_itself, helpers_are_third}
use Rattle.cb_schedules.proofs.Lists.{index_of, in_by_index, in_flat, all_from}
use Rattle.cb_schedules.proofs.Entered.{IsBehind, run_is_behind}
use Rattle.cb_schedules.proofs.Journaled.{of_each, IsJournaled, shows_more, cuts_go_on, front_stays, now_written, writes, run_holds, TakesOneOf}
use Rattle.cb_schedules.proofs.Within.{histories_are_legal}
use Rattle.cb_history.proofs.Prefixes.{prefix_is_legal}

-- what is so behind all steps
pub each_run : (P : Setting → JournaledState → Type 0) → ((setting : Setting) → IsSetting setting → (r : JournaledState) → IsJournaled setting r → P setting r) → EachJournaledRun P
each_run P holds setting steps is = holds setting is (journaled_run WriteFirst setting steps) (run_holds setting steps is)

-- what is so of each schedule is so of what is left
pub of_what_is_left : (P : Setting → GroupState → Type 0) → EachSchedule P → EachJournaledRun (OfWhatIsLeft P)
of_what_is_left P each setting steps is = each setting (without_dropped (journaled_run WriteFirst setting steps)) is

-- ---- what is left is a schedule

module _ (setting : Setting) (is : IsSetting setting) (r : JournaledState) (h : IsJournaled setting r) where
  abbrev rest : GroupState
  rest = run setting (without_dropped r)

  behind : IsBehind setting r.entered rest
  behind = run_is_behind setting r.written r.entered h.entered

  pub asks_for_what_was_entered : BesideWhatIsLeft AsksForWhatWasEntered setting r
  asks_for_what_was_entered = behind.asked

  takes_what_was_sent : (call : Call) → TakesOneOf r.sent call → TakesWhatWasSent r call
  takes_what_was_sent (ToCast load) takes = tt
  takes_what_was_sent (ToTake bytes) takes = (takes.0, index_of r.sent takes.0 takes.1, takes.2)
  takes_what_was_sent ToTick takes = tt
  takes_what_was_sent (ToHelp k) takes = tt

  pub arrivals_were_sent : BesideWhatIsLeft ArrivalsWereSent setting r
  arrivals_were_sent = all_from (λ (x : EnteredCall). TakesWhatWasSent r x.call) r.entered (λ x there. takes_what_was_sent x.call (h.arrivals x there))

  pub has_its_histories : BesideWhatIsLeft HasItsHistories setting r
  has_its_histories k = h.memory k ∙ sym (behind.histories k)

  pub sent_its_frames : BesideWhatIsLeft SentItsFrames setting r
  sent_its_frames frame sent =
      let put = h.sent frame (in_by_index r.sent sent.0 frame sent.1) in
      index_of rest.sent frame (subst (IsIn frame) (sym behind.sent) (in_flat (λ (x : EnteredCall). x.out) r.entered put.call frame put.there put.out))

  pub handed_out_its_events : BesideWhatIsLeft HandedOutItsEvents setting r
  handed_out_its_events k =
      let old = h.handed k in
      let entries = r.histories k in
      let more = shows_more setting is r h k (r.written k) (length entries) (h.written k) in
      let whole : entries ≡ take (length entries) entries = sym (take_all (length entries) entries (omega arith)) in (
        old.0 ++ more.0,
        ap (λ (es : List EntryFields). events (seat_at setting k) (facts_of es)) (sym (has_its_histories k) ∙ whole)
            ∙ more.1 ∙ ap (λ (es : List Event). es ++ more.0) old.1 ∙ append_assoc (r.handed k) old.0 more.0,
      )

  -- ---- what there is now

  pub casts_are_own_now : SentCastsAreOwn setting (there_now r)
  casts_are_own_now frame c sent read =
      let own = each_schedule SentCastsAreOwn sent_casts_are_own setting (without_dropped r) is frame c (sent_its_frames frame sent) read in
      (subst (λ (es : List EntryFields). IsCastOf c (own_casts (facts_of es))) (sym (has_its_histories c.sender)) own.0, own.1)

  pub names_have_one_text_now : OneNameSameBytes setting (there_now r)
  names_have_one_text_now frame other c d n sent other_sent =
      each_schedule OneNameSameBytes one_name_same_bytes setting (without_dropped r) is frame other c d n (sent_its_frames frame sent) (sent_its_frames other other_sent)

  pub statuses_are_so_now : SentStatusesAreSo setting (there_now r)
  statuses_are_so_now frame t sent read =
      depends_on_lists_alone (λ (histories : ℕ → List EntryFields). IsReported setting.group (λ (k : ℕ). facts_of (histories k)) t) rest.histories r.histories (λ k. sym (has_its_histories k))
      (each_schedule SentStatusesAreSo sent_statuses_are_so setting (without_dropped r) is frame t (sent_its_frames frame sent) read)

  pub nobody_asks_itself_now : NobodyAsksItself setting (there_now r)
  nobody_asks_itself_now frame q sent = each_schedule NobodyAsksItself nobody_asks_itself setting (without_dropped r) is frame q (sent_its_frames frame sent)

  pub helpers_are_third_now : HelpersAreThird setting (there_now r)
  helpers_are_third_now frame q sent = each_schedule HelpersAreThird helpers_are_third setting (without_dropped r) is frame q (sent_its_frames frame sent)

  pub is_causal_now : IsCausalBroadcast setting (there_now r)
  is_causal_now =
      depends_on_lists_alone (λ (histories : ℕ → List EntryFields). IsCausalBroadcast setting (record { histories = histories; sent = []; outcomes = [] })) rest.histories r.histories (λ k. sym (has_its_histories k))
      (each_schedule Headline headline_holds setting (without_dropped r) is).causal

-- ---- step by step

pub from_joins : (setting : Setting) (r : JournaledState) (steps more : List JournaledStep)
    → journaled_from WriteFirst setting r (steps ++ more) ≡ journaled_from WriteFirst setting (journaled_from WriteFirst setting r steps) more
unfolding journaled_from
from_joins setting r [] more = refl
from_joins setting r (step ∷ steps) more = from_joins setting (journaled_step WriteFirst setting r step) steps more

one_step : (setting : Setting) (r : JournaledState) (step : JournaledStep) → journaled_from WriteFirst setting r (step ∷ []) ≡ journaled_step WriteFirst setting r step
unfolding journaled_from
one_step setting r step = refl

module _ (setting : Setting) (is : IsSetting setting) (r : JournaledState) (h : IsJournaled setting r) where
  frames_stay : FramesGoOn r.sent r.sent
  frames_stay = ([], sym (append-nil r.sent))

  handed_stay : (k : ℕ) → (more : List Event) × (r.handed k ≡ r.handed k ++ more)
  handed_stay k = ([], sym (append-nil (r.handed k)))

  written_stay : (k : ℕ) → (more : List EntryFields) × (take (r.written k) (r.histories k) ≡ take (r.written k) (r.histories k) ++ more)
  written_stay k = ([], sym (append-nil (take (r.written k) (r.histories k))))

  stays : NothingIsTakenBack r r
  stays = record { frames = frames_stay; handed = handed_stay; written = written_stay }

  -- the written entries of a history that is cut behind them, or goes on there
  abbrev HasWritten : ℕ → ℕ → List EntryFields → Type 0
  HasWritten k n entries = (more : List EntryFields) × (take n entries ≡ take (r.written k) (r.histories k) ++ more)

  same_written : (k : ℕ) (entries : List EntryFields) → take (r.written k) entries ≡ take (r.written k) (r.histories k) → HasWritten k (r.written k) entries
  same_written k entries same = ([], same ∙ sym (append-nil (take (r.written k) (r.histories k))))

  entering_takes_nothing : (asked : Asked) → NothingIsTakenBack r (after_entering setting r asked)
  entering_takes_nothing (Calls i call) = record {
    frames = frames_stay;
    handed = handed_stay;
    written = λ k. of_each (λ (n : ℕ) (es : List EntryFields). HasWritten n (r.written n) es) r.histories i (history_after (seat_at setting i) setting.limit (r.histories i) call) k
        (same_written i (history_after (seat_at setting i) setting.limit (r.histories i) call) (front_stays (r.written i) (r.histories i) (entry_of (seat_at setting i) setting.limit (r.histories i) call) (h.written i)))
        (λ other. written_stay k);
  }
  entering_takes_nothing OfNoMember = stays
  entering_takes_nothing OfNoFrame = stays
  entering_takes_nothing OfNoBytes = stays

  sending_takes_nothing : (j n : ℕ) (o : Option WaitingFrame) → NothingIsTakenBack r (and_sent WriteFirst r j n o)
  sending_takes_nothing j n None = stays
  sending_takes_nothing j n (Some w) =
      cond_both (leb w.behind (r.written j)) _ r (NothingIsTakenBack r) (λ _. record { frames = (w.frame ∷ [], refl); handed = handed_stay; written = written_stay }) (λ _. stays)

  handing_takes_nothing : (j : ℕ) (o : Option Event) → NothingIsTakenBack r (and_handed r j o)
  handing_takes_nothing j None = stays
  handing_takes_nothing j (Some e) = record {
    frames = frames_stay;
    handed = λ k. of_each (λ (n : ℕ) (es : List Event). (more : List Event) × (es ≡ r.handed n ++ more)) r.handed j (r.handed j ++ e ∷ []) k (e ∷ [], refl) (λ other. handed_stay k);
    written = written_stay;
  }

  nothing_is_taken : (step : JournaledStep) → NothingIsTakenBack r (journaled_step WriteFirst setting r step)
  unfolding journaled_step
  nothing_is_taken (EnterStep step) = entering_takes_nothing (asked_by setting r.sent step)
  nothing_is_taken (WriteStep j) = record {
    frames = frames_stay;
    handed = handed_stay;
    written = λ k. of_each (λ (n m : ℕ). HasWritten n m (r.histories n)) r.written j (now_written setting r h j) k
        (drop (r.written j) (take (now_written setting r h j) (r.histories j)), cuts_go_on (r.histories j) (r.written j) (now_written setting r h j) (writes setting r h j))
        (λ other. written_stay k);
  }
  nothing_is_taken (SendStep j n) = sending_takes_nothing j n (slice_get (r.waiting j) n)
  nothing_is_taken (HandOutStep j) = handing_takes_nothing j (slice_get (events (seat_at setting j) (facts_of (take (r.written j) (r.histories j)))) (length (r.handed j)))
  nothing_is_taken (RestartStep j) = record {
    frames = frames_stay;
    handed = handed_stay;
    written = λ k. of_each (λ (n : ℕ) (es : List EntryFields). HasWritten n (r.written n) es) r.histories j (take (r.written j) (r.histories j)) k
        (same_written j (take (r.written j) (r.histories j)) (take-take (r.written j) (r.written j) (r.histories j) (omega arith))) (λ other. written_stay k);
  }

pub steps_take_nothing_back : StepsTakeNothingBack
steps_take_nothing_back setting steps step is =
    let r = journaled_run WriteFirst setting steps in
    subst (NothingIsTakenBack r) (sym (from_joins setting nothing_journaled steps (step ∷ []) ∙ one_step setting r step)) (nothing_is_taken setting is r (run_holds setting steps is) step)

-- ---- handing out what is written

at_seam : (front back : List Event) (e : Event) → slice_get (front ++ e ∷ back) (length front) ≡ Some e
at_seam [] back e = refl
at_seam (x ∷ front) back e = at_seam front back e

-- as many steps as events are lacking
hands_out : (setting : Setting) (k : ℕ) (lacking : List Event) (r : JournaledState) → written_events setting r k ≡ r.handed k ++ lacking
    → (journaled_from WriteFirst setting r (map (λ (e : Event). HandOutStep k) lacking)).handed k ≡ written_events setting r k
unfolding journaled_from journaled_step
hands_out setting k [] r is = sym (is ∙ append-nil (r.handed k))
hands_out setting k (e ∷ lacking) r is =
    let handed = with_own r.handed k (r.handed k ++ e ∷ []) in
    let has : handed k ≡ r.handed k ++ e ∷ [] = cond-true (eqb k k) (r.handed k ++ e ∷ []) (r.handed k) (eq-eqb k k refl) in
    let next : slice_get (written_events setting r k) (length (r.handed k)) ≡ Some e = ap (λ (es : List Event). slice_get es (length (r.handed k))) is ∙ at_seam (r.handed k) lacking e in
    subst (λ (o : Option Event). (journaled_from WriteFirst setting (and_handed r k o) (map (λ (x : Event). HandOutStep k) lacking)).handed k ≡ written_events setting r k) (sym next)
    (hands_out setting k lacking (record r { handed = handed })
    (is ∙ sym (append_assoc (r.handed k) (e ∷ []) lacking) ∙ ap (λ (es : List Event). es ++ lacking) (sym has)))

-- so behind other steps
pub hands_out_behind : (setting : Setting) (steps : List JournaledStep) (k : ℕ) (lacking : List Event) → written_events setting (journaled_run WriteFirst setting steps) k ≡ (journaled_run WriteFirst setting steps).handed k ++ lacking
    → (journaled_run WriteFirst setting (steps ++ map (λ (e : Event). HandOutStep k) lacking)).handed k ≡ written_events setting (journaled_run WriteFirst setting steps) k
hands_out_behind setting steps k lacking is =
    ap (λ (s : JournaledState). s.handed k) (from_joins setting nothing_journaled steps (map (λ (e : Event). HandOutStep k) lacking))
    ∙ hands_out setting k lacking (journaled_run WriteFirst setting steps) is

pub what_is_written_is_handed_out : WhatIsWrittenIsHandedOut
what_is_written_is_handed_out setting steps is k =
    let tells = (run_holds setting steps is).handed k in
    (tells.0, tells.1, hands_out_behind setting steps k tells.0 tells.1)

-- ---- resuming

pub what_is_written_is_legal : WhatIsWrittenIsLegal
what_is_written_is_legal setting steps k is lt =
    let r = journaled_run WriteFirst setting steps in
    let seat = seat_at setting k in
    let whole : IsLegal seat (r.histories k) =
    subst (IsLegal seat) (sym (has_its_histories setting is.is_setting r (run_holds setting steps is.is_setting) k)) (histories_are_legal setting (without_dropped r) k is lt) in
    prefix_is_legal seat (written_entries r k) (drop (r.written k) (r.histories k)) (subst (IsLegal seat) (sym (take-append-drop (r.written k) (r.histories k))) whole)
