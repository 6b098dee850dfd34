-- In a round without a silent member nobody of the others gets a cast that none of them had.
use Rattle.std.proofs.Common.{◌≡◌, ℕ, ◌+◌, ◌-◌, ◌≤◌, Bool, ◌&&◌, ◌||◌, eqb, leb, ltb, List, [], ◌∷◌, ◌++◌, length, map, take, Option, Some, None, Result, Ok, Err, refl, sym, ap, subst, ◌∙◌, append_assoc, arith, inl, inr, ◌⊎◌}
use Rattle.std.specs.Prelude.{slice_get}
use Rattle.std.specs.List.{AllByRecursion, filter}
use Rattle.std.proofs.lemmas.Bool.{cond_both}
use Rattle.std.proofs.lemmas.List.{append-nil}
use Rattle.cb_frames.specs.declared.frame.TheConstants.{MOST_FRAMES}
use Rattle.cb_frames.specs.declared.frame.Range.{Range}
use Rattle.cb_frames.specs.declared.fault.FrameFault.{FrameFault}
use Rattle.cb_frames.specs.Fields.{CastFields, StatusFields, RequestFields, HelpFields, FrameFields, CastFrame, StatusFrame, RequestFrame, HelpFrame, last_number}
use Rattle.cb_frames.specs.Text.{text_of}
use Rattle.cb_frames.specs.Reading.{◌>>=◌, frame_at}
use Rattle.cb_history.specs.Read.{frame_read}
use Rattle.cb_history.specs.declared.answer.ArriveRefusal.{ArriveRefusal}
use Rattle.cb_history.specs.declared.answer.TickRefusal.{TickRefusal}
use Rattle.cb_history.specs.declared.answer.HelpFault.{HelpFault}
use Rattle.cb_history.specs.declared.answer.Outgoing.{Outgoing}
use Rattle.cb_history.specs.Facts.{EntryFields, ArriveEntry, TickEntry, Fact, arrival_said, status_said, said_by, facts_of, cast_in, casts_in}
use Rattle.cb_history.specs.Known.{missing, ranges_of, stable}
use Rattle.cb_history.specs.Helping.{handed_on, helper_for, help_to, help_for, help_answer}
use Rattle.cb_history.specs.Answers.{own_casts, window, is_full, is_asked_for, sent_in_answer, status_of, is_new_status, request_to, ArrivalSays, Accepted, Repeat, answer_to, arrive_answer, tick_answer}
use Rattle.cb_history.specs.Legal.{Call, ToTake, ToTick, ToHelp, arrive_entry, tick_entry, and_entry, history_after}
use Rattle.cb_history.proofs.Views.{IsIn, filter_in}
use Rattle.cb_history.proofs.Lists.{flat_map-append, in_append, in_one}
use Rattle.cb_schedules.specs.Schedule.{Setting, IsSetting, seat_at, Step, CastStep, ArriveStep, TickStep, HelpStep, Schedule, SentFrame, Asked, Calls, OfNoMember, OfNoFrame, Answer, NoSuchMember, NoSuchFrame, ArrivalAnswer, TickAnswer, HelpAnswer, frames_sent, sent_by, answer_of, GroupState, handed_over, and_nothing, and_answer, after_asked, step_after, run_from}
use Rattle.cb_schedules.specs.Messages.{facts_at}
use Rattle.cb_schedules.specs.Consistent.{IsConsistent}
use Rattle.cb_schedules.specs.HelpRounds.{all_but}
use Rattle.cb_schedules.proofs.Lists.{all_both, all_map, all_flat, all_at_index, in_take}
use Rattle.cb_schedules.proofs.Members.{is_own, own_is_there}
use Rattle.cb_schedules.proofs.Handing.{handed_on_is_there}
use Rattle.cb_schedules.proofs.Courses.{step_goes_on}
use Rattle.cb_schedules.proofs.Happening.{get_behind}
use Rattle.cb_schedules.proofs.Asking.{own_cast_read}
use Rattle.cb_schedules.proofs.Ending.{answer_puts_out}
use Rattle.cb_schedules.proofs.HelpWaves.{Lives}

-- ---- frames that are read as no cast

no_status_is : (r : Result StatusFields FrameFault) (c : CastFields) → (r >>= λ s. Ok (StatusFrame s)) ≡ Ok (CastFrame c) → ⊥
no_status_is (Ok s) c e = cc
no_status_is (Err fault) c e = cc

no_request_is : (r : Result RequestFields FrameFault) (c : CastFields) → (r >>= λ q. Ok (RequestFrame q)) ≡ Ok (CastFrame c) → ⊥
no_request_is (Ok q) c e = cc
no_request_is (Err fault) c e = cc

no_help_is : (r : Result HelpFields FrameFault) (c : CastFields) → (r >>= λ h. Ok (HelpFrame h)) ≡ Ok (CastFrame c) → ⊥
no_help_is (Ok h) c e = cc
no_help_is (Err fault) c e = cc

status_is_no_cast : (s : StatusFields) (c : CastFields) → frame_read (text_of (StatusFrame s)) ≡ Ok (CastFrame c) → ⊥
unfolding text_of frame_at
status_is_no_cast s c = no_status_is _ c

request_is_no_cast : (q : RequestFields) (c : CastFields) → frame_read (text_of (RequestFrame q)) ≡ Ok (CastFrame c) → ⊥
unfolding text_of frame_at
request_is_no_cast q c = no_request_is _ c

help_is_no_cast : (h : HelpFields) (c : CastFields) → frame_read (text_of (HelpFrame h)) ≡ Ok (CastFrame c) → ⊥
unfolding text_of frame_at
help_is_no_cast h c = no_help_is _ c

-- ---- what an entry says of casts

entry_casts : (entries : List EntryFields) (e : EntryFields) (c : CastFields) → IsIn c (casts_in (facts_of (entries ++ e ∷ []))) → IsIn c (casts_in (facts_of entries)) ⊎ IsIn c (casts_in (said_by e))
entry_casts entries e c there =
    in_append c (casts_in (facts_of entries)) (casts_in (said_by e))
    (subst (IsIn c) (flat_map-append cast_in (facts_of entries) (said_by e))
    (subst (λ (fs : List Fact). IsIn c (casts_in fs)) (flat_map-append said_by entries (e ∷ []) ∙ ap (λ (fs : List Fact). facts_of entries ++ fs) (append-nil (said_by e))) there))

said_cast : (r : Result FrameFields FrameFault) (c : CastFields) → IsIn c (casts_in (arrival_said r)) → r ≡ Ok (CastFrame c)
said_cast (Ok (CastFrame d)) c there = ap (λ (x : CastFields). Ok (CastFrame x)) (sym (in_one c d there))
said_cast (Ok (StatusFrame s)) c there = absurd there
said_cast (Ok (RequestFrame r)) c there = absurd there
said_cast (Ok (HelpFrame h)) c there = absurd there
said_cast (Err fault) c there = absurd there

no_status_says : (r : Result FrameFields FrameFault) (c : CastFields) → IsIn c (casts_in (status_said r)) → ⊥
no_status_says (Ok (CastFrame d)) c there = there
no_status_says (Ok (StatusFrame s)) c there = there
no_status_says (Ok (RequestFrame r)) c there = there
no_status_says (Ok (HelpFrame h)) c there = there
no_status_says (Err fault) c there = there

arrival_casts : (entries : List EntryFields) (bytes : List ℕ) (r : Result ArrivalSays ArriveRefusal) (c : CastFields) → IsIn c (casts_in (facts_of (and_entry entries (arrive_entry bytes r))))
    → IsIn c (casts_in (facts_of entries)) ⊎ (frame_read bytes ≡ Ok (CastFrame c))
arrival_casts entries bytes (Ok (Accepted deliveries changed out)) c =
    cond_both changed _ _ (λ (o : Option EntryFields). IsIn c (casts_in (facts_of (and_entry entries o))) → IsIn c (casts_in (facts_of entries)) ⊎ (frame_read bytes ≡ Ok (CastFrame c)))
    (λ _ there. elim (entry_casts entries (ArriveEntry bytes _) c there) [
      | inl old ↦ inl old
      | inr new ↦ inr (said_cast (frame_read bytes) c new)
    ])
    (λ _ there. inl there)
arrival_casts entries bytes (Ok Repeat) c = λ there. inl there
arrival_casts entries bytes (Err refusal) c = λ there. inl there

tick_casts : (entries : List EntryFields) (status : List ℕ) (r : Result (Bool × List Outgoing) TickRefusal) (c : CastFields) → IsIn c (casts_in (facts_of (and_entry entries (tick_entry status r)))) → IsIn c (casts_in (facts_of entries))
tick_casts entries status (Ok t) c =
    cond_both t.0 _ _ (λ (o : Option EntryFields). IsIn c (casts_in (facts_of (and_entry entries o))) → IsIn c (casts_in (facts_of entries)))
    (λ _ there. elim (entry_casts entries (TickEntry status) c there) [
      | inl old ↦ old
      | inr new ↦ absurd (no_status_says (frame_read status) c new)
    ])
    (λ _ there. there)
tick_casts entries status (Err refusal) c = λ there. there

-- ---- steps of the others

-- another member than the silent one acts, and no frame arrives but one with this number or a later one
abbrev pub IsOfOthers : ℕ → ℕ → Step → Type 0
IsOfOthers silent count (CastStep i load) = ⊥
IsOfOthers silent count (ArriveStep j number) = Lives silent j × (count ≤ number)
IsOfOthers silent count (TickStep j) = Lives silent j
IsOfOthers silent count (HelpStep j i) = Lives silent j

-- In steps of the others, where only frames arrive that were sent since `base`: what is so of each cast that one of them has at first
-- stays so.
module _ (setting : Setting) (silent : ℕ) (base : GroupState) (F : CastFields → Type 0) where
  -- bytes that are read as a cast are read as one of these
  abbrev IsFine : List ℕ → Type 0
  IsFine bytes = (c : CastFields) → frame_read bytes ≡ Ok (CastFrame c) → F c

  abbrev AllFine : List Outgoing → Type 0
  AllFine outs = AllByRecursion (λ out. IsFine out.bytes) outs

  record HoldThese (s : GroupState) : Type 0 where
    casts : (j : ℕ) → Lives silent j → (c : CastFields) → IsIn c (casts_in (facts_at s j)) → F c
    new : List SentFrame
    sent : s.sent ≡ base.sent ++ new
    fine : AllByRecursion (λ frame. IsFine frame.bytes) new

  nothing_holds : (s : GroupState) (asked : Asked) (answer : Answer) → HoldThese s → HoldThese (and_nothing s asked answer)
  nothing_holds s asked answer h = record { casts = h.casts; new = h.new; sent = h.sent; fine = h.fine }

  call_holds : (s : GroupState) (j : ℕ) (call : Call) (answer : Answer) → HoldThese s → AllFine (frames_sent answer)
      → ((c : CastFields) → IsIn c (casts_in (facts_of (history_after (seat_at setting j) setting.limit (s.histories j) call))) → F c) → HoldThese (and_answer setting s j call answer)
  call_holds s j call answer h outs after = record {
    casts = λ k live c. cond_both (eqb k j) (history_after (seat_at setting j) setting.limit (s.histories j) call) (s.histories k) (λ (es : List EntryFields). IsIn c (casts_in (facts_of es)) → F c)
        (λ same there. after c there) (λ _ there. h.casts k live c there);
    new = h.new ++ map (sent_by j) (frames_sent answer);
    sent = ap (λ (fs : List SentFrame). fs ++ map (sent_by j) (frames_sent answer)) h.sent ∙ append_assoc base.sent h.new (map (sent_by j) (frames_sent answer));
    fine = all_both (λ (frame : SentFrame). IsFine frame.bytes) h.new (map (sent_by j) (frames_sent answer)) h.fine (fine_by (frames_sent answer) outs);
  }
    where
      fine_by : (outs : List Outgoing) → AllFine outs → AllByRecursion (λ frame. IsFine frame.bytes) (map (sent_by j) outs)
      fine_by [] all = tt
      fine_by (out ∷ outs) all = (all.0, fine_by outs all.1)

  -- ---- a tick

  request_is_fine : (j i : ℕ) (ranges : List Range) → AllFine (request_to (seat_at setting j) i ranges)
  request_is_fine j i [] = tt
  request_is_fine j i (r ∷ ranges) = ((λ c read. absurd (request_is_no_cast _ c read)), tt)

  tick_is_fine : (s : GroupState) (j : ℕ) → AllFine (frames_sent (TickAnswer (tick_answer (seat_at setting j) setting.limit (s.histories j))))
  unfolding tick_answer
  tick_is_fine s j =
      let facts = facts_at s j in
      cond_both (is_new_status (seat_at setting j) facts && is_full setting.limit (s.histories j)) _ _ (λ (r : Result (Bool × List Outgoing) TickRefusal). AllFine (frames_sent (TickAnswer r))) (λ _. tt)
      (λ _. (
        (λ c read. absurd (status_is_no_cast (status_of (seat_at setting j) facts) c read)),
        all_flat (λ (out : Outgoing). IsFine out.bytes) (λ i. request_to (seat_at setting j) i (ranges_of (missing (seat_at setting j) facts i))) (all_but setting.group.size j)
            (λ i there. request_is_fine j i (ranges_of (missing (seat_at setting j) facts i))),
      ))

  -- ---- a step that asks for help

  help_is_fine : (s : GroupState) (j i : ℕ) → AllFine (frames_sent (HelpAnswer (help_answer (seat_at setting j) (s.histories j) i)))
  unfolding help_answer
  help_is_fine s j i =
      cond_both (leb setting.group.size i || eqb i j) _ _ (λ (r : Result (Option Outgoing) HelpFault). AllFine (frames_sent (HelpAnswer r))) (λ _. tt)
      (λ _. by_ranges (ranges_of (missing (seat_at setting j) (facts_at s j) i)))
    where
      by_helper : (ranges : List Range) (found : Option ℕ) → AllFine (frames_sent (HelpAnswer (Ok (help_to (seat_at setting j) i ranges found))))
      by_helper ranges None = tt
      by_helper ranges (Some k) = ((λ c read. absurd (help_is_no_cast _ c read)), tt)

      by_ranges : (ranges : List Range) → AllFine (frames_sent (HelpAnswer (Ok (help_for (seat_at setting j) (facts_at s j) i ranges))))
      by_ranges [] = tt
      by_ranges (r ∷ ranges) = by_helper (r ∷ ranges) (helper_for (seat_at setting j) (facts_at s j) i r.first)

  -- ---- an arrival

  module _ (s : GroupState) (inv : IsConsistent setting s) (h : HoldThese s) (j : ℕ) (live : Lives silent j) where
    -- a cast that is there
    there_is_fine : (c : CastFields) → IsIn c (casts_in (facts_at s j)) → IsFine (text_of (CastFrame c))
    there_is_fine c there d read =
        let both : Ok (CastFrame c) ≡ Ok (CastFrame d) = sym (own_cast_read setting s inv c.sender c (is_own setting.group (facts_at s) inv.together j c there)) ∙ read in
        let same : c ≡ d = cc in
        subst F same (h.casts j live c there)

    answer_is_fine : (frame : FrameFields) → AllFine (sent_in_answer (seat_at setting j) (facts_at s j) frame)
    answer_is_fine (CastFrame c) = tt
    answer_is_fine (StatusFrame t) = tt
    answer_is_fine (RequestFrame r) =
        cond_both (eqb r.asked j) _ _ AllFine
        (λ _. all_map (λ (out : Outgoing). IsFine out.bytes) (λ c. record { to = Some r.requester; bytes = text_of (CastFrame c) }) (take MOST_FRAMES (filter (is_asked_for r.ranges) (window (seat_at setting j) (facts_at s j)))) (λ c there.
        let asked = filter_in (is_asked_for r.ranges) (window (seat_at setting j) (facts_at s j)) c (in_take MOST_FRAMES (filter (is_asked_for r.ranges) (window (seat_at setting j) (facts_at s j))) c there) in
        there_is_fine c (own_is_there (facts_at s j) c (filter_in (λ c. ltb (stable (seat_at setting j) (facts_at s j)) (last_number c)) (own_casts (facts_at s j)) c asked.1).1)))
        (λ _. tt)
    answer_is_fine (HelpFrame q) =
        cond_both (eqb q.helper j) _ _ AllFine
        (λ _. all_map (λ (out : Outgoing). IsFine out.bytes) (λ c. record { to = Some q.requester; bytes = text_of (CastFrame c) }) (take MOST_FRAMES (filter (is_asked_for q.ranges) (handed_on (seat_at setting j) (facts_at s j) q.sender))) (λ c there.
        let asked = filter_in (is_asked_for q.ranges) (handed_on (seat_at setting j) (facts_at s j) q.sender) c (in_take MOST_FRAMES (filter (is_asked_for q.ranges) (handed_on (seat_at setting j) (facts_at s j) q.sender)) c there) in
        there_is_fine c (handed_on_is_there (seat_at setting j) (facts_at s j) q.sender c asked.1)))
        (λ _. tt)

    arrival_is_fine : (bytes : List ℕ) → AllFine (frames_sent (ArrivalAnswer (arrive_answer (seat_at setting j) setting.limit (s.histories j) bytes)))
    unfolding arrive_answer
    arrival_is_fine bytes = by_frame (frame_read bytes)
      where
        by_frame : (r : Result FrameFields FrameFault) → AllFine (frames_sent (ArrivalAnswer (answer_to (seat_at setting j) setting.limit (s.histories j) r)))
        by_frame (Ok frame) = answer_puts_out AllFine setting s j frame tt (answer_is_fine frame)
        by_frame (Err fault) = tt

    arrival_holds : (bytes : List ℕ) → IsFine bytes → HoldThese (after_asked setting s (Calls j (ToTake bytes)))
    arrival_holds bytes fine =
        call_holds s j (ToTake bytes) (answer_of (seat_at setting j) setting.limit (s.histories j) (ToTake bytes)) h (arrival_is_fine bytes) (λ c there.
        elim (arrival_casts (s.histories j) bytes (arrive_answer (seat_at setting j) setting.limit (s.histories j) bytes) c there) [
          | inl old ↦ h.casts j live c old
          | inr new ↦ fine c new
        ])

  -- ---- steps

  step_holds : (s : GroupState) → IsConsistent setting s → HoldThese s → (step : Step) → IsOfOthers silent (length base.sent) step → HoldThese (step_after setting s step)
  unfolding step_after
  step_holds s inv h (CastStep i load) is = absurd is
  step_holds s inv h (TickStep j) live =
      cond_both (ltb j setting.group.size) (Calls j ToTick) OfNoMember (λ (asked : Asked). HoldThese (after_asked setting s asked))
      (λ _. call_holds s j ToTick (answer_of (seat_at setting j) setting.limit (s.histories j) ToTick) h (tick_is_fine s j) (λ c there.
      h.casts j live c (tick_casts (s.histories j) _ (tick_answer (seat_at setting j) setting.limit (s.histories j)) c there)))
      (λ _. nothing_holds s OfNoMember NoSuchMember h)
  step_holds s inv h (HelpStep j i) live =
      cond_both (ltb j setting.group.size) (Calls j (ToHelp i)) OfNoMember (λ (asked : Asked). HoldThese (after_asked setting s asked))
      (λ _. call_holds s j (ToHelp i) (answer_of (seat_at setting j) setting.limit (s.histories j) (ToHelp i)) h (help_is_fine s j i) (λ c there. h.casts j live c there))
      (λ _. nothing_holds s OfNoMember NoSuchMember h)
  step_holds s inv h (ArriveStep j number) is =
      cond_both (ltb j setting.group.size) (handed_over j (slice_get s.sent number)) OfNoMember (λ (asked : Asked). HoldThese (after_asked setting s asked))
      (λ _. handed (slice_get s.sent number) refl) (λ _. nothing_holds s OfNoMember NoSuchMember h)
    where
      handed : (found : Option SentFrame) → slice_get s.sent number ≡ found → HoldThese (after_asked setting s (handed_over j found))
      handed None at = nothing_holds s OfNoFrame NoSuchFrame h
      handed (Some frame) at =
          let new = is.1 in
          let e : length base.sent + (number - length base.sent) ≡ number = omega (arith, new) in
          let behind : slice_get h.new (number - length base.sent) ≡ Some frame =
          sym (get_behind base.sent h.new (number - length base.sent)) ∙ ap (slice_get (base.sent ++ h.new)) e ∙ ap (λ (fs : List SentFrame). slice_get fs number) (sym h.sent) ∙ at in
          arrival_holds s inv h j is.0 frame.bytes (all_at_index (λ (f : SentFrame). IsFine f.bytes) h.new (number - length base.sent) frame h.fine behind)

  steps_hold : IsSetting setting → (s : GroupState) → IsConsistent setting s → HoldThese s → (steps : Schedule) → AllByRecursion (IsOfOthers silent (length base.sent)) steps → HoldThese (run_from setting s steps)
  unfolding run_from
  steps_hold is s inv h [] all = h
  steps_hold is s inv h (step ∷ steps) all = steps_hold is (step_after setting s step) (step_goes_on setting is s inv step).0 (step_holds s inv h step all.0) steps all.1

  -- from `base` on
  pub others_hold_these : IsSetting setting → IsConsistent setting base → (steps : Schedule) → AllByRecursion (IsOfOthers silent (length base.sent)) steps → ((j : ℕ) → Lives silent j → (c : CastFields) → IsIn c (casts_in (facts_at base j)) → F c)
      → (j : ℕ) → Lives silent j → (c : CastFields) → IsIn c (casts_in (facts_at (run_from setting base steps) j)) → F c
  others_hold_these is inv steps all first = (steps_hold is base inv (record { casts = first; new = []; sent = sym (append-nil base.sent); fine = tt }) steps all).casts
