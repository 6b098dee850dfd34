-- A round as its waves: the ticks, the arrivals of what they sent, and the arrivals of what was sent in answer.
use Rattle.std.proofs.Common.{◌≡◌, ℕ, ◌<◌, [], ◌∷◌, ◌++◌, length, drop, Some, None, refl, sym, ap, subst, ◌∙◌, arith}
use Rattle.std.specs.Prelude.{slice_get}
use Rattle.std.specs.List.{AllByRecursion, range_with_len}
use Rattle.std.proofs.lemmas.Bool.{eq-eqb}
use Rattle.cb_frames.specs.Fields.{StatusFrame}
use Rattle.cb_frames.specs.Text.{text_of}
use Rattle.cb_history.specs.declared.answer.Outgoing.{Outgoing}
use Rattle.cb_history.specs.Answers.{arrive_answer, status_of, requests, tick_answer}
use Rattle.cb_history.specs.Legal.{Call, ToTake, ToTick, history_after}
use Rattle.cb_history.proofs.Views.{IsIn}
use Rattle.cb_history.proofs.Keeping.{in_range}
use Rattle.cb_schedules.specs.Schedule.{Setting, IsSetting, seat_at, Step, ArriveStep, TickStep, Schedule, SentFrame, Asked, Calls, ArrivalAnswer, TickAnswer, frames_sent, sent_by, GroupState, asked_by, after_asked, step_after, run_from}
use Rattle.cb_schedules.specs.Messages.{facts_at}
use Rattle.cb_schedules.specs.Honest.{IsHonest}
use Rattle.cb_schedules.specs.Consistent.{IsConsistent}
use Rattle.cb_schedules.specs.SentLaws.{IsNoRefusal}
use Rattle.cb_schedules.specs.RoundLaws.{IsNoCastStep}
use Rattle.cb_schedules.specs.Rounds.{tick_steps, receivers, arrivals_since, ticked, answered, round_steps, IsNotFull}
use Rattle.cb_schedules.proofs.GoingOn.{runs_join_from}
use Rattle.cb_schedules.proofs.Courses.{consistent_from}
use Rattle.cb_schedules.proofs.Headlines.{call_is_welcome}
use Rattle.cb_schedules.proofs.Lists.{in_map, all_at_index}
use Rattle.cb_schedules.proofs.Hearing.{tick_puts_out}
use Rattle.cb_schedules.proofs.Later.{IsLater, later_joins, step_is_later, run_is_later}
use Rattle.cb_schedules.proofs.Happening.{answer_to_asked, FindNoneFullFrom, happens, IsSentSince, sent_out_is_sent, sent_arrives, still_sent, tick_asks, arrival_asks, ticks_cast_nothing, arrivals_cast_nothing}

-- the history of the member that a step calls
own_history_after : (setting : Setting) (s : GroupState) (step : Step) (i : ℕ) (call : Call) → asked_by setting s.sent step ≡ Calls i call
    → (step_after setting s step).histories i ≡ history_after (seat_at setting i) setting.limit (s.histories i) call
unfolding step_after
own_history_after setting s step i call asks = ap (λ (asked : Asked). (after_asked setting s asked).histories i) asks ∙ rw (eq-eqb i i refl) refl

-- ---- a tick

-- member j ticks on the way from s to t, and what it sends is sent
pub record Ticks (setting : Setting) (s t : GroupState) (j : ℕ) : Type 0 where
  pub now : GroupState
  pub next : GroupState
  pub consistent : IsConsistent setting now
  pub before : IsLater s now
  pub step : IsLater now next
  pub after : IsLater next t
  pub rest : IsLater now t
  pub history : next.histories j ≡ history_after (seat_at setting j) setting.limit (now.histories j) ToTick
  pub room : IsNotFull (TickAnswer (tick_answer (seat_at setting j) setting.limit (now.histories j)))
  pub sends : (out : Outgoing) → IsIn out (record { to = None; bytes = text_of (StatusFrame (status_of (seat_at setting j) (facts_at now j))) } ∷ requests (seat_at setting j) (facts_at now j)) → IsSentSince s t (sent_by j out)

pub tick_happens : (setting : Setting) → IsSetting setting → (s : GroupState) → IsConsistent setting s → (steps : Schedule) → AllByRecursion IsNoCastStep steps → FindNoneFullFrom setting s steps
    → (j : ℕ) → j < setting.group.size → IsIn (TickStep j) steps → Ticks setting s (run_from setting s steps) j
tick_happens setting is s inv steps quiet none j lt there =
    let h = happens setting is s inv steps quiet none (TickStep j) there in
    let asks = tick_asks setting h.now.sent j lt in
    let room : IsNotFull (TickAnswer (tick_answer (seat_at setting j) setting.limit (h.now.histories j))) = subst (λ (asked : Asked). IsNotFull (answer_to_asked setting h.now asked)) asks h.not_full in
    record {
      now = h.now;
      next = step_after setting h.now (TickStep j);
      consistent = h.consistent;
      before = h.before;
      step = step_is_later setting h.now (TickStep j) tt;
      after = h.after;
      rest = later_joins h.now (step_after setting h.now (TickStep j)) (run_from setting s steps) (step_is_later setting h.now (TickStep j) tt) h.after;
      history = own_history_after setting h.now (TickStep j) j ToTick asks;
      room = room;
      sends = λ out there. sent_out_is_sent setting s (run_from setting s steps) (TickStep j) j ToTick h out asks
          (subst (IsIn out) (sym (tick_puts_out (seat_at setting j) setting.limit (h.now.histories j) room)) there);
    }

each_ticks : (setting : Setting) → IsSetting setting → (s : GroupState) → IsConsistent setting s → FindNoneFullFrom setting s (tick_steps setting) → (j : ℕ) → j < setting.group.size
    → Ticks setting s (run_from setting s (tick_steps setting)) j
each_ticks setting is s inv none j lt =
    let all = range_with_len 0 setting.group.size in
    tick_happens setting is s inv (tick_steps setting) (ticks_cast_nothing all) none j lt (in_map TickStep all j (in_range 0 setting.group.size j (omega arith) (omega (arith, lt))))

-- ---- an arrival

-- the frame arrives at member j on the way from s to t, is not refused, and what is sent then is sent
pub record Takes (setting : Setting) (s t : GroupState) (frame : SentFrame) (j : ℕ) : Type 0 where
  pub now : GroupState
  pub next : GroupState
  pub consistent : IsConsistent setting now
  pub before : IsLater s now
  pub after : IsLater next t
  pub rest : IsLater now t
  pub honest : IsHonest setting.group (facts_at now) frame.bytes
  pub history : next.histories j ≡ history_after (seat_at setting j) setting.limit (now.histories j) (ToTake frame.bytes)
  pub welcome : IsNoRefusal (arrive_answer (seat_at setting j) setting.limit (now.histories j) frame.bytes)
  pub room : IsNotFull (ArrivalAnswer (arrive_answer (seat_at setting j) setting.limit (now.histories j) frame.bytes))
  pub sends : (out : Outgoing) → IsIn out (frames_sent (ArrivalAnswer (arrive_answer (seat_at setting j) setting.limit (now.histories j) frame.bytes))) → IsSentSince s t (sent_by j out)

pub arrival_happens : (setting : Setting) → IsSetting setting → (s : GroupState) → IsConsistent setting s → (steps : Schedule) → AllByRecursion IsNoCastStep steps → FindNoneFullFrom setting s steps
    → (frame : SentFrame) (j number : ℕ) → j < setting.group.size → slice_get s.sent number ≡ Some frame → IsIn (ArriveStep j number) steps → Takes setting s (run_from setting s steps) frame j
arrival_happens setting is s inv steps quiet none frame j number lt found there =
    let h = happens setting is s inv steps quiet none (ArriveStep j number) there in
    let at = still_sent s h.now number frame h.before found in
    let asks = arrival_asks setting h.now.sent j number frame lt at in
    let honest = all_at_index (λ (f : SentFrame). IsHonest setting.group (facts_at h.now) f.bytes) h.now.sent number frame h.consistent.honest at in
    record {
      now = h.now;
      next = step_after setting h.now (ArriveStep j number);
      consistent = h.consistent;
      before = h.before;
      after = h.after;
      rest = later_joins h.now (step_after setting h.now (ArriveStep j number)) (run_from setting s steps) (step_is_later setting h.now (ArriveStep j number) tt) h.after;
      honest = honest;
      history = own_history_after setting h.now (ArriveStep j number) j (ToTake frame.bytes) asks;
      welcome = call_is_welcome setting h.now h.consistent j (ToTake frame.bytes) lt honest;
      room = subst (λ (asked : Asked). IsNotFull (answer_to_asked setting h.now asked)) asks h.not_full;
      sends = λ out there. sent_out_is_sent setting s (run_from setting s steps) (ArriveStep j number) j (ToTake frame.bytes) h out asks there;
    }

-- what was sent between two states arrives at each of its receivers in the wave behind the second one
each_takes : (setting : Setting) → IsSetting setting → (first s : GroupState) → IsConsistent setting s → IsLater first s → FindNoneFullFrom setting s (arrivals_since setting (length first.sent) s)
    → (frame : SentFrame) (j : ℕ) → IsSentSince first s frame → IsIn j (receivers setting.group.size frame.from frame.to) → j < setting.group.size
    → Takes setting s (run_from setting s (arrivals_since setting (length first.sent) s)) frame j
each_takes setting is first s inv later none frame j since to lt =
    let a = sent_arrives setting first s frame j later since to in
    arrival_happens setting is s inv (arrivals_since setting (length first.sent) s) (arrivals_cast_nothing setting (length first.sent) (drop (length first.sent) s.sent)) none frame j a.number lt a.at a.step

-- ---- a round

pub none_full_splits : (setting : Setting) (s : GroupState) (steps more : Schedule) → FindNoneFullFrom setting s (steps ++ more) → FindNoneFullFrom setting s steps × FindNoneFullFrom setting (run_from setting s steps) more
unfolding run_from
none_full_splits setting s [] more none = (tt, none)
none_full_splits setting s (step ∷ steps) more none =
    let rest = none_full_splits setting (step_after setting s step) steps more none.1 in
    ((none.0, rest.0), rest.1)

-- The waves of a round among those who live: all that their ticks sent between s and `asking` arrives on the way to `answered`, and
-- what was sent then arrives on the way to t.
pub record Waves (Lives : ℕ → Type 0) (setting : Setting) (s t : GroupState) : Type 0 where
  pub asking : GroupState
  pub answered : GroupState
  pub ticks : (j : ℕ) → j < setting.group.size → Lives j → Ticks setting s asking j
  pub asked : (frame : SentFrame) (j : ℕ) → IsSentSince s asking frame → IsIn j (receivers setting.group.size frame.from frame.to) → j < setting.group.size → Lives j → Takes setting asking answered frame j
  pub taken : (frame : SentFrame) (j : ℕ) → IsSentSince asking answered frame → IsIn j (receivers setting.group.size frame.from frame.to) → j < setting.group.size → Lives j → Takes setting answered t frame j
  pub to_asking : IsLater s asking
  pub to_answered : IsLater asking answered
  pub to_end : IsLater answered t
  pub end_consistent : IsConsistent setting t

-- in a round of all members all live
abbrev pub AllLive : ℕ → Type 0
AllLive j = Unit {0}

-- where the round ends
pub round_ends : (setting : Setting) (s : GroupState)
    → run_from setting s (round_steps setting s) ≡ run_from setting (answered setting s) (arrivals_since setting (length (ticked setting s).sent) (answered setting s))
unfolding ticked answered round_steps
round_ends setting s =
    runs_join_from setting s (tick_steps setting) (arrivals_since setting (length s.sent) (ticked setting s) ++ arrivals_since setting (length (ticked setting s).sent) (answered setting s))
    ∙ runs_join_from setting (ticked setting s) (arrivals_since setting (length s.sent) (ticked setting s)) (arrivals_since setting (length (ticked setting s).sent) (answered setting s))

pub waves_of : (setting : Setting) → IsSetting setting → (s : GroupState) → IsConsistent setting s → FindNoneFullFrom setting s (round_steps setting s) → Waves AllLive setting s (run_from setting s (round_steps setting s))
unfolding ticked answered round_steps
waves_of setting is s inv none =
    let first = arrivals_since setting (length s.sent) (ticked setting s) in
    let second = arrivals_since setting (length (ticked setting s).sent) (answered setting s) in
    let cut = none_full_splits setting s (tick_steps setting) (first ++ second) none in
    let cut_again = none_full_splits setting (ticked setting s) first second cut.1 in
    let inv_ticked = consistent_from setting is s inv (tick_steps setting) in
    let inv_asked = consistent_from setting is (ticked setting s) inv_ticked first in
    let later_ticked = run_is_later setting s (tick_steps setting) (ticks_cast_nothing (range_with_len 0 setting.group.size)) in
    let later_asked = run_is_later setting (ticked setting s) first (arrivals_cast_nothing setting (length s.sent) (drop (length s.sent) (ticked setting s).sent)) in
    subst (Waves AllLive setting s) (sym (round_ends setting s)) (record {
      asking = ticked setting s;
      answered = answered setting s;
      ticks = λ j lt live. each_ticks setting is s inv cut.0 j lt;
      asked = λ frame j since to lt live. each_takes setting is s (ticked setting s) inv_ticked later_ticked cut_again.0 frame j since to lt;
      taken = λ frame j since to lt live. each_takes setting is (ticked setting s) (answered setting s) inv_asked later_asked cut_again.1 frame j since to lt;
      to_asking = later_ticked;
      to_answered = later_asked;
      to_end = run_is_later setting (answered setting s) second (arrivals_cast_nothing setting (length (ticked setting s).sent) (drop (length (ticked setting s).sent) (answered setting s).sent));
      end_consistent = consistent_from setting is (answered setting s) inv_asked second;
    })
