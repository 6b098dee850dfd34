-- After any calls a core stands for their history.
use Rattle.std.proofs.Common.{◌≡◌, ℕ, ◌⊎◌, List, [], length, Result, Ok, Err, refl, sym, ap, subst, ◌∙◌, arith, inl, inr}
use Rattle.std.specs.Prelude.{IsOk, is_ok}
use Rattle.std.proofs.lemmas.Bool.{both_ways}
use Rattle.cb_frames.specs.Fields.{Load, CastFields, payloads_of}
use Rattle.cb_times.specs.Order.{field}
use Rattle.cb_history.specs.declared.answer.BurstRefusal.{BurstRefusal}
use Rattle.cb_history.specs.declared.answer.BurstRefusal.TheVariants as bursts
use Rattle.cb_history.specs.declared.answer.CastRefusal.{CastRefusal}
use Rattle.cb_history.specs.declared.answer.CastRefusal.TheVariants as casts
use Rattle.cb_delay.specs.declared.message.Event.{Event}
use Rattle.cb_history.specs.declared.history.Entry.{Entry}
use Rattle.cb_history.specs.CastFault.{CastFault, WindowFull, TellsBurstFaultOf, TellsFaultOf}
use Rattle.cb_history.specs.Group.{Identity}
use Rattle.cb_history.specs.Facts.{EntryFields, facts_of}
use Rattle.cb_history.specs.Answers.{delivered}
use Rattle.cb_history.specs.Legal.{AreEntriesOf, room_for_one}
use Rattle.cb_history.specs.State.{answer_to_cast}
use Rattle.cb_history.proofs.Counts.{no_number_is_full}
use Rattle.cb_member.specs.CoreMember.{Core, StandsFor, unlimited}
use Rattle.cb_member.specs.CoreRuns.{AnsweredCall, AreAnswered, Burst, Calls, Cast, CoresAnswerByTheirHistory, GoesOnOrStays, IsAnswered, NoCall, NoNumberIsLeft, OneCall, Take, Tick, history_after_all, history_with}
use Rattle.cb_member.proofs.Casting.{own_delivered}
use Rattle.cb_member.proofs.Cores.{facts_stand}
use Rattle.cb_member.proofs.Judging.{window_full}

-- ---- calls one after another

seat_after : (a : AnsweredCall) (old new : Core) → GoesOnOrStays a old new → new.seat ≡ old.seat
seat_after (Cast load (Ok cast) events) old new goes = goes.seat
seat_after (Cast load (Err refusal) events) old new same = ap (λ (c : Core). c.seat) same
seat_after (Burst load (Ok cast) events) old new goes = goes.seat
seat_after (Burst load (Err refusal) events) old new same = ap (λ (c : Core). c.seat) same
seat_after (Take bytes (Ok received) messages) old new goes = goes.seat
seat_after (Take bytes (Err refusal) messages) old new same = ap (λ (c : Core). c.seat) same
seat_after (Tick (Ok ticked)) old new goes = goes.seat
seat_after (Tick (Err refusal)) old new same = ap (λ (c : Core). c.seat) same

stands_after : (a : AnsweredCall) (old new : Core) (entries : List EntryFields) → GoesOnOrStays a old new → StandsFor entries old → StandsFor (history_with old.seat entries a) new
stands_after (Cast load (Ok cast) events) old new entries goes s = goes.stands entries s
stands_after (Cast load (Err refusal) events) old new entries same s = subst (StandsFor entries) (sym same) s
stands_after (Burst load (Ok cast) events) old new entries goes s = goes.stands entries s
stands_after (Burst load (Err refusal) events) old new entries same s = subst (StandsFor entries) (sym same) s
stands_after (Take bytes (Ok received) messages) old new entries goes s = goes.stands entries s
stands_after (Take bytes (Err refusal) messages) old new entries same s = subst (StandsFor entries) (sym same) s
stands_after (Tick (Ok ticked)) old new entries goes s = goes.stands entries s
stands_after (Tick (Err refusal)) old new entries same s = subst (StandsFor entries) (sym same) s

answer_all : (calls : List AnsweredCall) (first last : Core) (entries : List EntryFields) → StandsFor entries first → Calls calls first last
    → AreAnswered first.seat entries calls × StandsFor (history_after_all first.seat entries calls) last
answer_all _ _ _ entries s (NoCall core) = (tt, s)
answer_all _ _ _ entries s (OneCall a calls old mid new call rest) =
    let others = answer_all calls mid new (history_with old.seat entries a) (stands_after a old mid entries call.goes s) rest in
    let seat = seat_after a old mid call.goes in (
      (call.answered entries s, subst (λ (i : Identity). AreAnswered i (history_with old.seat entries a) calls) seat others.0),
      subst (λ (i : Identity). StandsFor (history_after_all i (history_with old.seat entries a) calls) new) seat others.1,
    )

pub cores_answer : CoresAnswerByTheirHistory
cores_answer calls first last new all = answer_all calls first last [] new all

-- ---- the last number

counted : (entries : List EntryFields) (core : Core) → StandsFor entries core → delivered core.seat (facts_of entries) core.seat.me ≡ field core.time core.seat.me
counted entries core s =
    let at : field s.state.delivery.time s.state.seat.me ≡ delivered s.state.seat (facts_of entries) s.state.seat.me =
    own_delivered s.state (facts_of entries) (facts_stand s.state entries (record { legal = subst (λ (c : Core). AreEntriesOf c.seat entries) (sym s.known) s.legal; state = s.state; keeps = s.keeps; known = refl })) s.keeps in
    sym (subst (λ (c : Core). field c.time c.seat.me ≡ delivered c.seat (facts_of entries) c.seat.me) s.known at)

not_both : (answer : Result CastFields CastFault) (c : CastFields) → answer ≡ Err WindowFull → answer ≡ Ok c → ⊥
not_both answer c full is = let both = sym full ∙ is in cc

refused_so : (answer : Result CastFields CastFault) (refusal : CastRefusal) → answer ≡ Err WindowFull → (TellsFaultOf refusal answer ⊎ ((refusal ≡ casts.NoMemory) × IsOk answer)) → refusal ≡ casts.WindowFull
refused_so answer casts.PayloadTooLong full (inl says) = let same = sym full ∙ says in cc
refused_so answer casts.WindowFull full (inl says) = refl
refused_so answer casts.HistoryFull full (inl says) = let same = sym full ∙ says in cc
refused_so answer casts.NoMemory full (inl says) = absurd says
refused_so answer refusal full (inr memory) = absurd (both_ways (is_ok answer) (ap is_ok full) memory.1)

burst_refused_so : (answer : Result CastFields CastFault) (refusal : BurstRefusal) → answer ≡ Err WindowFull → (TellsBurstFaultOf refusal answer ⊎ ((refusal ≡ bursts.NoMemory) × IsOk answer)) → refusal ≡ bursts.WindowFull
burst_refused_so answer bursts.EmptyBurst full (inl says) = let same = sym full ∙ says in cc
burst_refused_so answer bursts.BurstTooLong full (inl says) = let same = sym full ∙ says in cc
burst_refused_so answer bursts.PayloadTooLong full (inl says) = let same = sym full ∙ says in cc
burst_refused_so answer bursts.WindowFull full (inl says) = refl
burst_refused_so answer bursts.HistoryFull full (inl says) = let same = sym full ∙ says in cc
burst_refused_so answer bursts.NoMemory full (inl says) = absurd says
burst_refused_so answer refusal full (inr memory) = absurd (both_ways (is_ok answer) (ap is_ok full) memory.1)

module _ (seat : Identity) (entries : List EntryFields) (load : Load) (full : answer_to_cast (unlimited seat entries) load ≡ Err WindowFull) where
  cast_is_full : (r : Result (List ℕ × Entry) CastRefusal) (events : List Event) → IsAnswered (unlimited seat entries) (Cast load r events) → r ≡ Err casts.WindowFull
  cast_is_full (Ok cast) events says = absurd (not_both (answer_to_cast (unlimited seat entries) load) _ full says.answer)
  cast_is_full (Err refusal) events says =
      ap (λ (x : CastRefusal). let r : Result (List ℕ × Entry) CastRefusal = Err x in r) (refused_so (answer_to_cast (unlimited seat entries) load) refusal full says)

  burst_is_full : (r : Result (List ℕ × Entry) BurstRefusal) (events : List Event) → IsAnswered (unlimited seat entries) (Burst load r events) → r ≡ Err bursts.WindowFull
  burst_is_full (Ok cast) events says = absurd (not_both (answer_to_cast (unlimited seat entries) load) _ full says.answer)
  burst_is_full (Err refusal) events says =
      ap (λ (x : BurstRefusal). let r : Result (List ℕ × Entry) BurstRefusal = Err x in r) (burst_refused_so (answer_to_cast (unlimited seat entries) load) refusal full says)

pub no_number_is_left : NoNumberIsLeft
no_number_is_left load old new is fits past =
    let s = is.stands in
    let many = no_number_is_full old.seat (facts_of is.entries) (length (payloads_of load)) (omega (arith, past, counted is.entries old s)) in
    let full = window_full old.seat (room_for_one is.entries) is.entries load fits many in (
      λ result events call. cast_is_full old.seat is.entries load full result events (call.answered is.entries s),
      λ result events call. burst_is_full old.seat is.entries load full result events (call.answered is.entries s),
    )
