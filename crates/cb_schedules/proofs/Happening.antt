-- Each step of a schedule happens at some moment of its run, and what it sends is among the frames that were sent.
use Rattle.std.proofs.Common.{◌≡◌, ◌↔◌, ℕ, zero, suc, ◌+◌, ◌<◌, not, eqb, List, [], ◌∷◌, ◌++◌, length, drop, map, Some, None, refl, sym, ap, subst, ◌∙◌, append_assoc, arith, inl, inr}
use Rattle.std.specs.Prelude.{slice_get}
use Rattle.std.specs.List.{AllByRecursion, range_with_len}
use Rattle.std.proofs.lemmas.Bool.{lt-ltb, ne_eqb}
use Rattle.std.proofs.lemmas.List.{append-nil}
use Rattle.std.proofs.Math.Seq.{drop-append_seam}
use Rattle.cb_history.specs.declared.answer.Outgoing.{Outgoing}
use Rattle.cb_history.specs.Legal.{Call, ToTake, ToTick}
use Rattle.cb_history.proofs.Views.{IsIn, in_filter}
use Rattle.cb_history.proofs.Lists.{in_front, in_back}
use Rattle.cb_history.proofs.Keeping.{in_range}
use Rattle.cb_schedules.specs.Schedule.{Setting, IsSetting, seat_at, Step, ArriveStep, TickStep, Schedule, SentFrame, Asked, Calls, OfNoMember, OfNoFrame, OfNoBytes, Answer, NoSuchMember, NoSuchFrame, NoBytes, frames_sent, sent_by, answer_of, Outcome, GroupState, asked_by, after_asked, step_after, run_from}
use Rattle.cb_schedules.specs.Consistent.{IsConsistent}
use Rattle.cb_schedules.specs.Rounds.{receivers, arrivals_from, IsNotFull, FindNoneFull}
use Rattle.cb_schedules.specs.RoundLaws.{IsNoCastStep}
use Rattle.cb_schedules.proofs.Courses.{step_goes_on}
use Rattle.cb_schedules.proofs.Lists.{in_map, all_both}
use Rattle.cb_schedules.proofs.Later.{IsLater, later_itself, later_joins, step_is_later, run_is_later}

-- ---- what a step is answered

abbrev pub answer_to_asked : Setting → GroupState → Asked → Answer
answer_to_asked setting s (Calls i call) = answer_of (seat_at setting i) setting.limit (s.histories i) call
answer_to_asked setting s OfNoMember = NoSuchMember
answer_to_asked setting s OfNoFrame = NoSuchFrame
answer_to_asked setting s OfNoBytes = NoBytes

abbrev pub answer_to_step : Setting → GroupState → Step → Answer
answer_to_step setting s step = answer_to_asked setting s (asked_by setting s.sent step)

-- step by step: none of them finds a history full
abbrev pub FindNoneFullFrom : Setting → GroupState → Schedule → Type 0
FindNoneFullFrom setting s [] = Unit {0}
FindNoneFullFrom setting s (step ∷ steps) = IsNotFull (answer_to_step setting s step) × FindNoneFullFrom setting (step_after setting s step) steps

abbrev HasNewOutcome : Setting → GroupState → Asked → Type 0
HasNewOutcome setting s asked = (o : Outcome) × ((after_asked setting s asked).outcomes ≡ s.outcomes ++ o ∷ []) × (o.answer ≡ answer_to_asked setting s asked)

new_outcome : (setting : Setting) (s : GroupState) (asked : Asked) → HasNewOutcome setting s asked
new_outcome setting s (Calls i call) = (_, refl, refl)
new_outcome setting s OfNoMember = (_, refl, refl)
new_outcome setting s OfNoFrame = (_, refl, refl)
new_outcome setting s OfNoBytes = (_, refl, refl)

step_outcome : (setting : Setting) (s : GroupState) (step : Step) → (o : Outcome) × ((step_after setting s step).outcomes ≡ s.outcomes ++ o ∷ []) × (o.answer ≡ answer_to_step setting s step)
unfolding step_after
step_outcome setting s step = new_outcome setting s (asked_by setting s.sent step)

-- the outcomes of a run are those before it and one more for each step
run_outcomes : (setting : Setting) (s : GroupState) (steps : Schedule) → (more : List Outcome) × ((run_from setting s steps).outcomes ≡ s.outcomes ++ more)
    × (AllByRecursion (λ o. IsNotFull o.answer) more ↔ FindNoneFullFrom setting s steps)
unfolding run_from
run_outcomes setting s [] = ([], sym (append-nil s.outcomes), ((λ _. tt), (λ _. tt)))
run_outcomes setting s (step ∷ steps) =
    let (o, is_o, answer) = step_outcome setting s step in
    let (more, is_more, each) = run_outcomes setting (step_after setting s step) steps in (
      o ∷ more,
      is_more ∙ ap (λ (os : List Outcome). os ++ more) is_o ∙ append_assoc s.outcomes (o ∷ []) more,
      ((λ all. (subst IsNotFull answer all.0, each.0 all.1)), (λ all. (subst IsNotFull (sym answer) all.0, each.1 all.1))),
    )

pub none_full_from : (setting : Setting) (s : GroupState) (steps : Schedule) → FindNoneFull setting s steps → FindNoneFullFrom setting s steps
none_full_from setting s steps none =
    let (more, is, each) = run_outcomes setting s steps in
    each.0 (subst (AllByRecursion (λ o. IsNotFull o.answer)) (ap (drop (length s.outcomes)) is ∙ drop-append_seam s.outcomes more) none)

pub from_none_full : (setting : Setting) (s : GroupState) (steps : Schedule) → FindNoneFullFrom setting s steps → FindNoneFull setting s steps
from_none_full setting s steps none =
    let (more, is, each) = run_outcomes setting s steps in
    subst (AllByRecursion (λ o. IsNotFull o.answer)) (sym (ap (drop (length s.outcomes)) is ∙ drop-append_seam s.outcomes more)) (each.1 none)

-- ---- the moment of a step

-- the step happens from a state that is later than s and from which t comes later, and finds no history full
pub record Happens (setting : Setting) (s t : GroupState) (step : Step) : Type 0 where
  pub now : GroupState
  pub consistent : IsConsistent setting now
  pub before : IsLater s now
  pub after : IsLater (step_after setting now step) t
  pub not_full : IsNotFull (answer_to_step setting now step)

pub happens : (setting : Setting) → IsSetting setting → (s : GroupState) → IsConsistent setting s → (steps : Schedule) → AllByRecursion IsNoCastStep steps → FindNoneFullFrom setting s steps
    → (step : Step) → IsIn step steps → Happens setting s (run_from setting s steps) step
unfolding run_from
happens setting is s inv [] none not_full step there = absurd there
happens setting is s inv (first ∷ steps) none not_full step (inl same) =
    subst (Happens setting s (run_from setting (step_after setting s first) steps)) (sym same) (record {
      now = s;
      consistent = inv;
      before = later_itself s;
      after = run_is_later setting (step_after setting s first) steps none.1;
      not_full = not_full.0;
    })
happens setting is s inv (first ∷ steps) none not_full step (inr later) =
    let rest = happens setting is (step_after setting s first) (step_goes_on setting is s inv first).0 steps none.1 not_full.1 step later in
    record {
      now = rest.now;
      consistent = rest.consistent;
      before = later_joins s (step_after setting s first) rest.now (step_is_later setting s first none.0) rest.before;
      after = rest.after;
      not_full = rest.not_full;
    }

-- ---- frames that were sent

-- a frame that was sent since s
abbrev pub IsSentSince : GroupState → GroupState → SentFrame → Type 0
IsSentSince s t frame = IsIn frame (drop (length s.sent) t.sent)

sent_out_between : (a outs b : List SentFrame) (sent : List SentFrame) (frame : SentFrame) → IsIn frame outs → IsIn frame (drop (length sent) (((sent ++ a) ++ outs) ++ b))
sent_out_between a outs b sent frame there =
    subst (IsIn frame) (sym (ap (drop (length sent)) (ap (λ (fs : List SentFrame). fs ++ b) (append_assoc sent a outs) ∙ append_assoc sent (a ++ outs) b) ∙ drop-append_seam sent ((a ++ outs) ++ b)))
    (in_front frame (a ++ outs) b (in_back frame a outs there))

-- what member i sends when it is called is sent
pub sent_out_is_sent : (setting : Setting) (s t : GroupState) (step : Step) (i : ℕ) (call : Call) (h : Happens setting s t step) (out : Outgoing) → asked_by setting h.now.sent step ≡ Calls i call
    → IsIn out (frames_sent (answer_of (seat_at setting i) setting.limit (h.now.histories i) call)) → IsSentSince s t (sent_by i out)
unfolding step_after
sent_out_is_sent setting s t step i call h out asks there =
    let outs = map (sent_by i) (frames_sent (answer_of (seat_at setting i) setting.limit (h.now.histories i) call)) in
    let next : (step_after setting h.now step).sent ≡ h.now.sent ++ outs = ap (λ (asked : Asked). (after_asked setting h.now asked).sent) asks in
    let all : t.sent ≡ ((s.sent ++ h.before.new) ++ outs) ++ h.after.new =
    h.after.sent ∙ ap (λ (fs : List SentFrame). fs ++ h.after.new) (next ∙ ap (λ (fs : List SentFrame). fs ++ outs) h.before.sent) in
    subst (λ (fs : List SentFrame). IsIn (sent_by i out) (drop (length s.sent) fs)) (sym all)
    (sent_out_between h.before.new outs h.after.new s.sent (sent_by i out) (in_map (sent_by i) (frames_sent (answer_of (seat_at setting i) setting.limit (h.now.histories i) call)) out there))

-- ---- and arrive

-- a frame among these arrives at each of its receivers
frame_arrives : (setting : Setting) (number : ℕ) (frames : List SentFrame) (frame : SentFrame) (j : ℕ) → IsIn frame frames → IsIn j (receivers setting.group.size frame.from frame.to)
    → (k : ℕ) × (slice_get frames k ≡ Some frame) × IsIn (ArriveStep j (number + k)) (arrivals_from setting number frames)
frame_arrives setting number [] frame j there to = absurd there
frame_arrives setting number (first ∷ frames) frame j (inl same) to =
    let here = in_map (λ j. ArriveStep j number) (receivers setting.group.size first.from first.to) j (subst (λ (f : SentFrame). IsIn j (receivers setting.group.size f.from f.to)) same to) in
    let e : number ≡ number + 0 = omega arith in (
      0,
      ap Some (sym same),
      subst (λ (n : ℕ). IsIn (ArriveStep j n) (arrivals_from setting number (first ∷ frames))) e
          (in_front (ArriveStep j number) (map (λ j. ArriveStep j number) (receivers setting.group.size first.from first.to)) (arrivals_from setting (number + 1) frames) here),
    )
frame_arrives setting number (first ∷ frames) frame j (inr later) to =
    let (k, at, step) = frame_arrives setting (number + 1) frames frame j later to in
    let e : number + 1 + k ≡ number + suc k = omega arith in (
      suc k,
      at,
      subst (λ (n : ℕ). IsIn (ArriveStep j n) (arrivals_from setting number (first ∷ frames))) e
          (in_back (ArriveStep j (number + 1 + k)) (map (λ j. ArriveStep j number) (receivers setting.group.size first.from first.to)) (arrivals_from setting (number + 1) frames) step),
    )

pub get_behind : {A : Type 0} (xs ys : List A) (k : ℕ) → slice_get (xs ++ ys) (length xs + k) ≡ slice_get ys k
get_behind [] ys k = let e : 0 + k ≡ k = omega arith in ap (slice_get ys) e
get_behind (x ∷ xs) ys k = let e : length (x ∷ xs) + k ≡ suc (length xs + k) = omega arith in ap (slice_get (x ∷ xs ++ ys)) e ∙ get_behind xs ys k

get_front : {A : Type 0} (xs ys : List A) (k : ℕ) (x : A) → slice_get xs k ≡ Some x → slice_get (xs ++ ys) k ≡ Some x
get_front [] ys k x at = absurd cc
get_front (y ∷ xs) ys zero x at = at
get_front (y ∷ xs) ys (suc k) x at = get_front xs ys k x at

-- the arrival of a frame that was sent since s, with its number
pub record Arrives (setting : Setting) (s t : GroupState) (frame : SentFrame) (j : ℕ) : Type 0 where
  pub number : ℕ
  pub at : slice_get t.sent number ≡ Some frame
  pub step : IsIn (ArriveStep j number) (arrivals_from setting (length s.sent) (drop (length s.sent) t.sent))

pub sent_arrives : (setting : Setting) (s t : GroupState) (frame : SentFrame) (j : ℕ) → IsLater s t → IsSentSince s t frame → IsIn j (receivers setting.group.size frame.from frame.to) → Arrives setting s t frame j
sent_arrives setting s t frame j later there to =
    let new : drop (length s.sent) t.sent ≡ later.new = ap (drop (length s.sent)) later.sent ∙ drop-append_seam s.sent later.new in
    let (k, at, step) = frame_arrives setting (length s.sent) (drop (length s.sent) t.sent) frame j there to in
    record {
      number = length s.sent + k;
      at = ap (λ (fs : List SentFrame). slice_get fs (length s.sent + k)) later.sent ∙ get_behind s.sent later.new k ∙ ap (λ (fs : List SentFrame). slice_get fs k) (sym new) ∙ at;
      step = step;
    }

-- a frame has its number in each later state
pub still_sent : (t now : GroupState) (number : ℕ) (frame : SentFrame) → IsLater t now → slice_get t.sent number ≡ Some frame → slice_get now.sent number ≡ Some frame
still_sent t now number frame later at = ap (λ (fs : List SentFrame). slice_get fs number) later.sent ∙ get_front t.sent later.new number frame at

-- ---- what these steps ask for

pub tick_asks : (setting : Setting) (sent : List SentFrame) (i : ℕ) → i < setting.group.size → asked_by setting sent (TickStep i) ≡ Calls i ToTick
tick_asks setting sent i lt = rw (lt-ltb i setting.group.size lt) refl

pub arrival_asks : (setting : Setting) (sent : List SentFrame) (j number : ℕ) (frame : SentFrame) → j < setting.group.size → slice_get sent number ≡ Some frame
    → asked_by setting sent (ArriveStep j number) ≡ Calls j (ToTake frame.bytes)
arrival_asks setting sent j number frame lt at = rw (lt-ltb j setting.group.size lt) (rw at refl)

-- ---- lists of steps that cast nothing

map_casts_nothing : (step : ℕ → Step) → ((k : ℕ) → IsNoCastStep (step k)) → (ks : List ℕ) → AllByRecursion IsNoCastStep (map step ks)
map_casts_nothing step each [] = tt
map_casts_nothing step each (k ∷ ks) = (each k, map_casts_nothing step each ks)

pub ticks_cast_nothing : (ks : List ℕ) → AllByRecursion IsNoCastStep (map TickStep ks)
ticks_cast_nothing ks = map_casts_nothing TickStep (λ k. tt) ks

pub arrivals_cast_nothing : (setting : Setting) (number : ℕ) (frames : List SentFrame) → AllByRecursion IsNoCastStep (arrivals_from setting number frames)
arrivals_cast_nothing setting number [] = tt
arrivals_cast_nothing setting number (frame ∷ frames) =
    all_both IsNoCastStep (map (λ j. ArriveStep j number) (receivers setting.group.size frame.from frame.to)) (arrivals_from setting (number + 1) frames)
    (map_casts_nothing (λ j. ArriveStep j number) (λ k. tt) (receivers setting.group.size frame.from frame.to)) (arrivals_cast_nothing setting (number + 1) frames)

-- another member is among the receivers of what goes to all others
pub other_receives : (size i j : ℕ) → j < size → (j ≡ i → ⊥) → IsIn j (receivers size i None)
other_receives size i j lt ne = in_filter (λ j. not (eqb j i)) (range_with_len 0 size) j (rw (ne_eqb j i ne) refl) (in_range 0 size j (omega arith) (omega (arith, lt)))
