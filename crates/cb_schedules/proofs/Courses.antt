-- The invariant holds along every run.
use Rattle.std.proofs.Common.{◌≡◌, ℕ, zero, suc, ◌<◌, true, ltb, List, [], ◌∷◌, ◌++◌, length, Option, Some, None, refl, ap, ◌∙◌, arith}
use Rattle.std.specs.Prelude.{slice_get}
use Rattle.std.specs.List.{AllByRecursion, list_any}
use Rattle.std.proofs.lemmas.Bool.{cond_both, ltb-true, and_parts}
use Rattle.std.proofs.lemmas.List.{append-nil}
use Rattle.cb_times.specs.declared.name.Name.{Name}
use Rattle.cb_frames.specs.Fields.{load_bytes, Carried}
use Rattle.cb_frames.specs.Laws.{IsBytes}
use Rattle.cb_causality.specs.StampedMachine.{StampedStep, StampedRun}
use Rattle.cb_causality.specs.Extension.{Extends, Still}
use Rattle.cb_history.specs.Group.{Parameters}
use Rattle.cb_history.specs.View.{view, next_delivery}
use Rattle.cb_history.specs.Legal.{Call, ToCast, ToTake, ToTick, ToHelp, NoEntries}
use Rattle.cb_history.proofs.Lists.{flat_map-append}
use Rattle.cb_history.proofs.Histories.{entries_say_legal_facts}
use Rattle.cb_schedules.specs.Schedule.{Setting, IsSetting, Step, CastStep, ArriveStep, TickStep, HelpStep, Schedule, SentFrame, Asked, Calls, OfNoMember, OfNoFrame, OfNoBytes, Answer, NoSuchMember, NoSuchFrame, NoBytes, GroupState, seat_at, are_bytes, handed_over, asked_by, and_nothing, after_asked, step_after, nothing_yet, run_from, run}
use Rattle.cb_schedules.specs.Messages.{facts_at, stamped_lists, arrived_at, has_arrived, received_by}
use Rattle.cb_schedules.specs.Honest.{IsHonest, events_of}
use Rattle.cb_schedules.specs.Consistent.{IsConsistent}
use Rattle.cb_schedules.proofs.Calling.{is_named}
use Rattle.cb_schedules.proofs.Answering.{cast_is_good, tick_is_good, help_is_good, arrival_is_good}
use Rattle.cb_schedules.proofs.Lists.{all_at_index}

-- ---- the start

nothing_next : (size : ℕ) → next_delivery size [] (view size []) ≡ None
unfolding view
nothing_next size = refl

nothing_happened : (group : Parameters) (k : ℕ) → events_of group (λ k. []) k ≡ []
unfolding view
nothing_happened group k = refl

pub starts : (setting : Setting) → IsSetting setting → IsConsistent setting nothing_yet
starts setting is = record {
  legal = λ k lt. record { group = is.group; member = lt; entries_are = NoEntries };
  nobody = λ k le. refl;
  together = record {
    legal = λ k lt. (entries_say_legal_facts (seat_at setting k) [] (record { group = is.group; member = lt; entries_are = NoEntries })).0;
    nobody = λ k le. refl;
    so = λ k. tt;
    settled = λ k. nothing_next setting.group.size;
    stamped = StampedRun.Start (events_of setting.group (λ k. [])) (nothing_happened setting.group);
  };
  honest = tt;
  sent = λ k c there. there;
  arrived = λ j m. refl;
}

-- ---- what a step asks for

bytes_are : (bytes : List ℕ) → are_bytes bytes ≡ true → IsBytes bytes
bytes_are [] all i = omega arith
bytes_are (b ∷ bytes) all zero = ltb-true b 256 (and_parts (ltb b 256) (are_bytes bytes) all).0
bytes_are (b ∷ bytes) all (suc i) = bytes_are bytes (and_parts (ltb b 256) (are_bytes bytes) all).1 i

-- a call that a step can ask for
abbrev pub IsFair : Setting → GroupState → Call → Type 0
IsFair setting s (ToCast load) = IsBytes (load_bytes load)
IsFair setting s (ToTake bytes) = IsHonest setting.group (facts_at s) bytes
IsFair setting s ToTick = Unit {0}
IsFair setting s (ToHelp k) = Unit {0}

-- what is so of each fair call of a member, and of nothing, is so of what a step asks for
pub asked_is : (setting : Setting) (s : GroupState) → AllByRecursion (λ (frame : SentFrame). IsHonest setting.group (facts_at s) frame.bytes) s.sent → (P : Asked → Type 0)
    → ((i : ℕ) (call : Call) → i < setting.group.size → IsFair setting s call → P (Calls i call)) → P OfNoMember → P OfNoFrame → P OfNoBytes → (step : Step) → P (asked_by setting s.sent step)
asked_is setting s honest P calls none no_frame no_bytes (CastStep i load) =
    cond_both (ltb i setting.group.size) _ _ P
    (λ inside. cond_both (are_bytes (load_bytes load)) (Calls i (ToCast load)) OfNoBytes P (λ all. calls i (ToCast load) (ltb-true i setting.group.size inside) (bytes_are (load_bytes load) all)) (λ _. no_bytes))
    (λ _. none)
asked_is setting s honest P calls none no_frame no_bytes (ArriveStep j number) =
    cond_both (ltb j setting.group.size) _ _ P (λ inside. handed inside (slice_get s.sent number) refl) (λ _. none)
  where
    handed : ltb j setting.group.size ≡ true → (found : Option SentFrame) → slice_get s.sent number ≡ found → P (handed_over j found)
    handed inside None e = no_frame
    handed inside (Some frame) e =
        calls j (ToTake frame.bytes) (ltb-true j setting.group.size inside) (all_at_index (λ (frame : SentFrame). IsHonest setting.group (facts_at s) frame.bytes) s.sent number frame honest e)
asked_is setting s honest P calls none no_frame no_bytes (TickStep i) =
    cond_both (ltb i setting.group.size) _ _ P (λ inside. calls i ToTick (ltb-true i setting.group.size inside) tt) (λ _. none)
asked_is setting s honest P calls none no_frame no_bytes (HelpStep j i) =
    cond_both (ltb j setting.group.size) _ _ P (λ inside. calls j (ToHelp i) (ltb-true j setting.group.size inside) tt) (λ _. none)

-- ---- one step

abbrev pub GoesOn : Setting → GroupState → GroupState → Type 0
GoesOn setting s after = IsConsistent setting after × Extends (StampedStep setting.group.size) (stamped_lists setting s) (stamped_lists setting after)

nothing_goes_on : (setting : Setting) (s : GroupState) (asked : Asked) (answer : Answer) → IsConsistent setting s → ((j : ℕ) → received_by j asked answer ≡ []) → GoesOn setting s (and_nothing s asked answer)
nothing_goes_on setting s asked answer inv none = (
  record {
    legal = inv.legal;
    nobody = inv.nobody;
    together = inv.together;
    honest = inv.honest;
    sent = inv.sent;
    arrived = λ j m. none_more j m ∙ inv.arrived j m;
  },
  Still (stamped_lists setting s) (λ k. refl),
)
  where
    none_more : (j : ℕ) (m : Name) → has_arrived (and_nothing s asked answer) j m ≡ has_arrived s j m
    none_more j m =
        ap (list_any (is_named m)) (flat_map-append (λ outcome. received_by j outcome.asked outcome.answer) s.outcomes (record { asked = asked; answer = answer; first = length s.sent; count = 0 } ∷ [])
        ∙ ap (λ (ms : List Carried). arrived_at s j ++ ms) (append-nil (received_by j asked answer) ∙ none j) ∙ append-nil (arrived_at s j))

call_goes_on : (setting : Setting) → IsSetting setting → (s : GroupState) → IsConsistent setting s → (i : ℕ) (call : Call) → i < setting.group.size → IsFair setting s call → GoesOn setting s (after_asked setting s (Calls i call))
call_goes_on setting is s inv i (ToCast load) lt fair = cast_is_good setting is s inv i lt load fair
call_goes_on setting is s inv i (ToTake bytes) lt fair = arrival_is_good setting is s inv i lt bytes fair
call_goes_on setting is s inv i ToTick lt fair = tick_is_good setting is s inv i lt
call_goes_on setting is s inv i (ToHelp k) lt fair = help_is_good setting is s inv i lt k

pub step_goes_on : (setting : Setting) → IsSetting setting → (s : GroupState) → IsConsistent setting s → (step : Step) → GoesOn setting s (step_after setting s step)
unfolding step_after
step_goes_on setting is s inv step =
    asked_is setting s inv.honest (λ (asked : Asked). GoesOn setting s (after_asked setting s asked)) (call_goes_on setting is s inv)
    (nothing_goes_on setting s OfNoMember NoSuchMember inv (λ j. refl)) (nothing_goes_on setting s OfNoFrame NoSuchFrame inv (λ j. refl)) (nothing_goes_on setting s OfNoBytes NoBytes inv (λ j. refl)) step

-- ---- runs

pub consistent_from : (setting : Setting) → IsSetting setting → (s : GroupState) → IsConsistent setting s → (steps : Schedule) → IsConsistent setting (run_from setting s steps)
unfolding run_from
consistent_from setting is s inv [] = inv
consistent_from setting is s inv (step ∷ steps) = consistent_from setting is (step_after setting s step) (step_goes_on setting is s inv step).0 steps

pub runs_are_consistent : (setting : Setting) (steps : Schedule) → IsSetting setting → IsConsistent setting (run setting steps)
runs_are_consistent setting steps is = consistent_from setting is nothing_yet (starts setting is) steps
