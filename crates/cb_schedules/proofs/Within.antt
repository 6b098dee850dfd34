-- No history passes the limit of its setting.
use Rattle.std.proofs.Common.{◌≡◌, ℕ, ◌≤◌, eqb, List, [], ◌∷◌, length, Option, Some, None, refl, arith}
use Rattle.std.proofs.lemmas.Bool.{cond_both}
use Rattle.std.proofs.lemmas.List.{length-append}
use Rattle.cb_history.specs.Group.{Identity}
use Rattle.cb_history.specs.Facts.{EntryFields}
use Rattle.cb_history.specs.Legal.{Call, entry_of, and_entry, history_after}
use Rattle.cb_history.proofs.Calls.{added_below}
use Rattle.cb_schedules.specs.Schedule.{Setting, seat_at, Step, Schedule, Asked, Calls, OfNoMember, OfNoFrame, OfNoBytes, GroupState, asked_by, after_asked, step_after, nothing_yet, run_from}
use Rattle.cb_schedules.specs.LimitLaws.{HistoriesStayWithin, HistoriesAreLegal}
use Rattle.cb_schedules.proofs.Courses.{runs_are_consistent}

added_within : (seat : Identity) (limit : ℕ) (entries : List EntryFields) (call : Call) (o : Option EntryFields) → entry_of seat limit entries call ≡ o → length entries ≤ limit → length (and_entry entries o) ≤ limit
added_within seat limit entries call None is within = within
added_within seat limit entries call (Some e) is within = omega (arith, added_below seat limit entries call e is, length-append entries (e ∷ []))

abbrev AreWithin : Setting → GroupState → Type 0
AreWithin setting s = (k : ℕ) → length (s.histories k) ≤ setting.limit

asked_within : (setting : Setting) (s : GroupState) (asked : Asked) → AreWithin setting s → AreWithin setting (after_asked setting s asked)
asked_within setting s (Calls i call) within k =
    cond_both (eqb k i) (history_after (seat_at setting i) setting.limit (s.histories i) call) (s.histories k) (λ (es : List EntryFields). length es ≤ setting.limit)
    (λ _. added_within (seat_at setting i) setting.limit (s.histories i) call (entry_of (seat_at setting i) setting.limit (s.histories i) call) refl (within i)) (λ _. within k)
asked_within setting s OfNoMember within k = within k
asked_within setting s OfNoFrame within k = within k
asked_within setting s OfNoBytes within k = within k

step_within : (setting : Setting) (s : GroupState) (step : Step) → AreWithin setting s → AreWithin setting (step_after setting s step)
unfolding step_after
step_within setting s step within = asked_within setting s (asked_by setting s.sent step) within

run_within : (setting : Setting) (s : GroupState) (steps : Schedule) → AreWithin setting s → AreWithin setting (run_from setting s steps)
unfolding run_from
run_within setting s [] within = within
run_within setting s (step ∷ steps) within = run_within setting (step_after setting s step) steps (step_within setting s step within)

pub histories_stay_within : HistoriesStayWithin
histories_stay_within setting steps = run_within setting nothing_yet steps (λ k. omega arith)

pub histories_are_legal : HistoriesAreLegal
histories_are_legal setting steps k is lt =
    let entered = (runs_are_consistent setting steps is.is_setting).legal k lt in
    record {
      group = entered.group;
      member = entered.member;
      entries_are = entered.entries_are;
      few = let within = histories_stay_within setting steps k in let most = is.at_most in omega (arith, within, most);
    }
