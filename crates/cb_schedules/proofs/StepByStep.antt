-- One more step leaves each list as it was, and goes on at its end.
use Rattle.std.proofs.Common.{◌≡◌, ◌≢◌, ℕ, ◌<◌, List, [], ◌∷◌, ◌++◌, map, Option, Some, None, refl, sym, ap, subst, ◌∙◌, inl, inr}
use Rattle.std.proofs.lemmas.Bool.{cases_eq, eq-eqb, ne_eqb}
use Rattle.std.proofs.lemmas.List.{append-nil}
use Rattle.cb_causality.specs.Extension.{Still}
use Rattle.cb_history.specs.Facts.{EntryFields}
use Rattle.cb_history.specs.Legal.{and_entry, entry_of}
use Rattle.cb_schedules.specs.Schedule.{Setting, seat_at, Step, Asked, Calls, OfNoMember, OfNoFrame, OfNoBytes, answer_of, frames_sent, sent_by, GroupState, with_history, after_asked, step_after, run}
use Rattle.cb_schedules.specs.Messages.{stamped_lists, causal_lists}
use Rattle.cb_schedules.specs.Consistent.{IsConsistent}
use Rattle.cb_schedules.specs.StepLaws.{FramesGoOn, HistoriesGoOn, NoEntry, OneEntry, ListsGoOn, EachStepGoesOn}
use Rattle.cb_schedules.proofs.Courses.{asked_is, runs_are_consistent}
use Rattle.cb_schedules.proofs.GoingOn.{runs_go_on}
use Rattle.cb_schedules.proofs.Headlines.{steps_extend_the_stamped, steps_extend_the_causal}

-- ---- frames

asked_frames : (setting : Setting) (s : GroupState) (asked : Asked) → FramesGoOn s.sent (after_asked setting s asked).sent
asked_frames setting s (Calls i call) = (map (sent_by i) (frames_sent (answer_of (seat_at setting i) setting.limit (s.histories i) call)), refl)
asked_frames setting s OfNoMember = ([], sym (append-nil s.sent))
asked_frames setting s OfNoFrame = ([], sym (append-nil s.sent))
asked_frames setting s OfNoBytes = ([], sym (append-nil s.sent))

-- ---- histories

own_entries : (histories : ℕ → List EntryFields) (i k : ℕ) (entries : List EntryFields) → k ≡ i → with_history histories i entries k ≡ entries
own_entries histories i k entries same = rw (eq-eqb k i same) refl

other_entries : (histories : ℕ → List EntryFields) (i k : ℕ) (entries : List EntryFields) → k ≢ i → with_history histories i entries k ≡ histories k
other_entries histories i k entries other = rw (ne_eqb k i other) refl

entry_goes_on : (size : ℕ) (histories : ℕ → List EntryFields) (i : ℕ) (o : Option EntryFields) → i < size → HistoriesGoOn size histories (with_history histories i (and_entry (histories i) o))
entry_goes_on size histories i None lt = NoEntry (λ k. elim (cases_eq k i) [
  | inl same ↦ ap histories same ∙ sym (own_entries histories i k (histories i) same)
  | inr other ↦ sym (other_entries histories i k (histories i) other)
])
entry_goes_on size histories i (Some e) lt = OneEntry i e lt (record {
  own = own_entries histories i i (histories i ++ e ∷ []) refl;
  others = λ k other. other_entries histories i k (histories i ++ e ∷ []) other;
})

-- ---- a step

frames_go_on : (setting : Setting) (s : GroupState) (step : Step) → FramesGoOn s.sent (step_after setting s step).sent
unfolding step_after
frames_go_on setting s step = asked_frames setting s _

pub histories_go_on : (setting : Setting) (s : GroupState) → IsConsistent setting s → (step : Step) → HistoriesGoOn setting.group.size s.histories (step_after setting s step).histories
unfolding step_after
histories_go_on setting s inv step =
    asked_is setting s inv.honest (λ (asked : Asked). HistoriesGoOn setting.group.size s.histories (after_asked setting s asked).histories)
    (λ i call lt fair. entry_goes_on setting.group.size s.histories i (entry_of (seat_at setting i) setting.limit (s.histories i) call) lt) (NoEntry (λ k. refl)) (NoEntry (λ k. refl)) (NoEntry (λ k. refl)) step

pub lists_go_on : EachStepGoesOn
lists_go_on setting steps step is =
    let s : GroupState = run setting steps in
    subst (ListsGoOn setting s) (sym (runs_go_on setting steps step)) (record {
      stamped = steps_extend_the_stamped setting steps step is;
      causal = steps_extend_the_causal setting steps step is;
      frames = frames_go_on setting s step;
      histories = histories_go_on setting s (runs_are_consistent setting steps is) step;
    })

-- where no step is taken they are as they were
pub lists_stay : (setting : Setting) (s : GroupState) → ListsGoOn setting s s
lists_stay setting s = record {
  stamped = Still (stamped_lists setting s) (λ k. refl);
  causal = Still (causal_lists setting s) (λ k. refl);
  frames = ([], sym (append-nil s.sent));
  histories = NoEntry (λ k. refl);
}
