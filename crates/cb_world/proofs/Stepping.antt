-- The group takes a step more.
use Rattle.std.proofs.Common.{◌≡◌, ◌+◌, ◌≤◌, List, [], ◌∷◌, ◌++◌, length, map, Result, Ok, Err, sym, ap, subst, ◌∙◌, arith}
use Rattle.std.specs.Prelude.{OnOk, OnErr}
use Rattle.std.proofs.lemmas.List.{length-map, map-append}
use Rattle.cb_history.specs.State.{MemberState}
use Rattle.cb_schedules.specs.Schedule.{IsSetting, GroupState, asked_by, frames_sent, step_after}
use Rattle.cb_schedules.specs.Schedule as schedules
use Rattle.cb_schedules.specs.StepLaws.{ListsGoOn}
use Rattle.cb_schedules.proofs.GoingOn.{runs_go_on}
use Rattle.cb_schedules.proofs.StepByStep.{lists_go_on, lists_stay}
use Rattle.cb_world.specs.declared.step.Step.{Step}
use Rattle.cb_world.specs.declared.outcome.Outcome.{Outcome}
use Rattle.cb_world.specs.declared.outcome.Sent.{Sent}
use Rattle.cb_world.specs.Steps.{step_fields}
use Rattle.cb_world.specs.Outcomes.{sent_fields, answer_to, OneOutcomeMore}
use Rattle.cb_world.specs.Taking.{Stands, HasTaken}
use Rattle.cb_world.specs.World.{WorldState, run_in, and_step, IsWorld}
use Rattle.cb_world.proofs.Taken.{frames_grow}

pub steps_with : (taken : List Step) (one : Step) (step : schedules.Step) → step_fields one ≡ step → map step_fields (taken ++ one ∷ []) ≡ map step_fields taken ++ step ∷ []
steps_with taken one step e = map-append step_fields taken (one ∷ []) ∙ ap (λ (s : schedules.Step). map step_fields taken ++ s ∷ []) e

sent_long : (s : GroupState) (sent : List Sent) → map sent_fields sent ≡ s.sent → length sent ≡ length s.sent
sent_long s sent e = sym (length-map sent sent_fields) ∙ ap length e

module _ (w : WorldState) (members members_after : List MemberState) (sent sent_after : List Sent) (outcomes : List Outcome) (step : schedules.Step) (outcome : Outcome)
    (world : IsWorld w members sent outcomes) (taken : HasTaken w.setting (run_in w) step members_after sent_after outcome.answer) where
  now_long : length sent ≡ length (run_in w).sent
  now_long = sent_long (run_in w) sent world.stands.sent_are

  then_long : length sent_after ≡ length (run_in w).sent + length (frames_sent (answer_to w.setting (run_in w) (asked_by w.setting (run_in w).sent step)))
  then_long = sent_long (step_after w.setting (run_in w) step) sent_after taken.stands.sent_are ∙ frames_grow w.setting (run_in w) step

  -- no frame is lost
  pub frames_stay : length sent ≤ length sent_after
  frames_stay = omega (arith, now_long, then_long)

  pub stepped : outcome.first_frame ≡ length sent → outcome.frame_count + length sent ≡ length sent_after → IsWorld (and_step w step) members_after sent_after (outcomes ++ outcome ∷ [])
  stepped first count = record {
    setting_is = world.setting_is;
    stands = subst (λ (s : GroupState). Stands w.setting s members_after sent_after) (sym (runs_go_on w.setting w.steps step)) taken.stands;
    outcomes_are = OneOutcomeMore w.steps step outcomes outcome world.outcomes_are (record {
      answer = taken.reported_is;
      first = first ∙ now_long;
      count = omega (arith, count, now_long, then_long);
    });
  }

pub same_world : (w : WorldState) (members : List MemberState) (sent sent_now : List Sent) (outcomes outcomes_now : List Outcome) → IsWorld w members sent outcomes → sent_now ≡ sent → outcomes_now ≡ outcomes
    → IsWorld w members sent_now outcomes_now
same_world w members sent sent_now outcomes outcomes_now world same_sent same_outcomes =
    subst (λ (ss : List Sent). IsWorld w members ss outcomes_now) (sym same_sent) (subst (IsWorld w members sent) (sym same_outcomes) world)

-- the step was taken, or nothing has changed: the lists go on at their ends
pub lists_go_on_by : {A E : Type 0} (result : Result A E) (old new : WorldState) (step : schedules.Step) → IsSetting new.setting → OnOk result (new ≡ and_step old step) → OnErr result (new ≡ old)
    → ListsGoOn old.setting (run_in old) (run_in new)
lists_go_on_by (Ok done) old new step is taken same =
    subst (λ (w : WorldState). ListsGoOn old.setting (run_in old) (run_in w)) (sym taken) (lists_go_on old.setting old.steps step (subst (λ (w : WorldState). IsSetting w.setting) taken is))
lists_go_on_by (Err refused) old new step is taken same = subst (λ (w : WorldState). ListsGoOn old.setting (run_in old) (run_in w)) (sym same) (lists_stay old.setting (run_in old))
