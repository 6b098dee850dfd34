-- The headline holds of cores.
use Rattle.std.proofs.Common.{◌≡◌, ℕ, List, [], ◌∷◌, ◌++◌, Ok, Err, sym, subst, arith}
use Rattle.std.specs.List.{AllByRecursion}
use Rattle.std.proofs.lemmas.List.{length-append}
use Rattle.cb_times.specs.declared.name.Name.{Name}
use Rattle.cb_schedules.specs.Schedule.{Setting, Answer, CastAnswer, ArrivalAnswer, TickAnswer, HelpAnswer, NoSuchMember, NoSuchFrame, NoBytes, Outcome, GroupState, run}
use Rattle.cb_schedules.specs.Messages.{IsClosedArrival}
use Rattle.cb_schedules.specs.Headline.{Headline, IsCausalBroadcast, DeliversClosedArrivals, TimesTellHappenedBefore}
use Rattle.cb_schedules.specs.SentLaws.{IsRefusedByFullHistoryAlone, ArrivalsAreWelcome, OneNameSameBytes, HeardOfIsCast, StableIsDeliveredEverywhere, StableOfStandsInEvents, SendersStayNear}
use Rattle.cb_schedules.specs.StepLaws.{ListsGoOn}
use Rattle.cb_schedules.specs.HelpLaws.{NothingLackedIsForgotten, NothingLackedIsFreed}
use Rattle.cb_schedules.specs.Rounds.{IsNotFull}
use Rattle.cb_schedules.specs.Forgetting.{run_of_cores}
use Rattle.cb_schedules.specs.ForgettingLaws.{EachScheduleOfCores, EachStepOfCoresGoesOn, IsNotRefused, NoArrivalIsRefused}
use Rattle.cb_schedules.proofs.Headlines.{each_schedule, headline_holds, arrivals_are_welcome, one_name_same_bytes, heard_of_is_cast, stable_is_delivered_everywhere, stable_of_stands_in_events, senders_stay_near}
use Rattle.cb_schedules.proofs.Lacking.{nothing_lacked_is_forgotten, nothing_lacked_is_freed}
use Rattle.cb_schedules.proofs.StepByStep.{lists_go_on}
use Rattle.cb_schedules.proofs.Forgetting.{cores_run_as_members, each_of_cores, no_core_is_full, with_room}

-- ---- what is said of a group is said with every limit

module _ (setting : Setting) (limit : ℕ) where
  abbrev other : Setting
  other = record { group = setting.group; limit = limit }

  closed_here : (s : GroupState) (j : ℕ) (m : Name) → IsClosedArrival other s j m → IsClosedArrival setting s j m
  closed_here s j m c = record { arrived = c.arrived; past = c.past }

  closed_there : (s : GroupState) (j : ℕ) (m : Name) → IsClosedArrival setting s j m → IsClosedArrival other s j m
  closed_there s j m c = record { arrived = c.arrived; past = c.past }

  pub headline_here : (s : GroupState) → Headline other s → Headline setting s
  headline_here s h = record {
    causal = h.causal;
    delivered = λ j m. (λ has. closed_here s j m ((h.delivered j m).0 has), λ closed. (h.delivered j m).1 (closed_there s j m closed));
    times = h.times;
  }

  pub lists_here : (before after : GroupState) → ListsGoOn other before after → ListsGoOn setting before after
  lists_here before after on = record { stamped = on.stamped; causal = on.causal; frames = on.frames; histories = on.histories }

-- ---- the headline

pub headline_of_cores : EachScheduleOfCores Headline
headline_of_cores setting steps are =
    headline_here setting _ (run_of_cores setting.group steps) (each_of_cores Headline (each_schedule Headline headline_holds) setting.group steps are)

pub causal_broadcast_of_cores : EachScheduleOfCores IsCausalBroadcast
causal_broadcast_of_cores setting steps are = (headline_of_cores setting steps are).causal

pub cores_deliver_closed_arrivals : EachScheduleOfCores DeliversClosedArrivals
cores_deliver_closed_arrivals setting steps are = (headline_of_cores setting steps are).delivered

pub times_of_cores : EachScheduleOfCores TimesTellHappenedBefore
times_of_cores setting steps are = (headline_of_cores setting steps are).times

-- ---- step by step

pub each_step_of_cores_goes_on : EachStepOfCoresGoesOn
each_step_of_cores_goes_on setting steps step are =
    let all = steps ++ step ∷ [] in
    let room = with_room setting.group all in
    let longer = length-append steps (step ∷ []) in
    let before : run_of_cores setting.group steps ≡ run room steps = cores_run_as_members room steps (omega (arith, longer)) in
    let after : run_of_cores setting.group all ≡ run room all = cores_run_as_members room all (omega arith) in
    lists_here setting _ (run_of_cores setting.group steps) (run_of_cores setting.group all)
    (subst (λ (s : GroupState). ListsGoOn room s (run_of_cores setting.group all)) (sym before)
    (subst (ListsGoOn room (run room steps)) (sym after) (lists_go_on room steps step (record { group = are; one_or_more = omega arith }))))

-- ---- arrivals

not_refused : (answer : Answer) → IsNotFull answer → IsRefusedByFullHistoryAlone answer → IsNotRefused answer
not_refused (CastAnswer r) free welcome = tt
not_refused (ArrivalAnswer (Ok says)) free welcome = tt
not_refused (ArrivalAnswer (Err refusal)) free welcome = free welcome
not_refused (TickAnswer r) free welcome = tt
not_refused (HelpAnswer r) free welcome = tt
not_refused NoSuchMember free welcome = tt
not_refused NoSuchFrame free welcome = tt
not_refused NoBytes free welcome = tt

none_refused : (outcomes : List Outcome) → AllByRecursion (λ (o : Outcome). IsNotFull o.answer) outcomes → AllByRecursion (λ (o : Outcome). IsRefusedByFullHistoryAlone o.answer) outcomes
    → AllByRecursion (λ (o : Outcome). IsNotRefused o.answer) outcomes
none_refused [] free welcome = tt
none_refused (o ∷ outcomes) free welcome = (not_refused o.answer free.0 welcome.0, none_refused outcomes free.1 welcome.1)

pub no_arrival_is_refused : EachScheduleOfCores NoArrivalIsRefused
no_arrival_is_refused setting steps are =
    none_refused (run_of_cores setting.group steps).outcomes (no_core_is_full setting.group steps) (each_of_cores ArrivalsAreWelcome arrivals_are_welcome setting.group steps are)

-- ---- frames, and what cores know

pub one_name_of_cores_same_bytes : EachScheduleOfCores OneNameSameBytes
one_name_of_cores_same_bytes setting steps are = each_of_cores OneNameSameBytes (each_schedule OneNameSameBytes one_name_same_bytes) setting.group steps are

pub heard_of_by_cores_is_cast : EachScheduleOfCores HeardOfIsCast
heard_of_by_cores_is_cast setting steps are = each_of_cores HeardOfIsCast (each_schedule HeardOfIsCast heard_of_is_cast) setting.group steps are

pub stable_of_cores_is_delivered : EachScheduleOfCores StableIsDeliveredEverywhere
stable_of_cores_is_delivered setting steps are =
    each_of_cores StableIsDeliveredEverywhere (each_schedule StableIsDeliveredEverywhere stable_is_delivered_everywhere) setting.group steps are

pub stable_of_stands_in_events_of_cores : EachScheduleOfCores StableOfStandsInEvents
stable_of_stands_in_events_of_cores setting steps are =
    each_of_cores StableOfStandsInEvents (each_schedule StableOfStandsInEvents stable_of_stands_in_events) setting.group steps are

pub cores_stay_near : EachScheduleOfCores SendersStayNear
cores_stay_near setting steps are = each_of_cores SendersStayNear (each_schedule SendersStayNear senders_stay_near) setting.group steps are

-- ---- what cores keep

pub nothing_cores_lack_is_forgotten : EachScheduleOfCores NothingLackedIsForgotten
nothing_cores_lack_is_forgotten setting steps are = each_of_cores NothingLackedIsForgotten (each_schedule NothingLackedIsForgotten nothing_lacked_is_forgotten) setting.group steps are

pub nothing_cores_lack_is_freed : EachScheduleOfCores NothingLackedIsFreed
nothing_cores_lack_is_freed setting steps are = each_of_cores NothingLackedIsFreed (each_schedule NothingLackedIsFreed nothing_lacked_is_freed) setting.group steps are
