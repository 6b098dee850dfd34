-- Rounds without a silent member, and rounds among those whom a plan lists, bring the ENDs to all who go on.
use Rattle.std.specs.Prelude.{slice_get, bytes_eq, nat_le, nat_lt, not}
use Rattle.std.specs.List.{AllByRecursion, list_any, list_all, filter_map}
use Rattle.std.proofs.Common.{◌≡◌, ◌≢◌, ℕ, ◌<◌, ◌≤◌, ◌&&◌, ◌||◌, Bool, true, false, eqb, Option, List, [], ◌∷◌, ◌++◌, map, Some, None, refl, sym, ◌∙◌, ap, subst, append-nil, append_assoc}
use Rattle.std.proofs.lemmas.Bool.{cond_both, eq-eqb, leb-true, le-ltb}
use Rattle.std.proofs.lemmas.Option.{slice_get_within}
use Rattle.cb_times.specs.declared.name.Name.{Name}
use Rattle.cb_frames.specs.Fields.{One, Carried}
use Rattle.cb_delay.specs.declared.message.Message.{Message}
use Rattle.cb_delay.specs.declared.message.Event.{Event}
use Rattle.cb_delay.specs.declared.message.Event.TheVariants.{Cast}
use Rattle.cb_delay.specs.Message.{message_of}
use Rattle.cb_causality.specs.declared.event.CausalEvent.TheVariants as causal
use Rattle.cb_causality.specs.Events.{name_of}
use Rattle.cb_causality.specs.StampedMachine.{without_time}
use Rattle.cb_causality.proofs.Counting.{get_left, get_map, get_map_from}
use Rattle.cb_causality.proofs.OneMessage.{one_name_one_message}
use Rattle.cb_causality.proofs.Runs.{run_regular}
use Rattle.cb_causality.proofs.Stamps.{stamped_is_causal, name_stays}
use Rattle.cb_history.specs.EventLaws.{casts_among}
use Rattle.cb_history.specs.Answers.{own_casts}
use Rattle.cb_history.proofs.Views.{IsIn}
use Rattle.cb_history.proofs.Lists.{each_of, all_of, any_of}
use Rattle.cb_schedules.specs.Schedule.{Setting, IsSetting, Step, CastStep, ArriveStep, TickStep, HelpStep, Schedule, GroupState, step_after, run_from, run}
use Rattle.cb_schedules.specs.Messages.{facts_at, stamped_lists, causal_lists, HasDelivered}
use Rattle.cb_schedules.specs.Rounds.{FindNoneFull}
use Rattle.cb_schedules.specs.RoundLaws.{IsNoCastStep, rounds_to_deliver}
use Rattle.cb_schedules.specs.HelpRounds.{help_rounds}
use Rattle.cb_schedules.specs.HelpRoundLaws.{rounds_without}
use Rattle.cb_schedules.specs.Consistent.{IsConsistent}
use Rattle.cb_schedules.specs.Succession.{Plan, EndableGroup, IsEndable, is_listed, own_plans, is_end_by, Begin, has_begun, is_passed, may_talk, may_end, may_begin, the_rules, SuccessionStep, Happens, Ends, Begins, SuccessionState, and_happens, and_ends, and_begins, succession_step, succession_from, nobody_yet, succession}
use Rattle.cb_schedules.specs.SuccessionRounds.{rounds_of, behind_rounds, MayBeginNow, GoesOnBy, ADeadMemberIsNotNeeded, ComesLate, WhoComesLateMayBegin, NothingElseIsWaitedFor, rounds_of_listed, WaitsFor, SilentMembersAreNotNeeded}
use Rattle.cb_schedules.proofs.Courses.{step_goes_on, consistent_from}
use Rattle.cb_schedules.proofs.EndLists.{casts_of_both, plans_of_casts, both_hold, text_same}
use Rattle.cb_schedules.proofs.GoingOn.{runs_join}
use Rattle.cb_schedules.proofs.Headlines.{member_has, headline_holds}
use Rattle.cb_schedules.proofs.HelpRoundLaws.{others_have_what_any_had}
use Rattle.cb_schedules.proofs.HelpSteps.{help_rounds_cast_nothing}
use Rattle.cb_schedules.proofs.RoundsAmongLaws.{rounds_cast_nothing, they_have_what_any_had}
use Rattle.cb_schedules.proofs.Later.{MoreFacts, own_casts-append, step_is_later}
use Rattle.cb_schedules.proofs.Lists.{in_by_index}
use Rattle.cb_schedules.proofs.SuccessionLaws.{had_end, stands_now, asks, cast_from_erased}
use Rattle.cb_schedules.proofs.SuccessionSteps.{SuccessionSo, more_casts, successions_are_so}
use Rattle.cb_schedules.proofs.Successions.{succession_joins}

-- ---- the group's part of a succession is the run of a schedule

module _ (g : EndableGroup) (t : SuccessionState) where
  no_steps : (more : Schedule) × (t.group ≡ run_from g.setting t.group more)
  unfolding run_from
  no_steps = ([], refl)

  one_more : (step : Step) → (more : Schedule) × ((and_happens g t step).group ≡ run_from g.setting t.group more)
  unfolding run_from
  one_more step = (step ∷ [], refl)

  pub group_steps : (step : SuccessionStep) → (more : Schedule) × ((succession_step the_rules g t step).group ≡ run_from g.setting t.group more)
  unfolding succession_step
  group_steps (Happens (CastStep i load)) =
      cond_both (may_talk g t.group i load) (and_happens g t (CastStep i load)) t (λ (after : SuccessionState). (more : Schedule) × (after.group ≡ run_from g.setting t.group more))
      (λ _. one_more (CastStep i load)) (λ _. no_steps)
  group_steps (Happens (ArriveStep j number)) = one_more (ArriveStep j number)
  group_steps (Happens (TickStep i)) = one_more (TickStep i)
  group_steps (Happens (HelpStep j i)) = one_more (HelpStep j i)
  group_steps (Ends i text) = by_plan (g.plan_in text)
    where
      by_plan : (o : Option Plan) → (more : Schedule) × ((and_ends the_rules g t i text o).group ≡ run_from g.setting t.group more)
      by_plan None = no_steps
      by_plan (Some plan) =
          cond_both (may_end g t.begun (stamped_lists g.setting t.group i) i plan) (and_happens g t (CastStep i (One text))) t (λ (after : SuccessionState). (more : Schedule) × (after.group ≡ run_from g.setting t.group more))
          (λ _. one_more (CastStep i (One text))) (λ _. no_steps)
  group_steps (Begins i text) = by_plan (g.plan_in text)
    where
      by_plan : (o : Option Plan) → (more : Schedule) × ((and_begins the_rules g t i text o).group ≡ run_from g.setting t.group more)
      by_plan None = no_steps
      by_plan (Some plan) =
          cond_both (may_begin g t.begun (stamped_lists g.setting t.group i) i text plan) _ t (λ (after : SuccessionState). (more : Schedule) × (after.group ≡ run_from g.setting t.group more))
          (λ _. no_steps) (λ _. no_steps)

is_run_from : (g : EndableGroup) (t : SuccessionState) (done : Schedule) → t.group ≡ run g.setting done → (steps : List SuccessionStep)
    → (all : Schedule) × ((succession_from the_rules g t steps).group ≡ run g.setting all)
unfolding succession_from
is_run_from g t done is [] = (done, is)
is_run_from g t done is (step ∷ steps) =
    let (more, goes_on) = group_steps g t step in
    is_run_from g (succession_step the_rules g t step) (done ++ more)
    (goes_on ∙ ap (λ (s : GroupState). run_from g.setting s more) is ∙ sym (runs_join g.setting done more)) steps

pub group_is_run : (g : EndableGroup) (steps : List SuccessionStep) → (all : Schedule) × ((succession the_rules g steps).group ≡ run g.setting all)
unfolding run_from
group_is_run g steps = is_run_from g nobody_yet [] refl steps

-- ---- steps in which nobody casts

-- they happen
quiet_steps_happen : (g : EndableGroup) (t : SuccessionState) (steps : Schedule) → AllByRecursion IsNoCastStep steps
    → succession_from the_rules g t (map Happens steps) ≡ record { group = run_from g.setting t.group steps; begun = t.begun }
unfolding succession_from succession_step run_from
quiet_steps_happen g t [] none = refl
quiet_steps_happen g t (CastStep i load ∷ steps) none = absurd none.0
quiet_steps_happen g t (ArriveStep j number ∷ steps) none = quiet_steps_happen g (and_happens g t (ArriveStep j number)) steps none.1
quiet_steps_happen g t (TickStep i ∷ steps) none = quiet_steps_happen g (and_happens g t (TickStep i)) steps none.1
quiet_steps_happen g t (HelpStep j i ∷ steps) none = quiet_steps_happen g (and_happens g t (HelpStep j i)) steps none.1

-- and events go on without casts
quiet_events : (setting : Setting) → IsSetting setting → (s : GroupState) → IsConsistent setting s → (steps : Schedule) → AllByRecursion IsNoCastStep steps → (k : ℕ)
    → (more : List Event) × (stamped_lists setting (run_from setting s steps) k ≡ stamped_lists setting s k ++ more) × (casts_among more ≡ [])
unfolding run_from
quiet_events setting is s inv [] none k = ([], sym (append-nil (stamped_lists setting s k)), refl)
quiet_events setting is s inv (step ∷ steps) none k =
    let goes = step_goes_on setting is s inv step in
    let later : MoreFacts (facts_at s k) (facts_at (step_after setting s step) k) = (step_is_later setting s step none.0).facts k in
    let own : own_casts (facts_at (step_after setting s step) k) ≡ own_casts (facts_at s k) ++ [] =
    ap own_casts later.is ∙ own_casts-append (facts_at s k) later.more ∙ ap (λ (cs : List _). own_casts (facts_at s k) ++ cs) later.none_own in
    let (first, is_first, no_first) = more_casts setting s (step_after setting s step) inv goes.0 goes.1 k [] own in
    let (rest, is_rest, no_rest) = quiet_events setting is (step_after setting s step) goes.0 steps none.1 k in (
      first ++ rest,
      is_rest ∙ ap (λ (es : List Event). es ++ rest) is_first ∙ append_assoc (stamped_lists setting s k) first rest,
      casts_of_both first rest ∙ ap (λ (cs : List Carried). cs ++ casts_among rest) no_first ∙ no_rest,
    )

-- ---- an END that is delivered

-- where an END stands with somebody, whoever has delivered its message has that END
end_is_there : (setting : Setting) (s : GroupState) → IsConsistent setting s → (j k a : ℕ) (e : Event) (text : List ℕ)
    → slice_get (stamped_lists setting s k) a ≡ Some e → (message_of e).payload ≡ text → HasDelivered setting s j (message_of e).name
    → list_any (is_end_by text (message_of e).name.sender) (stamped_lists setting s j) ≡ true
end_is_there setting s inv j k a e text at is_text had =
    let (f, at_f, is_f) = get_map_from without_time (stamped_lists setting s j) had.index had.event had.stands in
    let names : (message_of f).name ≡ (message_of e).name = sym (name_stays f) ∙ ap name_of is_f ∙ had.named in
    let same : message_of f ≡ message_of e =
    one_name_one_message setting.group.size (stamped_lists setting s) inv.together.stamped f e (j, had.index, at_f) (k, a, at) names in
    any_of (is_end_by text (message_of e).name.sender) (stamped_lists setting s j) f (in_by_index (stamped_lists setting s j) had.index f at_f)
    (both_hold (eqb (message_of f).name.sender (message_of e).name.sender) (bytes_eq text (message_of f).payload)
    (eq-eqb (message_of f).name.sender (message_of e).name.sender (ap (λ (m : Message). m.name.sender) same))
    (text_same text (message_of f).payload (sym (ap (λ (m : Message). m.payload) same ∙ is_text))))

-- the four things that a begin asks for
all_hold : (a b c d : Bool) → a ≡ false → b ≡ true → c ≡ true → d ≡ true → (not a && b && c && d) ≡ true
all_hold a b c d no_a yes_b yes_c yes_d = rw (no_a, yes_b, yes_c, yes_d) refl

-- nothing else is waited for
pub nothing_else_is_waited_for : NothingElseIsWaitedFor
nothing_else_is_waited_for g steps text plan k endable read waits listed last arrived =
    all_hold (has_begun (succession the_rules g steps).begun k) (is_listed k plan) (list_all (λ l. list_any (is_end_by text l) (stamped_lists g.setting (succession the_rules g steps).group k)) plan.list)
    (list_all (λ q. not (nat_lt plan.number q.number) || is_passed (succession the_rules g steps).begun text plan q) (own_plans g.plan_in (stamped_lists g.setting (succession the_rules g steps).group k)))
    waits listed
    (all_of (λ l. list_any (is_end_by text l) (stamped_lists g.setting (succession the_rules g steps).group k)) plan.list (λ l there. ended l there))
    (all_of (λ q. not (nat_lt plan.number q.number) || is_passed (succession the_rules g steps).begun text plan q) (own_plans g.plan_in (stamped_lists g.setting (succession the_rules g steps).group k))
    (λ q there. no_later q (leb-true q.number plan.number (each_of (λ (p : Plan). nat_le p.number plan.number) (own_plans g.plan_in (stamped_lists g.setting (succession the_rules g steps).group k)) q last there))))
  where
    so : SuccessionSo g (succession the_rules g steps)
    so = successions_are_so g endable steps

    no_later : (q : Plan) → q.number ≤ plan.number → (not (nat_lt plan.number q.number) || is_passed (succession the_rules g steps).begun text plan q) ≡ true
    no_later q most = rw (le-ltb plan.number q.number most) refl

    ended : (l : ℕ) → IsIn l plan.list → list_any (is_end_by text l) (stamped_lists g.setting (succession the_rules g steps).group k) ≡ true
    ended l there =
        let (end, closed) = arrived l (any_of (λ n. eqb n l) plan.list l there (eq-eqb l l refl)) in
        let (x, at, named, says) = cast_from_erased g (stamped_lists g.setting (succession the_rules g steps).group) (succession the_rules g steps).begun so.succeeding l end.index end.name text end.stands in
        let own : x.name.sender ≡ l =
        (run_regular g.setting.group.size (causal_lists g.setting (succession the_rules g steps).group) (stamped_is_causal g.setting.group.size (stamped_lists g.setting (succession the_rules g steps).group) so.succeeding.run)).sound.casters
        (record { member = l; index = end.index }) x.name (record { payload = text; stands = end.stands ∙ ap (λ (m : Name). Some (causal.Cast m text)) (sym named) }) in
        let had : HasDelivered g.setting (succession the_rules g steps).group k x.name =
        subst (HasDelivered g.setting (succession the_rules g steps).group k) (sym named) (((headline_holds g.setting (succession the_rules g steps).group so.consistent).delivered k end.name).1 closed) in
        subst (λ (n : ℕ). list_any (is_end_by text n) (stamped_lists g.setting (succession the_rules g steps).group k) ≡ true) own
        (end_is_there g.setting (succession the_rules g steps).group so.consistent k l end.index (Cast x) text at says had)

-- ---- behind rounds in which nobody casts

-- where those who live have all that one of them had
module _ (g : EndableGroup) (endable : IsEndable g) (steps : List SuccessionStep) (rounds : Schedule) (no_casts : AllByRecursion IsNoCastStep rounds) (Lives : ℕ → Type 0)
    (all_have : (j k : ℕ) (m : Name) → j < g.setting.group.size → k < g.setting.group.size → Lives j → Lives k
    → HasDelivered g.setting (succession the_rules g steps).group k m → HasDelivered g.setting (run_from g.setting (succession the_rules g steps).group rounds) j m) where
  abbrev before : SuccessionState
  before = succession the_rules g steps

  abbrev behind : GroupState
  behind = run_from g.setting before.group rounds

  so : SuccessionSo g (succession the_rules g steps)
  so = successions_are_so g endable steps

  behind_is : succession the_rules g (steps ++ map Happens rounds) ≡ record { group = behind; begun = before.begun }
  behind_is = succession_joins g nobody_yet steps (map Happens rounds) ∙ quiet_steps_happen g before rounds no_casts

  behind_so : IsConsistent g.setting behind
  behind_so = consistent_from g.setting endable.is_setting before.group so.consistent rounds

  -- so an END that one of them had, each of them has
  end_comes : (j k a : ℕ) (e : Event) (text : List ℕ) → j < g.setting.group.size → k < g.setting.group.size → Lives j → Lives k
      → slice_get (stamped_lists g.setting before.group k) a ≡ Some e → (message_of e).payload ≡ text
      → list_any (is_end_by text (message_of e).name.sender) (stamped_lists g.setting behind j) ≡ true
  end_comes j k a e text lt_j lt_k live_j live_k at is_text =
      let has : HasDelivered g.setting before.group k (message_of e).name =
      record { index = a; event = without_time e; stands = get_map without_time (stamped_lists g.setting before.group k) a e at; named = name_stays e } in
      let had : HasDelivered g.setting behind j (message_of e).name = all_have j k (message_of e).name lt_j lt_k live_j live_k has in
      let (more, goes_on, none) = quiet_events g.setting endable.is_setting before.group so.consistent rounds no_casts k in
      let at_behind : slice_get (stamped_lists g.setting behind k) a ≡ Some e =
      ap (λ (es : List Event). slice_get es a) goes_on ∙ get_left (stamped_lists g.setting before.group k) more a (slice_get_within (stamped_lists g.setting before.group k) a e at) ∙ at in
      end_is_there g.setting behind behind_so j k a e text at_behind is_text had

  -- the own ENDs are those from before
  same_plans : (k : ℕ) → own_plans g.plan_in (stamped_lists g.setting behind k) ≡ own_plans g.plan_in (stamped_lists g.setting before.group k)
  same_plans k =
      let (more, goes_on, none) = quiet_events g.setting endable.is_setting before.group so.consistent rounds no_casts k in
      plans_of_casts g.plan_in (stamped_lists g.setting behind k)
      ∙ ap (filter_map (λ (c : Carried). g.plan_in c.payload))
      (ap casts_among goes_on ∙ casts_of_both (stamped_lists g.setting before.group k) more ∙ ap (λ (cs : List Carried). casts_among (stamped_lists g.setting before.group k) ++ cs) none
      ∙ append-nil (casts_among (stamped_lists g.setting before.group k)))
      ∙ sym (plans_of_casts g.plan_in (stamped_lists g.setting before.group k))

  -- what a begin asks for
  may_now : (k : ℕ) (text : List ℕ) (plan : Plan) → has_begun before.begun k ≡ false → is_listed k plan ≡ true
      → ((l : ℕ) → IsIn l plan.list → list_any (is_end_by text l) (stamped_lists g.setting behind k) ≡ true)
      → ((q : Plan) → IsIn q (own_plans g.plan_in (stamped_lists g.setting before.group k)) → (not (nat_lt plan.number q.number) || is_passed before.begun text plan q) ≡ true)
      → MayBeginNow g (succession the_rules g (steps ++ map Happens rounds)) k text plan
  may_now k text plan waits listed ended passed =
      subst (λ (t : SuccessionState). may_begin g t.begun (stamped_lists g.setting t.group k) k text plan ≡ true) (sym behind_is)
      (all_hold (has_begun before.begun k) (is_listed k plan) (list_all (λ l. list_any (is_end_by text l) (stamped_lists g.setting behind k)) plan.list)
      (list_all (λ q. not (nat_lt plan.number q.number) || is_passed before.begun text plan q) (own_plans g.plan_in (stamped_lists g.setting behind k)))
      waits listed (all_of (λ l. list_any (is_end_by text l) (stamped_lists g.setting behind k)) plan.list ended)
      (ap (list_all (λ q. not (nat_lt plan.number q.number) || is_passed before.begun text plan q)) (same_plans k)
      ∙ all_of (λ q. not (nat_lt plan.number q.number) || is_passed before.begun text plan q) (own_plans g.plan_in (stamped_lists g.setting before.group k)) passed))

  -- each whom the plan lists has ended
  module _ (text : List ℕ) (plan : Plan) (read : g.plan_in text ≡ Some plan) (each : (l : ℕ) → is_listed l plan ≡ true → WaitsFor g (succession the_rules g steps) text plan l × Lives l) where
    is_in_list : (l : ℕ) → IsIn l plan.list → is_listed l plan ≡ true
    is_in_list l there = any_of (λ n. eqb n l) plan.list l there (eq-eqb l l refl)

    ended_at : (k l : ℕ) → is_listed k plan ≡ true → IsIn l plan.list → list_any (is_end_by text l) (stamped_lists g.setting behind k) ≡ true
    ended_at k l listed there =
        let (here, here_lives) = each k listed in
        let (other, other_lives) = each l (is_in_list l there) in
        let (x, at, named, says) = cast_from_erased g (stamped_lists g.setting before.group) before.begun so.succeeding l other.ended.index other.ended.name text other.ended.stands in
        let own : x.name.sender ≡ l =
        (run_regular g.setting.group.size (causal_lists g.setting before.group) (stamped_is_causal g.setting.group.size (stamped_lists g.setting before.group) so.succeeding.run)).sound.casters
        (record { member = l; index = other.ended.index }) x.name (record { payload = text; stands = other.ended.stands ∙ ap (λ (m : Name). Some (causal.Cast m text)) (sym named) }) in
        subst (λ (n : ℕ). list_any (is_end_by text n) (stamped_lists g.setting behind k) ≡ true) own
        (end_comes k l other.ended.index (Cast x) text here.member other.member here_lives other_lives at says)

    pub may_go_on : (k : ℕ) → is_listed k plan ≡ true → MayBeginNow g (succession the_rules g (steps ++ map Happens rounds)) k text plan
    may_go_on k listed =
        may_now k text plan (each k listed).0.waits listed (λ l there. ended_at k l listed there)
        (λ q there. no_later q (leb-true q.number plan.number (each_of (λ (p : Plan). nat_le p.number plan.number) (own_plans g.plan_in (stamped_lists g.setting before.group k)) q (each k listed).0.last there)))
      where
        no_later : (q : Plan) → q.number ≤ plan.number → (not (nat_lt plan.number q.number) || is_passed before.begun text plan q) ≡ true
        no_later q most = rw (le-ltb plan.number q.number most) refl

  -- somebody has begun
  pub may_come : (silent : ℕ) (b : Begin) (k : ℕ) → ComesLate g (succession the_rules g steps) silent b k → Lives k → Lives b.member → MayBeginNow g (succession the_rules g (steps ++ map Happens rounds)) k b.text b.plan
  may_come silent b k late lives beginner_lives =
      may_now k b.text b.plan late.waits late.listed ended passed
    where
      ended : (l : ℕ) → IsIn l b.plan.list → list_any (is_end_by b.text l) (stamped_lists g.setting behind k) ≡ true
      ended l there =
          let listed : is_listed l b.plan ≡ true = any_of (λ m. eqb m l) b.plan.list l there (eq-eqb l l refl) in
          let (a, e, at, sender, text) = had_end g (stamped_lists g.setting before.group) before.begun so.succeeding late.begun.0 b late.begun.1 l listed in
          let now : slice_get (stamped_lists g.setting before.group b.member) a ≡ Some e =
          stands_now g (stamped_lists g.setting before.group) before.begun so.succeeding late.begun.0 b late.begun.1 a e at in
          let inside : b.member < g.setting.group.size =
          member_has g.setting before.group so.consistent b.member (message_of e).name (record {
            index = a;
            event = without_time e;
            stands = get_map without_time (stamped_lists g.setting before.group b.member) a e now;
            named = name_stays e;
          }) in
          subst (λ (m : ℕ). list_any (is_end_by b.text m) (stamped_lists g.setting behind k) ≡ true) sender
          (end_comes k b.member a e b.text late.member inside lives beginner_lives now text)

      passed : (q : Plan) → IsIn q (own_plans g.plan_in (stamped_lists g.setting before.group k)) → (not (nat_lt b.plan.number q.number) || is_passed before.begun b.text b.plan q) ≡ true
      passed q there =
          by_case (not (nat_lt b.plan.number q.number)) (is_listed b.member q) heard
          (each_of (λ (p : Plan). not (nat_lt b.plan.number p.number) || is_listed b.member p) (own_plans g.plan_in (stamped_lists g.setting before.group k)) q late.later there)
        where
          heard : is_listed b.member q ≡ true → is_passed before.begun b.text b.plan q ≡ true
          heard listed =
              any_of (λ (c : Begin). bytes_eq b.text c.text && is_listed c.member b.plan && is_listed c.member q) before.begun b (in_by_index before.begun late.begun.0 b late.begun.1)
              (all_three (bytes_eq b.text b.text) (is_listed b.member b.plan) (is_listed b.member q) (text_same b.text b.text refl)
              (asks g (stamped_lists g.setting before.group) before.begun so.succeeding late.begun.0 b late.begun.1).listed listed)
            where
              all_three : (x y z : Bool) → x ≡ true → y ≡ true → z ≡ true → (x && y && z) ≡ true
              all_three x y z yes_x yes_y yes_z = rw (yes_x, yes_y, yes_z) refl

          by_case : (x y : Bool) → (y ≡ true → is_passed before.begun b.text b.plan q ≡ true) → (x || y) ≡ true → (x || is_passed before.begun b.text b.plan q) ≡ true
          by_case true y heard either = refl
          by_case false y heard either = heard either

-- ---- behind rounds without a silent member

module _ (g : EndableGroup) (endable : IsEndable g) (steps : List SuccessionStep) (silent : ℕ) (lt : silent < g.setting.group.size)
    (not_full : FindNoneFull g.setting (succession the_rules g steps).group (rounds_of g silent (succession the_rules g steps))) where
  none_casts : AllByRecursion IsNoCastStep (rounds_of g silent (succession the_rules g steps))
  none_casts = help_rounds_cast_nothing g.setting silent (rounds_without g.setting) (succession the_rules g steps).group

  -- what any of the others had, all others have
  others_have : (j k : ℕ) (m : Name) → j < g.setting.group.size → k < g.setting.group.size → j ≢ silent → k ≢ silent → HasDelivered g.setting (succession the_rules g steps).group k m
      → HasDelivered g.setting (run_from g.setting (succession the_rules g steps).group (rounds_of g silent (succession the_rules g steps))) j m
  others_have =
      let (all, is) = group_is_run g steps in
      subst (λ (s : GroupState). FindNoneFull g.setting s (help_rounds g.setting silent (rounds_without g.setting) s)
      → (j k : ℕ) (m : Name) → j < g.setting.group.size → k < g.setting.group.size → j ≢ silent → k ≢ silent
      → HasDelivered g.setting s k m → HasDelivered g.setting (run_from g.setting s (help_rounds g.setting silent (rounds_without g.setting) s)) j m)
      (sym is) (λ none. others_have_what_any_had g.setting silent all endable.is_setting lt none) not_full

  dead_is_not_needed : (text : List ℕ) (plan : Plan) (k : ℕ) → g.plan_in text ≡ Some plan → ((l : ℕ) → is_listed l plan ≡ true → GoesOnBy g (succession the_rules g steps) silent text plan l)
      → is_listed k plan ≡ true → MayBeginNow g (behind_rounds g silent steps) k text plan
  dead_is_not_needed text plan k read each listed =
      may_go_on g endable steps (rounds_of g silent (succession the_rules g steps)) none_casts (λ j. j ≢ silent) others_have text plan read
      (λ l there. let one = each l there in (record { member = one.member; ended = one.ended; last = one.last; waits = one.waits }, one.lives)) k listed

  late_may_come : (b : Begin) (k : ℕ) → ComesLate g (succession the_rules g steps) silent b k → MayBeginNow g (behind_rounds g silent steps) k b.text b.plan
  late_may_come b k late =
      may_come g endable steps (rounds_of g silent (succession the_rules g steps)) none_casts (λ j. j ≢ silent) others_have silent b k late late.lives late.beginner_lives

pub a_dead_member_is_not_needed : ADeadMemberIsNotNeeded
a_dead_member_is_not_needed g steps silent text plan k endable lt read each not_full listed = dead_is_not_needed g endable steps silent lt not_full text plan k read each listed

pub who_comes_late_may_begin : WhoComesLateMayBegin
who_comes_late_may_begin g steps silent b k endable lt late not_full = late_may_come g endable steps silent lt not_full b k late

-- ---- behind rounds among those whom the plan lists

pub silent_members_are_not_needed : SilentMembersAreNotNeeded
silent_members_are_not_needed g steps text plan k endable read each not_full listed =
    may_go_on g endable steps (rounds_of_listed g plan (succession the_rules g steps)) (rounds_cast_nothing g.setting plan.list (rounds_to_deliver g.setting) (succession the_rules g steps).group)
    (λ j. is_listed j plan ≡ true)
    (they_have_what_any_had g.setting endable.is_setting plan.list (succession the_rules g steps).group (successions_are_so g endable steps).consistent not_full)
    text plan read (λ l there. (each l there, there)) k listed
