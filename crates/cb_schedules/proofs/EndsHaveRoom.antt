-- The places that are kept leave room for an END.
use Rattle.std.specs.List.{filter_map, cons_option}
use Rattle.std.proofs.Common.{◌≡◌, ℕ, suc, ◌+◌, ◌<◌, ◌≤◌, ◌⊎◌, true, false, eqb, ltb, inl, inr, Option, List, [], ◌∷◌, ◌++◌, length, map, Some, None, refl, sym, ◌∙◌, ap, subst, arith, append-nil, append_assoc, length-append}
use Rattle.std.proofs.lemmas.Bool.{cases_Bool, cases_eq, cond_both, leb-true, le-ltb}
use Rattle.std.proofs.lemmas.List.Elements.{filter_map-append}
use Rattle.cb_frames.specs.declared.frame.TheConstants.{LAST_NUMBER}
use Rattle.cb_frames.specs.Fields.{Load, One, payloads_of, CastFields, Carried, messages_of, numbered}
use Rattle.cb_delay.specs.declared.message.Event.{Event}
use Rattle.cb_history.specs.EventLaws.{casts_among}
use Rattle.cb_history.specs.Events.{event_in}
use Rattle.cb_history.specs.Facts.{EntryFields, Fact, said_by, facts_of, casts_in, messages_in}
use Rattle.cb_history.specs.Group.{Identity}
use Rattle.cb_history.specs.Known.{stable}
use Rattle.cb_history.specs.Answers.{delivered, own_casts, is_too_many}
use Rattle.cb_history.specs.View.{count, view}
use Rattle.cb_history.proofs.Lists.{flat_map-append}
use Rattle.cb_history.proofs.Rising.{nothing_falls}
use Rattle.cb_schedules.specs.Schedule.{Setting, seat_at, Step, CastStep, ArriveStep, TickStep, HelpStep, GroupState, step_after}
use Rattle.cb_schedules.specs.Messages.{facts_at, stamped_lists}
use Rattle.cb_schedules.specs.Consistent.{IsConsistent}
use Rattle.cb_schedules.specs.RoundLaws.{IsNoCastStep}
use Rattle.cb_schedules.specs.StepLaws.{HistoriesGoOn, NoEntry, OneEntry}
use Rattle.cb_schedules.specs.Succession.{Plan, EndableGroup, IsEndable, own_plan, own_plans, may_talk, may_end, may_begin, the_rules, SuccessionStep, Happens, Ends, Begins, SuccessionState, and_happens, and_ends, and_begins, succession_step, succession_from, nobody_yet, succession}
use Rattle.cb_schedules.specs.SuccessionLaws.{EndsHaveRoom, EachSuccession}
use Rattle.cb_schedules.proofs.EndLists.{casts_of_both, plans_of_casts}
use Rattle.cb_schedules.proofs.Later.{MoreFacts, own_casts-append, step_is_later}
use Rattle.cb_schedules.proofs.StepByStep.{histories_go_on}
use Rattle.cb_schedules.proofs.SuccessionSteps.{SuccessionSo, OwnMore, cast_step_adds, messages_are, more_of, may_talk_asks, step_is_so, nobody_is_so}

-- ---- what is counted

-- a member's own messages are its casts
own_count : (seat : Identity) (casts : List CastFields) (ms : List Carried) → count ms seat.me ≡ length (casts_among (map (event_in seat casts) ms))
own_count seat casts [] = refl
own_count seat casts (m ∷ ms) =
    elim (cases_Bool (eqb m.sender seat.me)) [
      | inl own ↦ rw own (omega (arith, own_count seat casts ms))
      | inr other ↦ rw other (omega (arith, own_count seat casts ms))
    ]

own_is_casts : (setting : Setting) (s : GroupState) (i : ℕ) → delivered (seat_at setting i) (facts_at s i) i ≡ length (casts_among (stamped_lists setting s i))
own_is_casts setting s i = own_count (seat_at setting i) (casts_in (facts_at s i)) (view setting.group.size (facts_at s i))

-- more facts make nothing stable that was not
stable_with_more : (seat : Identity) (facts more : List Fact) → stable seat facts ≤ stable seat (facts ++ more)
stable_with_more seat facts [] = subst (λ (fs : List Fact). stable seat facts ≤ stable seat fs) (sym (append-nil facts)) (omega arith)
stable_with_more seat facts (f ∷ more) =
    let one : stable seat facts ≤ stable seat (facts ++ f ∷ []) = (nothing_falls seat facts f).2 in
    let rest : stable seat (facts ++ f ∷ []) ≤ stable seat ((facts ++ f ∷ []) ++ more) = stable_with_more seat (facts ++ f ∷ []) more in
    let all : stable seat (facts ++ f ∷ []) ≤ stable seat (facts ++ f ∷ more) =
    subst (λ (fs : List Fact). stable seat (facts ++ f ∷ []) ≤ stable seat fs) (append_assoc facts (f ∷ []) more) rest in
    omega arith

stable_stays : (setting : Setting) (s : GroupState) → IsConsistent setting s → (step : Step) (k : ℕ)
    → stable (seat_at setting k) (facts_at s k) ≤ stable (seat_at setting k) (facts_at (step_after setting s step) k)
stable_stays setting s inv step k = by_entry (histories_go_on setting s inv step)
  where
    by_entry : HistoriesGoOn setting.group.size s.histories (step_after setting s step).histories
        → stable (seat_at setting k) (facts_at s k) ≤ stable (seat_at setting k) (facts_at (step_after setting s step) k)
    by_entry (NoEntry agree) =
        subst (λ (entries : List EntryFields). stable (seat_at setting k) (facts_at s k) ≤ stable (seat_at setting k) (facts_of entries)) (agree k) (omega arith)
    by_entry (OneEntry i e inside app) =
        elim (cases_eq k i) [
          | inl same ↦
              let grown : (step_after setting s step).histories k ≡ s.histories k ++ e ∷ [] =
              subst (λ (j : ℕ). (step_after setting s step).histories j ≡ s.histories j ++ e ∷ []) (sym same) app.own in
              subst (λ (facts : List Fact). stable (seat_at setting k) (facts_at s k) ≤ stable (seat_at setting k) facts)
              (sym (ap facts_of grown ∙ flat_map-append said_by (s.histories k) (e ∷ []))) (stable_with_more (seat_at setting k) (facts_at s k) (facts_of (e ∷ [])))
          | inr other ↦
              subst (λ (entries : List EntryFields). stable (seat_at setting k) (facts_at s k) ≤ stable (seat_at setting k) (facts_of entries)) (sym (app.others k other)) (omega arith)
        ]

numbered_are : (sender n : ℕ) (payloads : List (List ℕ)) → length (numbered sender n payloads) ≡ length payloads
numbered_are sender n [] = refl
numbered_are sender n (p ∷ payloads) = ap suc (numbered_are sender (n + 1) payloads)

-- ---- room

module _ (g : EndableGroup) (endable : IsEndable g) where
  -- besides its ENDs a member has left the kept places of its window
  pub record LeavesRoom (s : GroupState) (k : ℕ) : Type 0 where
    pub most : length (casts_among (stamped_lists g.setting s k)) + g.kept
        ≤ stable (seat_at g.setting k) (facts_at s k) + g.setting.group.window + length (own_plans g.plan_in (stamped_lists g.setting s k))

  module _ (t : SuccessionState) (so : SuccessionSo g t) where
    -- more events of a member leave room where its casts do
    still_room : (step : Step) (k : ℕ) (more : List Event) → stamped_lists g.setting (step_after g.setting t.group step) k ≡ stamped_lists g.setting t.group k ++ more
        → length (casts_among (stamped_lists g.setting t.group k)) + length (casts_among more) + g.kept
        ≤ stable (seat_at g.setting k) (facts_at t.group k) + g.setting.group.window + (length (own_plans g.plan_in (stamped_lists g.setting t.group k)) + length (own_plans g.plan_in more))
        → LeavesRoom (step_after g.setting t.group step) k
    still_room step k more goes_on room =
        let casts : length (casts_among (stamped_lists g.setting (step_after g.setting t.group step) k)) ≡ length (casts_among (stamped_lists g.setting t.group k)) + length (casts_among more) =
        ap (λ (es : List Event). length (casts_among es)) goes_on ∙ ap length (casts_of_both (stamped_lists g.setting t.group k) more) ∙ length-append (casts_among (stamped_lists g.setting t.group k)) (casts_among more) in
        let plans : length (own_plans g.plan_in (stamped_lists g.setting (step_after g.setting t.group step) k)) ≡ length (own_plans g.plan_in (stamped_lists g.setting t.group k)) + length (own_plans g.plan_in more) =
        ap (λ (es : List Event). length (own_plans g.plan_in es)) goes_on ∙ ap length (filter_map-append (own_plan g.plan_in) (stamped_lists g.setting t.group k) more)
        ∙ length-append (own_plans g.plan_in (stamped_lists g.setting t.group k)) (own_plans g.plan_in more) in
        let rises : stable (seat_at g.setting k) (facts_at t.group k) ≤ stable (seat_at g.setting k) (facts_at (step_after g.setting t.group step) k) =
        stable_stays g.setting t.group so.consistent step k in
        record { most = omega arith }

    quiet_room : (step : Step) (k : ℕ) → own_casts (facts_at (step_after g.setting t.group step) k) ≡ own_casts (facts_at t.group k) ++ [] → LeavesRoom t.group k → LeavesRoom (step_after g.setting t.group step) k
    quiet_room step k own room =
        let (more, goes_on, none) = more_of g endable t so step k [] own in
        let most : length (casts_among (stamped_lists g.setting t.group k)) + g.kept
        ≤ stable (seat_at g.setting k) (facts_at t.group k) + g.setting.group.window + length (own_plans g.plan_in (stamped_lists g.setting t.group k)) = room.most in
        let nothing : length (casts_among more) ≡ 0 = ap length none in
        still_room step k more goes_on (omega arith)

    other_room : (step : Step) → IsNoCastStep step → (k : ℕ) → LeavesRoom t.group k → LeavesRoom (step_after g.setting t.group step) k
    other_room step none k room =
        let more : MoreFacts (facts_at t.group k) (facts_at (step_after g.setting t.group step) k) = (step_is_later g.setting t.group step none).facts k in
        quiet_room step k
        (ap own_casts more.is ∙ own_casts-append (facts_at t.group k) more.more ∙ ap (λ (cs : List CastFields). own_casts (facts_at t.group k) ++ cs) more.none_own) room

    -- a cast for which there is room
    cast_room : (i : ℕ) (load : Load) → ((more : List Event) (sender n : ℕ) → casts_among more ≡ numbered sender n (payloads_of load)
        → length (casts_among (stamped_lists g.setting t.group i)) + length (casts_among more) + g.kept
        ≤ stable (seat_at g.setting i) (facts_at t.group i) + g.setting.group.window + (length (own_plans g.plan_in (stamped_lists g.setting t.group i)) + length (own_plans g.plan_in more)))
        → (k : ℕ) → LeavesRoom t.group k → LeavesRoom (step_after g.setting t.group (CastStep i load)) k
    cast_room i load enough k room = by_own (cast_step_adds g.setting endable.is_setting t.group so.consistent i load k)
      where
        by_own : OwnMore g.setting t.group i load k (facts_at t.group k) (facts_at (step_after g.setting t.group (CastStep i load)) k) → LeavesRoom (step_after g.setting t.group (CastStep i load)) k
        by_own own = by_which own.extra own.is own.which
          where
            by_which : (extra : List CastFields) → own_casts (facts_at (step_after g.setting t.group (CastStep i load)) k) ≡ own_casts (facts_at t.group k) ++ extra
                → ((extra ≡ []) ⊎ ((k ≡ i) × (c : CastFields) × (extra ≡ c ∷ []) × (c.load ≡ load) × (is_too_many (seat_at g.setting i) (facts_at t.group i) (length (payloads_of load)) ≡ false)))
                → LeavesRoom (step_after g.setting t.group (CastStep i load)) k
            by_which extra is (inl none) =
                quiet_room (CastStep i load) k (subst (λ (cs : List CastFields). own_casts (facts_at (step_after g.setting t.group (CastStep i load)) k) ≡ own_casts (facts_at t.group k) ++ cs) none is) room
            by_which extra is (inr (same, c, one, of_load, free)) =
                let (more, goes_on, casts) = more_of g endable t so (CastStep i load) k extra is in
                let says : casts_among more ≡ numbered c.sender c.number (payloads_of load) =
                casts ∙ ap messages_in one ∙ append-nil (messages_of c) ∙ messages_are c ∙ ap (λ (l : Load). numbered c.sender c.number (payloads_of l)) of_load in
                still_room (CastStep i load) k more goes_on
                (subst (λ (j : ℕ). length (casts_among (stamped_lists g.setting t.group j)) + length (casts_among more) + g.kept
                ≤ stable (seat_at g.setting j) (facts_at t.group j) + g.setting.group.window + (length (own_plans g.plan_in (stamped_lists g.setting t.group j)) + length (own_plans g.plan_in more)))
                (sym same) (enough more c.sender c.number says))

    talk_room : (i : ℕ) (load : Load) → may_talk g t.group i load ≡ true → (k : ℕ) → LeavesRoom t.group k → LeavesRoom (step_after g.setting t.group (CastStep i load)) k
    talk_room i load may k room =
        cast_room i load (λ more sender n casts.
        let left : delivered (seat_at g.setting i) (facts_at t.group i) i + length (payloads_of load) + g.kept ≤ stable (seat_at g.setting i) (facts_at t.group i) + g.setting.group.window =
        leb-true (delivered (seat_at g.setting i) (facts_at t.group i) i + length (payloads_of load) + g.kept) (stable (seat_at g.setting i) (facts_at t.group i) + g.setting.group.window)
        (may_talk_asks g t.group i load may).room in
        let many : length (casts_among more) ≡ length (payloads_of load) = ap length casts ∙ numbered_are sender n (payloads_of load) in
        omega (arith, left, many, own_is_casts g.setting t.group i)) k room

    end_room : (i : ℕ) (text : List ℕ) (plan : Plan) → g.plan_in text ≡ Some plan → ((j : ℕ) → LeavesRoom t.group j) → (k : ℕ) → LeavesRoom (step_after g.setting t.group (CastStep i (One text))) k
    end_room i text plan read rooms k =
        cast_room i (One text) (λ more sender n casts.
        let most : length (casts_among (stamped_lists g.setting t.group i)) + g.kept
        ≤ stable (seat_at g.setting i) (facts_at t.group i) + g.setting.group.window + length (own_plans g.plan_in (stamped_lists g.setting t.group i)) = (rooms i).most in
        let one : length (casts_among more) ≡ 1 = ap length casts in
        let plans : length (own_plans g.plan_in more) ≡ 1 =
        ap length (plans_of_casts g.plan_in more ∙ ap (filter_map (λ (c : Carried). g.plan_in c.payload)) casts ∙ ap (λ (o : Option Plan). cons_option o []) read) in
        omega (arith, most, one, plans)) k (rooms k)

    step_room : (step : SuccessionStep) → ((j : ℕ) → LeavesRoom t.group j) → (k : ℕ) → LeavesRoom (succession_step the_rules g t step).group k
    unfolding succession_step
    step_room (Happens (CastStep i load)) rooms k =
        cond_both (may_talk g t.group i load) (and_happens g t (CastStep i load)) t (λ (after : SuccessionState). LeavesRoom after.group k) (λ may. talk_room i load may k (rooms k)) (λ _. rooms k)
    step_room (Happens (ArriveStep j number)) rooms k = other_room (ArriveStep j number) tt k (rooms k)
    step_room (Happens (TickStep i)) rooms k = other_room (TickStep i) tt k (rooms k)
    step_room (Happens (HelpStep j i)) rooms k = other_room (HelpStep j i) tt k (rooms k)
    step_room (Ends i text) rooms k = by_plan (g.plan_in text) refl
      where
        by_plan : (o : Option Plan) → g.plan_in text ≡ o → LeavesRoom (and_ends the_rules g t i text o).group k
        by_plan None read = rooms k
        by_plan (Some plan) read =
            cond_both (may_end g t.begun (stamped_lists g.setting t.group i) i plan) (and_happens g t (CastStep i (One text))) t (λ (after : SuccessionState). LeavesRoom after.group k)
            (λ _. end_room i text plan read rooms k) (λ _. rooms k)
    step_room (Begins i text) rooms k = by_plan (g.plan_in text)
      where
        by_plan : (o : Option Plan) → LeavesRoom (and_begins the_rules g t i text o).group k
        by_plan None = rooms k
        by_plan (Some plan) =
            cond_both (may_begin g t.begun (stamped_lists g.setting t.group i) i text plan) _ t (λ (after : SuccessionState). LeavesRoom after.group k) (λ _. rooms k) (λ _. rooms k)

  rooms_from : (t : SuccessionState) → SuccessionSo g t → ((j : ℕ) → LeavesRoom t.group j) → (steps : List SuccessionStep) → (k : ℕ) → LeavesRoom (succession_from the_rules g t steps).group k
  unfolding succession_from
  rooms_from t so rooms [] k = rooms k
  rooms_from t so rooms (step ∷ steps) k =
      rooms_from (succession_step the_rules g t step) (step_is_so g endable t so step) (λ j. step_room t so step rooms j) steps k

  at_first : (k : ℕ) → LeavesRoom nobody_yet.group k
  unfolding view
  at_first k = record { most = let less : g.kept < g.setting.group.window = endable.less in omega (arith, less) }

  pub rooms_are_left : (steps : List SuccessionStep) (k : ℕ) → LeavesRoom (succession the_rules g steps).group k
  rooms_are_left steps k = rooms_from nobody_yet (nobody_is_so g endable) at_first steps k

pub ends_have_room : EachSuccession EndsHaveRoom
ends_have_room g steps endable i lt few numbers =
    let s : GroupState = (succession the_rules g steps).group in
    let most : length (casts_among (stamped_lists g.setting s i)) + g.kept
    ≤ stable (seat_at g.setting i) (facts_at s i) + g.setting.group.window + length (own_plans g.plan_in (stamped_lists g.setting s i)) = (rooms_are_left g endable steps i).most in
    let own : delivered (seat_at g.setting i) (facts_at s i) i ≡ length (casts_among (stamped_lists g.setting s i)) = own_is_casts g.setting s i in
    let free : ltb (stable (seat_at g.setting i) (facts_at s i) + g.setting.group.window) (delivered (seat_at g.setting i) (facts_at s i) i + 1) ≡ false =
    le-ltb (stable (seat_at g.setting i) (facts_at s i) + g.setting.group.window) (delivered (seat_at g.setting i) (facts_at s i) i + 1) (omega (arith, most, own, few)) in
    let left : ltb LAST_NUMBER (delivered (seat_at g.setting i) (facts_at s i) i + 1) ≡ false =
    le-ltb LAST_NUMBER (delivered (seat_at g.setting i) (facts_at s i) i + 1) (omega (arith, numbers)) in
    rw (free, left) refl
