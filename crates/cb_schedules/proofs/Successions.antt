-- The laws of successions, from what holds after every list of steps.
use Rattle.std.specs.Prelude.{slice_get, bytes_eq, nat_le}
use Rattle.std.specs.List.{filter, list_any, flat_map}
use Rattle.std.proofs.Common.{◌≡◌, ◌≤◌, ℕ, ◌⊎◌, ◌&&◌, true, false, eqb, inl, inr, Option, List, [], ◌∷◌, ◌++◌, Some, None, refl, sym, ◌∙◌, ap, subst, append-nil, append_assoc}
use Rattle.std.proofs.lemmas.Bool.{cases_Bool, cond_both, and_parts, eqb-true, le-leb, leb-true}
use Rattle.std.proofs.lemmas.List.Elements.{filter-append}
use Rattle.cb_times.specs.declared.name.Name.{Name}
use Rattle.cb_frames.specs.Fields.{One}
use Rattle.cb_delay.specs.declared.message.Event.{Event}
use Rattle.cb_delay.specs.declared.message.Event.TheVariants.{Cast}
use Rattle.cb_causality.specs.declared.event.CausalEvent.{CausalEvent}
use Rattle.cb_causality.specs.Events.{name_of, Has}
use Rattle.cb_causality.specs.Parts.{part}
use Rattle.cb_causality.specs.StampedMachine.{without_times}
use Rattle.cb_causality.proofs.Extending.{stamped_extends_runs}
use Rattle.cb_causality.proofs.Names.{IsSound, number_of_had}
use Rattle.cb_causality.proofs.Parts.{part_has, had_whole}
use Rattle.cb_causality.proofs.Runs.{run_regular}
use Rattle.cb_causality.proofs.Stamps.{stamped_is_causal}
use Rattle.cb_history.proofs.Views.{filter_in}
use Rattle.cb_history.proofs.Lists.{flat_map-append, one_of}
use Rattle.cb_schedules.specs.Schedule.{Step, CastStep, ArriveStep, TickStep, HelpStep, step_after}
use Rattle.cb_schedules.specs.Messages.{stamped_lists, causal_lists}
use Rattle.cb_schedules.specs.Succession.{Plan, EndableGroup, IsEndable, is_own_end, upto_end, cut_field, Begin, may_talk, may_end, may_begin, shown_at_begin, the_rules, SuccessionStep, Happens, Ends, Begins, SuccessionState, and_happens, and_ends, and_begins, succession_step, succession_from, nobody_yet, succession, shown}
use Rattle.cb_schedules.specs.SuccessionLaws.{EachSuccession, IsInTheCut, ExactlyTheCutIsShown, TheSameIsShown, WhatWasShownIsInTheCut, CastsAreInTheCut, TheCutIsOneVector, cut_told, lists_at_the_cut, TheCutIsCausal, ShownListsGoOn, NobodyBeginsByALaterPlan, OneNumberHasOneText, TheLastListGoesOneWay, TheCutIsDelivered, WhoIsListedHasEnded, TheCutCanBeFollowed}
use Rattle.cb_schedules.proofs.Courses.{step_goes_on}
use Rattle.cb_schedules.proofs.EndLists.{upto_stays, upto_all, is_end, filter_none, none_passes, same_text}
use Rattle.cb_schedules.proofs.Lists.{index_of, in_by_index}
use Rattle.cb_schedules.proofs.SuccessionLaws.{IsSucceeding, shown_is_the_cut, shown_before_is_in_cut, casts_are_in_cut, vector_now, cut_is_a_run, shown_at_its_begin, nobody_by_a_later_plan, one_number_one_text, one_way, cut_is_had, listed_has_ended}
use Rattle.cb_schedules.proofs.SuccessionSteps.{SuccessionSo, successions_are_so, began_has_ended}

-- what follows from it is so after every list of steps
pub each_succession : (P : EndableGroup → SuccessionState → Type 0)
    → ((g : EndableGroup) (t : SuccessionState) → IsSucceeding g (stamped_lists g.setting t.group) t.begun → P g t) → EachSuccession P
each_succession P holds g steps endable = holds g (succession the_rules g steps) (successions_are_so g endable steps).succeeding

module _ (g : EndableGroup) (t : SuccessionState) (so : IsSucceeding g (stamped_lists g.setting t.group) t.begun) where
  -- ---- the cut

  pub exactly_the_cut_is_shown : ExactlyTheCutIsShown g t
  exactly_the_cut_is_shown b m (n, at) =
      let is : shown g t b.member ≡ upto_end g.plan_in (stamped_lists g.setting t.group b.member) ++ b.shown =
      ap (λ (es : List Event). upto_end g.plan_in (stamped_lists g.setting t.group b.member) ++ es) (shown_at_its_begin g (stamped_lists g.setting t.group) t.begun so n b at) in
      let both = shown_is_the_cut g (stamped_lists g.setting t.group) t.begun so n b at m in (
        λ h. both.0 (subst (λ (es : List Event). Has (without_times es) m) is h),
        λ in_cut. subst (λ (es : List Event). Has (without_times es) m) (sym is) (both.1 in_cut),
      )

  pub the_same_is_shown : TheSameIsShown g t
  the_same_is_shown b c m (n, at_b) (l, at_c) text h =
      let plans : Some b.plan ≡ Some c.plan =
      sym (so.begins n b at_b).read ∙ ap g.plan_in text ∙ (so.begins l c at_c).read in
      let plan : b.plan ≡ c.plan = cc plans in
      (exactly_the_cut_is_shown c m (l, at_c)).1
      (subst (λ (p : Plan). IsInTheCut (causal_lists g.setting t.group) c.text p m) plan
      (subst (λ (x : List ℕ). IsInTheCut (causal_lists g.setting t.group) x b.plan m) text ((exactly_the_cut_is_shown b m (n, at_b)).0 h)))

  pub what_was_shown_is_in_the_cut : WhatWasShownIsInTheCut g t
  what_was_shown_is_in_the_cut i text plan m ends h =
      shown_before_is_in_cut g (stamped_lists g.setting t.group) t.begun so i text plan ends.read ends.listed ends.end m h

  pub casts_are_in_the_cut : CastsAreInTheCut g t
  casts_are_in_the_cut i text plan index m payload ends at =
      casts_are_in_cut g (stamped_lists g.setting t.group) t.begun so i text plan ends.read ends.listed ends.end index m payload at

  pub the_cut_is_one_vector : TheCutIsOneVector g t
  the_cut_is_one_vector b m (n, at) one = vector_now g (stamped_lists g.setting t.group) t.begun so n b at m one

  -- two who began by one text have one cut
  to_b : (b : Begin) (n : ℕ) → slice_get t.begun n ≡ Some b → (l : ℕ) (c : Begin) → slice_get t.begun l ≡ Some c → b.text ≡ c.text → (m : Name)
      → IsInTheCut (causal_lists g.setting t.group) c.text c.plan m → IsInTheCut (causal_lists g.setting t.group) b.text b.plan m
  to_b b n at_b l c at_c text m in_cut =
      let plans : Some c.plan ≡ Some b.plan = sym (so.begins l c at_c).read ∙ ap g.plan_in (sym text) ∙ (so.begins n b at_b).read in
      let plan : c.plan ≡ b.plan = cc plans in
      subst (λ (p : Plan). IsInTheCut (causal_lists g.setting t.group) b.text p m) plan
      (subst (λ (x : List ℕ). IsInTheCut (causal_lists g.setting t.group) x c.plan m) (sym text) in_cut)

  -- each list at the cut is what its member was shown, or the part of its list that is in the cut
  at_the_cut : (b : Begin) (n : ℕ) → slice_get t.begun n ≡ Some b → (k : ℕ) → (lists_at_the_cut g t b k ≡ part (λ m. nat_le m.number (cut_field b.text b.plan (stamped_lists g.setting t.group b.member) m.sender)) (causal_lists g.setting t.group) k)
      ⊎ ((m : ℕ) × (c : Begin) × (slice_get t.begun m ≡ Some c) × (c.member ≡ k) × (b.text ≡ c.text)
      × (lists_at_the_cut g t b k ≡ without_times (upto_end g.plan_in (stamped_lists g.setting t.group k) ++ c.shown)))
  at_the_cut b n at k =
      elim (cases_Bool (list_any (λ c. eqb c.member k && bytes_eq b.text c.text) t.begun)) [
        | inl holds ↦
            let (c, there, passes) = one_of (λ (c : Begin). eqb c.member k && bytes_eq b.text c.text) t.begun holds in
            let (m, at_c) = index_of t.begun c there in
            let both = and_parts (eqb c.member k) (bytes_eq b.text c.text) passes in
            let member : c.member ≡ k = eqb-true c.member k both.0 in
            let its : flat_map (λ (d : Begin). d.shown) (filter (λ (d : Begin). eqb d.member k) t.begun) ≡ c.shown =
            subst (λ (j : ℕ). flat_map (λ (d : Begin). d.shown) (filter (λ (d : Begin). eqb d.member j) t.begun) ≡ c.shown) member
            (shown_at_its_begin g (stamped_lists g.setting t.group) t.begun so m c at_c) in
            inr (
              m,
              c,
              at_c,
              member,
              same_text b.text c.text both.1,
              rw holds (ap (λ (es : List Event). without_times (upto_end g.plan_in (stamped_lists g.setting t.group k) ++ es)) its),
            )
        | inr fails ↦ inl (rw fails refl)
      ]

  pub the_cut_is_causal : TheCutIsCausal g t
  the_cut_is_causal b (n, at) =
      cut_is_a_run g (stamped_lists g.setting t.group) t.begun so n b at (lists_at_the_cut g t b) (λ k. at_the_cut b n at k)

  -- what stands in a list at the cut is in the cut
  stands_in_the_cut : (b : Begin) (n : ℕ) → slice_get t.begun n ≡ Some b → (j : ℕ) (m : Name) → Has (lists_at_the_cut g t b j) m
      → IsInTheCut (causal_lists g.setting t.group) b.text b.plan m
  stands_in_the_cut b n at j m h =
      elim (at_the_cut b n at j) [
        | inl left ↦
            let in_part : Has (part (λ x. nat_le x.number (cut_told g t b x.sender)) (causal_lists g.setting t.group) j) m = subst (λ (es : List CausalEvent). Has es m) left h in
            let whole : Has (causal_lists g.setting t.group j) m = had_whole (λ x. nat_le x.number (cut_told g t b x.sender)) (causal_lists g.setting t.group) j m in_part in
            let (holds, there) = filter_in (λ e. nat_le (name_of e).number (cut_told g t b (name_of e).sender)) (causal_lists g.setting t.group j) in_part.event
            (in_by_index (part (λ x. nat_le x.number (cut_told g t b x.sender)) (causal_lists g.setting t.group) j) in_part.index in_part.event in_part.stands) in
            let kept : nat_le m.number (cut_told g t b m.sender) ≡ true = subst (λ (x : Name). nat_le x.number (cut_told g t b x.sender) ≡ true) in_part.named holds in
            let one : 1 ≤ m.number = (number_of_had (causal_lists g.setting t.group) sound j m whole).0 in
            (vector_now g (stamped_lists g.setting t.group) t.begun so n b at m one).1 (leb-true m.number (cut_told g t b m.sender) kept)
        | inr (l, c, at_c, member, text, is_shown) ↦
            to_b b n at l c at_c text m
            ((shown_is_the_cut g (stamped_lists g.setting t.group) t.begun so l c at_c m).0
            (subst (λ (k : ℕ). Has (without_times (upto_end g.plan_in (stamped_lists g.setting t.group k) ++ c.shown)) m) (sym member)
            (subst (λ (es : List CausalEvent). Has es m) is_shown h)))
      ]
    where
      sound : IsSound (causal_lists g.setting t.group)
      sound = (run_regular g.setting.group.size (causal_lists g.setting t.group) (stamped_is_causal g.setting.group.size (stamped_lists g.setting t.group) so.run)).sound

  pub the_cut_can_be_followed : TheCutCanBeFollowed g t
  the_cut_can_be_followed b c j m (n, at_b) (l, at_c) text h =
      let in_cut : IsInTheCut (causal_lists g.setting t.group) b.text b.plan m = stands_in_the_cut b n at_b j m h in
      let in_cut_c : IsInTheCut (causal_lists g.setting t.group) c.text c.plan m = to_b c l at_c n b at_b (sym text) m in_cut in
      elim (at_the_cut b n at_b c.member) [
        | inl left ↦
            let whole : Has (causal_lists g.setting t.group c.member) m = cut_is_had g (stamped_lists g.setting t.group) t.begun so l c at_c m in_cut_c in
            let one : 1 ≤ m.number = (number_of_had (causal_lists g.setting t.group) sound c.member m whole).0 in
            let kept : nat_le m.number (cut_told g t b m.sender) ≡ true =
            le-leb m.number (cut_told g t b m.sender) ((vector_now g (stamped_lists g.setting t.group) t.begun so n b at_b m one).0 in_cut) in
            subst (λ (es : List CausalEvent). Has es m) (sym left) (part_has (λ x. nat_le x.number (cut_told g t b x.sender)) (causal_lists g.setting t.group) c.member m kept whole)
        | inr (i, d, at_d, member, text_d, is_shown) ↦
            subst (λ (es : List CausalEvent). Has es m) (sym is_shown)
            (subst (λ (k : ℕ). Has (without_times (upto_end g.plan_in (stamped_lists g.setting t.group k) ++ d.shown)) m) member
            ((shown_is_the_cut g (stamped_lists g.setting t.group) t.begun so i d at_d m).1 (to_b d i at_d n b at_b (sym text_d) m in_cut)))
      ]
    where
      sound : IsSound (causal_lists g.setting t.group)
      sound = (run_regular g.setting.group.size (causal_lists g.setting t.group) (stamped_is_causal g.setting.group.size (stamped_lists g.setting t.group) so.run)).sound

  pub the_cut_is_delivered : TheCutIsDelivered g t
  the_cut_is_delivered b m (n, at) in_cut = cut_is_had g (stamped_lists g.setting t.group) t.begun so n b at m in_cut

  pub who_is_listed_has_ended : WhoIsListedHasEnded g t
  who_is_listed_has_ended b k (n, at) listed = listed_has_ended g (stamped_lists g.setting t.group) t.begun so n b at k listed

  -- ---- nobody beside them

  pub nobody_begins_by_a_later_plan : NobodyBeginsByALaterPlan g t
  nobody_begins_by_a_later_plan b c (n, at_b) (m, at_c) later listed =
      nobody_by_a_later_plan g (stamped_lists g.setting t.group) t.begun so n m b c at_b at_c later listed

  pub one_number_has_one_text : OneNumberHasOneText g t
  one_number_has_one_text b c (n, at_b) (m, at_c) same listed =
      one_number_one_text g (stamped_lists g.setting t.group) t.begun so n m b c at_b at_c same listed

  pub the_last_list_goes_one_way : TheLastListGoesOneWay g t
  the_last_list_goes_one_way last b c all (n, at_b) (m, at_c) b_last c_last =
      one_way g (stamped_lists g.setting t.group) t.begun so n m b c at_b at_c (all c b.member (m, at_c) b_last) (all b c.member (n, at_b) c_last)

-- ---- nothing that was shown is taken back

no_further : (g : EndableGroup) (t : SuccessionState) (i : ℕ) → (more : List Event) × (shown g t i ≡ shown g t i ++ more)
no_further g t i = ([], sym (append-nil (shown g t i)))

module _ (g : EndableGroup) (endable : IsEndable g) (t : SuccessionState) (so : SuccessionSo g t) (i : ℕ) where
  abbrev its_begins : List Event
  its_begins = flat_map (λ (b : Begin). b.shown) (filter (λ (b : Begin). eqb b.member i) t.begun)

  -- who has cast no END has not begun
  no_end_no_begin : ((a : ℕ) (e : Event) → slice_get (stamped_lists g.setting t.group i) a ≡ Some e → is_own_end g.plan_in e ≡ false)
      → flat_map (λ (b : Begin). b.shown) (filter (λ (b : Begin). eqb b.member i) t.begun) ≡ []
  no_end_no_begin none =
      ap (flat_map (λ (b : Begin). b.shown)) (filter_none (λ (b : Begin). eqb b.member i) t.begun (λ n b at. by_test n b at (cases_Bool (eqb b.member i))))
    where
      by_test : (n : ℕ) (b : Begin) → slice_get t.begun n ≡ Some b → (eqb b.member i ≡ true) ⊎ (eqb b.member i ≡ false) → eqb b.member i ≡ false
      by_test n b at (inr fails) = fails
      by_test n b at (inl holds) =
          let same : b.member ≡ i = eqb-true b.member i holds in
          let (a, x, stands, read) = began_has_ended g endable t so n b at in
          let here : slice_get (stamped_lists g.setting t.group i) a ≡ Some (Cast x) = subst (λ (j : ℕ). slice_get (stamped_lists g.setting t.group j) a ≡ Some (Cast x)) same stands in
          let is : is_own_end g.plan_in (Cast x) ≡ true = is_end g.plan_in x b.plan read in
          let not_so : is_own_end g.plan_in (Cast x) ≡ false = none a (Cast x) here in
          absurd (cc)

  group_goes_on : (step : Step) → (more : List Event) × (shown g (and_happens g t step) i ≡ shown g t i ++ more)
  group_goes_on step =
      let (more, is) = (stamped_extends_runs g.setting.group.size).beginning (stamped_lists g.setting t.group) (stamped_lists g.setting (step_after g.setting t.group step))
      (step_goes_on g.setting endable.is_setting t.group so.consistent step).1 i in
      elim (cases_Bool (list_any (is_own_end g.plan_in) (stamped_lists g.setting t.group i))) [
        | inl some ↦
            let (e, there, holds) = one_of (is_own_end g.plan_in) (stamped_lists g.setting t.group i) some in
            let (a, at) = index_of (stamped_lists g.setting t.group i) e there in (
              [],
              ap (λ (es : List Event). es ++ its_begins) (ap (upto_end g.plan_in) is ∙ upto_stays g.plan_in (stamped_lists g.setting t.group i) more a e at holds)
                  ∙ sym (append-nil (shown g t i)),
            )
        | inr none ↦
            let no_end : (a : ℕ) (e : Event) → slice_get (stamped_lists g.setting t.group i) a ≡ Some e → is_own_end g.plan_in e ≡ false =
            λ a e at. none_passes (is_own_end g.plan_in) (stamped_lists g.setting t.group i) none a e at in
            let nothing = no_end_no_begin no_end in
            let before : shown g t i ≡ stamped_lists g.setting t.group i =
            ap (λ (es : List Event). upto_end g.plan_in (stamped_lists g.setting t.group i) ++ es) nothing ∙ append-nil (upto_end g.plan_in (stamped_lists g.setting t.group i))
            ∙ ap (upto_end g.plan_in) (sym (append-nil (stamped_lists g.setting t.group i))) ∙ upto_all g.plan_in (stamped_lists g.setting t.group i) [] no_end ∙ append-nil (stamped_lists g.setting t.group i) in (
              upto_end g.plan_in more,
              ap (λ (es : List Event). upto_end g.plan_in (stamped_lists g.setting (step_after g.setting t.group step) i) ++ es) nothing
                  ∙ append-nil (upto_end g.plan_in (stamped_lists g.setting (step_after g.setting t.group step) i))
                  ∙ ap (upto_end g.plan_in) is ∙ upto_all g.plan_in (stamped_lists g.setting t.group i) more no_end
                  ∙ ap (λ (es : List Event). es ++ upto_end g.plan_in more) (sym before),
            )
      ]

  begin_goes_on : (b : Begin) → (more : List Event) × (shown g (record { group = t.group; begun = t.begun ++ b ∷ [] }) i ≡ shown g t i ++ more)
  begin_goes_on b = (
    flat_map (λ (c : Begin). c.shown) (filter (λ (c : Begin). eqb c.member i) (b ∷ [])),
    ap (λ (bs : List Begin). upto_end g.plan_in (stamped_lists g.setting t.group i) ++ flat_map (λ (c : Begin). c.shown) bs) (filter-append (λ (c : Begin). eqb c.member i) t.begun (b ∷ []))
        ∙ ap (λ (es : List Event). upto_end g.plan_in (stamped_lists g.setting t.group i) ++ es)
        (flat_map-append (λ (c : Begin). c.shown) (filter (λ (c : Begin). eqb c.member i) t.begun) (filter (λ (c : Begin). eqb c.member i) (b ∷ [])))
        ∙ sym (append_assoc (upto_end g.plan_in (stamped_lists g.setting t.group i)) its_begins (flat_map (λ (c : Begin). c.shown) (filter (λ (c : Begin). eqb c.member i) (b ∷ [])))),
  )

  step_shows_more : (step : SuccessionStep) → (more : List Event) × (shown g (succession_step the_rules g t step) i ≡ shown g t i ++ more)
  unfolding succession_step
  step_shows_more (Happens (CastStep j load)) =
      cond_both (may_talk g t.group j load) (and_happens g t (CastStep j load)) t (λ (after : SuccessionState). (more : List Event) × (shown g after i ≡ shown g t i ++ more))
      (λ _. group_goes_on (CastStep j load)) (λ _. no_further g t i)
  step_shows_more (Happens (ArriveStep j number)) = group_goes_on (ArriveStep j number)
  step_shows_more (Happens (TickStep j)) = group_goes_on (TickStep j)
  step_shows_more (Happens (HelpStep j k)) = group_goes_on (HelpStep j k)
  step_shows_more (Ends j text) = by_plan (g.plan_in text)
    where
      by_plan : (o : Option Plan) → (more : List Event) × (shown g (and_ends the_rules g t j text o) i ≡ shown g t i ++ more)
      by_plan None = no_further g t i
      by_plan (Some plan) =
          cond_both (may_end g t.begun (stamped_lists g.setting t.group j) j plan) (and_happens g t (CastStep j (One text))) t (λ (after : SuccessionState). (more : List Event) × (shown g after i ≡ shown g t i ++ more))
          (λ _. group_goes_on (CastStep j (One text))) (λ _. no_further g t i)
  step_shows_more (Begins j text) = by_plan (g.plan_in text)
    where
      by_plan : (o : Option Plan) → (more : List Event) × (shown g (and_begins the_rules g t j text o) i ≡ shown g t i ++ more)
      by_plan None = no_further g t i
      by_plan (Some plan) =
          cond_both (may_begin g t.begun (stamped_lists g.setting t.group j) j text plan) _ t (λ (after : SuccessionState). (more : List Event) × (shown g after i ≡ shown g t i ++ more))
          (λ _. begin_goes_on (record { member = j; text = text; plan = plan; shown = shown_at_begin g (stamped_lists g.setting t.group j) text plan })) (λ _. no_further g t i)

-- a list of steps and one more
pub succession_joins : (g : EndableGroup) (t : SuccessionState) (steps more : List SuccessionStep)
    → succession_from the_rules g t (steps ++ more) ≡ succession_from the_rules g (succession_from the_rules g t steps) more
unfolding succession_from
succession_joins g t [] more = refl
succession_joins g t (step ∷ steps) more = succession_joins g (succession_step the_rules g t step) steps more

one_step : (g : EndableGroup) (t : SuccessionState) (step : SuccessionStep) → succession_from the_rules g t (step ∷ []) ≡ succession_step the_rules g t step
unfolding succession_from
one_step g t step = refl

pub shown_lists_go_on : ShownListsGoOn
shown_lists_go_on g steps step i endable =
    let (more, is) = step_shows_more g endable (succession the_rules g steps) (successions_are_so g endable steps) i step in
    (more, ap (λ (t : SuccessionState). shown g t i) (succession_joins g nobody_yet steps (step ∷ []) ∙ one_step g (succession the_rules g steps) step) ∙ is)
