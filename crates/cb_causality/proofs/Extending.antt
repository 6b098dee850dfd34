-- What several steps at once are.
use Rattle.std.proofs.Common.{◌≡◌, ℕ, inl, inr, List, [], ◌∷◌, ◌++◌, map, refl, sym, ◌∙◌, ap, subst, append-nil, append_assoc}
use Rattle.std.proofs.lemmas.Bool.{cases_eq}
use Rattle.cb_times.specs.declared.name.Name.{Name}
use Rattle.cb_delay.specs.declared.message.Message.{Message}
use Rattle.cb_delay.specs.declared.message.Event.{Event}
use Rattle.cb_delay.specs.declared.message.Event.TheVariants as stamped
use Rattle.cb_causality.specs.CausalMachine.{Step, Casts, Delivers, Run, Then}
use Rattle.cb_causality.specs.StampedMachine.{StampedLists, StampedStep, StampedRun, CastsStamped, IsTimeOfList, erased, without_times, next_message}
use Rattle.cb_causality.specs.declared.event.CausalEvent.{CausalEvent}
use Rattle.cb_causality.specs.declared.event.CausalEvent.TheVariants.{Cast, Deliver}
use Rattle.cb_causality.specs.Events.{next_name}
use Rattle.cb_causality.specs.HappenedBefore.{Lists}
use Rattle.cb_causality.specs.Extension.{Extends, Still, Further, ExtendsRuns, ErasesToExtension, DelayRuleAllowsInTurn, DeliveriesInTurnExtend, IsNextStamped, AreStampedInTurn, CastsInTurnExtend}
use Rattle.cb_causality.specs.Lists.{Agree, Appends, AppendsAll}
use Rattle.cb_causality.proofs.Agreement.{depends_on_lists_alone}
use Rattle.cb_causality.proofs.Stamps.{IsStamped, erased_appends, allowed_may_deliver, run_stamped}
use Rattle.cb_causality.proofs.WayBack.{grown, grown_appends}

-- a list that got an event goes on, and so do those that stayed
goes_on : {X : Type 0} (before after : ℕ → List X) (i : ℕ) (x : X) → Appends before after i x → (k : ℕ) → (more : List X) × (after k ≡ before k ++ more)
goes_on before after i x app k =
    elim (cases_eq k i) [
      | inl same ↦ (x ∷ [], subst (λ (m : ℕ). after m ≡ before m ++ x ∷ []) (sym same) app.own)
      | inr other ↦ ([], app.others k other ∙ sym (append-nil (before k)))
    ]

-- a machine of which runs go on by steps, and each step appends
module _ {X : Type 0} (IsRun : (ℕ → List X) → Type 0) (IsStep : (ℕ → List X) → (ℕ → List X) → Type 0)
    (longer : (before after : ℕ → List X) → IsRun before → IsStep before after → IsRun after)
    (on : (before after : ℕ → List X) → IsStep before after → (k : ℕ) → (more : List X) × (after k ≡ before k ++ more)) where
  -- a run goes on to a run
  run_on : (before after : ℕ → List X) → IsRun before → Extends IsStep before after → IsRun after
  run_on before after run (Still _ agree) = depends_on_lists_alone IsRun before after agree run
  run_on before after run (Further middle _ some last) = longer middle after (run_on before middle run some) last

  -- extensions join
  joined : (before middle after : ℕ → List X) → Extends IsStep before middle → Extends IsStep middle after → Extends IsStep before after
  joined before middle after first (Still _ agree) = depends_on_lists_alone (Extends IsStep before) middle after agree first
  joined before middle after first (Further further _ some last) = Further further after (joined before middle further first some) last

  -- and each list goes on
  all_go_on : (before after : ℕ → List X) → Extends IsStep before after → (k : ℕ) → (more : List X) × (after k ≡ before k ++ more)
  all_go_on before after (Still _ agree) k = ([], sym (agree k) ∙ sym (append-nil (before k)))
  all_go_on before after (Further middle _ some last) k =
      let (more, to_middle) = all_go_on before middle some k in
      let (new, to_after) = on middle after last k in
      (more ++ new, to_after ∙ ap (λ (l : List X). l ++ new) to_middle ∙ append_assoc (before k) more new)

  pub extends_runs : ExtendsRuns IsRun IsStep
  extends_runs = record {
    run = run_on;
    reflexive = λ before after agree. Still after agree;
    one = λ before after step. Further before after (Still before (λ k. refl)) step;
    transitive = joined;
    beginning = all_go_on;
  }

-- each list goes on by a step of the causal machine
causal_on : (size : ℕ) (before after : Lists) → Step size before after → (k : ℕ) → (more : List CausalEvent) × (after k ≡ before k ++ more)
causal_on size before after (Casts i payload inside app) = goes_on before after i (Cast (next_name i (before i)) payload) app
causal_on size before after (Delivers j m payload inside may app) = goes_on before after j (Deliver m payload) app

-- and by one of the stamped machine
stamped_on : (size : ℕ) (before after : StampedLists) → StampedStep size before after → (k : ℕ) → (more : List Event) × (after k ≡ before k ++ more)
stamped_on size before after (StampedStep.Casts i payload inside casts) =
    goes_on before after i (stamped.Cast (next_message i (before i) casts.time payload)) casts.appends
stamped_on size before after (StampedStep.Delivers j message inside may app) = goes_on before after j (stamped.Deliver message) app

-- so both machines extend their runs
pub causal_extends_runs : (size : ℕ) → ExtendsRuns (Run size) (Step size)
causal_extends_runs size = extends_runs (Run size) (Step size) (λ before after run step. Then before after run step) (causal_on size)

pub stamped_extends_runs : (size : ℕ) → ExtendsRuns (StampedRun size) (StampedStep size)
stamped_extends_runs size =
    extends_runs (StampedRun size) (StampedStep size) (λ before after run step. StampedRun.Then before after run step) (stamped_on size)

-- a step from a stamped run, without the times, is a step of the causal machine
step_erases : (size : ℕ) (before after : StampedLists) → IsStamped size before → StampedStep size before after → Step size (erased before) (erased after)
step_erases size before after is (StampedStep.Casts i payload inside casts) =
    Casts i payload inside (erased_appends before after i (stamped.Cast (next_message i (before i) casts.time payload)) casts.appends)
step_erases size before after is (StampedStep.Delivers j message inside may app) =
    Delivers j message.name message.payload inside (allowed_may_deliver size before is j message may)
    (erased_appends before after j (stamped.Deliver message) app)

-- so is an extension, step by step
pub extension_erases : (size : ℕ) → ErasesToExtension size
extension_erases size before after run (Still _ agree) = Still (erased after) (λ k. ap without_times (agree k))
extension_erases size before after run (Further middle _ some last) =
    let run_middle : StampedRun size middle = (stamped_extends_runs size).run before middle run some in
    Further (erased middle) (erased after) (extension_erases size before middle run some)
    (step_erases size middle after (run_stamped size middle run_middle) last)

module _ {X : Type 0} (before middle after : ℕ → List X) (i : ℕ) (x : X) (xs : List X) (first : Appends before middle i x) where
  -- what is appended behind the first event is appended with it
  first_appended : AppendsAll middle after i xs → AppendsAll before after i (x ∷ xs)
  first_appended all = record {
    own = all.own ∙ ap (λ (l : List X). l ++ xs) first.own ∙ append_assoc (before i) (x ∷ []) xs;
    others = λ k other. all.others k other ∙ first.others k other;
  }

  -- and where all are appended, those behind the first one are
  rest_appended : AppendsAll before after i (x ∷ xs) → AppendsAll middle after i xs
  rest_appended all = record {
    own = all.own ∙ sym (append_assoc (before i) (x ∷ []) xs) ∙ ap (λ (l : List X). l ++ xs) (sym first.own);
    others = λ k other. all.others k other ∙ sym (first.others k other);
  }

-- nothing was appended
none_appended : {X : Type 0} (before after : ℕ → List X) (i : ℕ) → AppendsAll before after i [] → Agree before after
none_appended before after i all k =
    elim (cases_eq k i) [
      | inl same ↦ sym (subst (λ (m : ℕ). after m ≡ before m) (sym same) (all.own ∙ append-nil (before i)))
      | inr other ↦ sym (all.others k other)
    ]

-- one delivery after the other
pub deliveries_extend : (size : ℕ) → DeliveriesInTurnExtend size
deliveries_extend size before after j [] inside allowed all = Still after (none_appended before after j all)
deliveries_extend size before after j (m ∷ ms) inside allowed all =
    (stamped_extends_runs size).transitive before middle after
    ((stamped_extends_runs size).one before middle (StampedStep.Delivers j m inside (allowed [] ms m refl before nothing) first))
    (deliveries_extend size middle after j ms inside allowed_later (rest_appended before middle after j (stamped.Deliver m) (map stamped.Deliver ms) first all))
  where
    middle : StampedLists
    middle = grown before j (stamped.Deliver m)

    first : Appends before middle j (stamped.Deliver m)
    first = grown_appends before j (stamped.Deliver m)

    nothing : AppendsAll before before j (map stamped.Deliver [])
    nothing = record { own = sym (append-nil (before j)); others = λ k other. refl }

    allowed_later : DelayRuleAllowsInTurn middle j ms
    allowed_later earlier later message split now delivered =
        allowed (m ∷ earlier) later message (ap (λ (l : List Message). m ∷ l) split) now
        (first_appended before middle now j (stamped.Deliver m) (map stamped.Deliver earlier) first delivered)

-- one cast after the other
pub casts_extend : (size : ℕ) → CastsInTurnExtend size
casts_extend size before after i [] inside stamped_all all = Still after (none_appended before after i all)
casts_extend size before after i (m ∷ ms) inside stamped_all all =
    (stamped_extends_runs size).transitive before middle after
    ((stamped_extends_runs size).one before middle (StampedStep.Casts i m.payload inside casts_first))
    (casts_extend size middle after i ms inside stamped_later (rest_appended before middle after i (stamped.Cast m) (map stamped.Cast ms) first all))
  where
    middle : StampedLists
    middle = grown before i (stamped.Cast m)

    first : Appends before middle i (stamped.Cast m)
    first = grown_appends before i (stamped.Cast m)

    -- behind no other
    next : IsNextStamped size i (before i) m
    next = subst (λ (events : List Event). IsNextStamped size i events m) (append-nil (before i)) (stamped_all [] ms m refl)

    same : m ≡ next_message i (before i) m.time m.payload
    same = ap (λ (name : Name). record { name = name; time = m.time; payload = m.payload }) next.name

    casts_first : CastsStamped size before middle i m.payload
    casts_first = record {
      time = m.time;
      appends = subst (λ (message : Message). Appends before middle i (stamped.Cast message)) same first;
      stamp = subst (IsTimeOfList size m.time) (sym first.own) next.stamp;
    }

    stamped_later : AreStampedInTurn size i (middle i) ms
    stamped_later earlier later message split =
        subst (λ (events : List Event). IsNextStamped size i events message)
        (sym (append_assoc (before i) (stamped.Cast m ∷ []) (map stamped.Cast earlier)) ∙ ap (λ (events : List Event). events ++ map stamped.Cast earlier) (sym first.own))
        (stamped_all (m ∷ earlier) later message (ap (λ (l : List Message). m ∷ l) split))
