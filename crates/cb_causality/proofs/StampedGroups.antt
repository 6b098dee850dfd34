-- What the calls of a group of the stamped machine look at, and what they leave.
use Rattle.std.specs.Prelude.{slice_get}
use Rattle.std.proofs.Common.{◌≡◌, ◌≢◌, ℕ, ◌+◌, ◌<◌, ◌≤◌, Bool, cond, inl, inr, List, [], ◌∷◌, ◌++◌, length, replicate, set, Some, sym, ◌∙◌, ap, subst, arith, length-set, eq-eqb, eqb}
use Rattle.std.proofs.lemmas.List.{length-replicate, get_or_past}
use Rattle.std.proofs.lemmas.Bool.{cases_eq, cases_lt, ne_eqb}
use Rattle.cb_times.specs.Order.{field}
use Rattle.cb_delay.specs.Rule.{IsReady}
use Rattle.cb_times.specs.declared.name.Name.{Name}
use Rattle.cb_delay.specs.declared.message.Message.{Message}
use Rattle.cb_delay.specs.declared.message.Event.{Event}
use Rattle.cb_delay.specs.declared.message.Event.TheVariants.{Cast, Deliver}
use Rattle.cb_causality.specs.declared.event.CausalEvent.TheVariants as causal
use Rattle.cb_causality.specs.Events.{is_of, count, next_name}
use Rattle.cb_times.specs.Group.{IsGroupSize}
use Rattle.cb_causality.specs.HappenedBefore.{Place, IsCastAt}
use Rattle.cb_causality.specs.Lists.{lists_in, Appends}
use Rattle.cb_causality.specs.StampedGroup.{IsAllowed, IsAllowedAs, IsCastIn, IsStampAfter, IsStampedGroup}
use Rattle.cb_causality.specs.StampedMachine.{without_time, without_times, counts_of, erased, next_message, CastsStamped, DelayRuleAllows, StampedStep, StampedRun}
use Rattle.cb_causality.proofs.Counting.{get_map, count-more}
use Rattle.cb_causality.proofs.GroupLists.{set_appends, lists_in_replicate, lists_in_past}
use Rattle.cb_causality.proofs.Names.{IsSound, cast_once}
use Rattle.cb_causality.proofs.Runs.{run_regular}
use Rattle.cb_causality.proofs.Stamps.{stamped_is_causal, erased_appends}
use Rattle.cb_causality.proofs.WayBack.{none_outside}

module _ (lists : List (List Event)) (is : IsStampedGroup lists) where
  -- the names in the lists without their times are sound
  sound : IsSound (erased (lists_in lists))
  sound = (run_regular (length lists) (erased (lists_in lists)) (stamped_is_causal (length lists) (lists_in lists) is.run)).sound

  -- a cast with its time is a cast without it
  plain_cast : (j index : ℕ) (message : Message) → slice_get (lists_in lists j) index ≡ Some (Cast message)
      → IsCastAt (erased (lists_in lists)) (record { member = j; index = index }) message.name
  plain_cast j index message stands = record {
    payload = message.payload;
    stands = get_map without_time (lists_in lists j) index (Cast message) stands;
  }

  module _ (receiver : ℕ) (m : Name) where
    -- what the rule allows is cast by its sender
    allowed_sender : (message : Message) (allowed : IsAllowedAs (lists_in lists) receiver m message) → m.sender ≡ allowed.1.caster
    allowed_sender message (named, may) =
        ap (λ (x : Name). x.sender) (sym named)
        ∙ sound.casters (record { member = may.caster; index = may.index }) message.name (plain_cast may.caster may.index message may.stands)

    -- its cast stands in the list of its sender
    at_sender : (message : Message) (allowed : IsAllowedAs (lists_in lists) receiver m message)
        → slice_get (lists_in lists m.sender) allowed.1.index ≡ Some (Cast message)
    at_sender message allowed =
        subst (λ (k : ℕ). slice_get (lists_in lists k) allowed.1.index ≡ Some (Cast message)) (sym (allowed_sender message allowed)) allowed.1.stands

    -- no member may deliver its own message
    pub own_not_allowed : m.sender ≡ receiver → IsAllowed (lists_in lists) receiver m → ⊥
    own_not_allowed own (message, allowed) = allowed.1.another (sym (allowed_sender message allowed) ∙ own)

    -- nor one that its sender has not cast
    pub uncast_not_allowed : ((message : Message) → IsCastIn (lists_in lists m.sender) m message → ⊥) → IsAllowed (lists_in lists) receiver m → ⊥
    uncast_not_allowed never (message, allowed) = never message (allowed.0, (allowed.1.index, at_sender message allowed))

    -- nor one of a sender outside the group
    pub outside_not_allowed : length lists ≤ m.sender → IsAllowed (lists_in lists) receiver m → ⊥
    outside_not_allowed outside (message, allowed) =
        let none : slice_get [] allowed.1.index ≡ Some (Cast message) =
        subst (λ (es : List Event). slice_get es allowed.1.index ≡ Some (Cast message)) (lists_in_past lists m.sender outside) (at_sender message allowed) in
        cc none

    -- a cast of the sender whose time is ready may be delivered
    pub ready_is_allowed : (message : Message) → m.sender ≢ receiver → IsCastIn (lists_in lists m.sender) m message
        → IsReady m.sender (field message.time) (counts_of (lists_in lists receiver)) → IsAllowedAs (lists_in lists) receiver m message
    ready_is_allowed message another (named, (index, stands)) ready =
        (named, record { caster = m.sender; index = index; another = another; stands = stands; ready = ready })

    -- and one whose time is not, may not
    pub unready_not_allowed : (message : Message) → IsCastIn (lists_in lists m.sender) m message
        → (IsReady m.sender (field message.time) (counts_of (lists_in lists receiver)) → ⊥) → IsAllowed (lists_in lists) receiver m → ⊥
    unready_not_allowed message (named, (index, stands)) unready (other, allowed) =
        let p : Place = record { member = m.sender; index = allowed.1.index } in
        let q : Place = record { member = m.sender; index = index } in
        let cast_p : IsCastAt (erased (lists_in lists)) p m =
        subst (λ (x : Name). IsCastAt (erased (lists_in lists)) p x) allowed.0 (plain_cast m.sender allowed.1.index other (at_sender other allowed)) in
        let cast_q : IsCastAt (erased (lists_in lists)) q m =
        subst (λ (x : Name). IsCastAt (erased (lists_in lists)) q x) named (plain_cast m.sender index message stands) in
        let indexes : allowed.1.index ≡ index = ap (λ (r : Place). r.index) (cast_once (erased (lists_in lists)) sound p q m cast_p cast_q) in
        let here : Some (Cast other) ≡ Some (Cast message) =
        sym (at_sender other allowed) ∙ ap (slice_get (lists_in lists m.sender)) indexes ∙ stands in
        let times : other.time ≡ message.time = let one : other ≡ message = cc here in ap (λ (x : Message). x.time) one in
        let at_other : IsReady m.sender (field other.time) (counts_of (lists_in lists receiver)) =
        subst (λ (i : ℕ). IsReady i (field other.time) (counts_of (lists_in lists receiver)))
        (sym (allowed_sender other allowed)) allowed.1.ready in
        unready (subst (λ (t : List ℕ). IsReady m.sender (field t) (counts_of (lists_in lists receiver))) times at_other)

-- a group in which nothing has happened is a run
pub new_stamped : (n : ℕ) → IsGroupSize n → IsStampedGroup (replicate n [])
new_stamped n size = record {
  size = rw length-replicate size;
  run = StampedRun.Start (lists_in (replicate n [])) (λ k. lists_in_replicate n k);
}

-- a step leads from a run to a run
step_group : (lists : List (List Event)) (i : ℕ) (es : List Event) → IsStampedGroup lists
    → StampedStep (length lists) (lists_in lists) (lists_in (set lists i es)) → IsStampedGroup (set lists i es)
step_group lists i es is step = record {
  size = rw length-set is.size;
  run = rw length-set (StampedRun.Then (lists_in lists) (lists_in (set lists i es)) is.run step);
}

-- a cast with the time that its list has with it
pub casts_now : (lists : List (List Event)) (i : ℕ) (payload time : List ℕ) → i < length lists → IsStampedGroup lists
    → IsStampAfter (length lists) i time (lists_in lists i)
    → CastsStamped (length lists) (lists_in lists)
    (lists_in (set lists i (lists_in lists i ++ Cast (next_message i (lists_in lists i) time payload) ∷ []))) i payload
casts_now lists i payload time inside is stamp = record { time = time; appends = app; stamp = record { fields = stamp.fields; counts = counts } }
  where
    message : Message
    message = next_message i (lists_in lists i) time payload

    name : Name
    name = next_name i (without_times (lists_in lists i))

    after : ℕ → List Event
    after = lists_in (set lists i (lists_in lists i ++ Cast (next_message i (lists_in lists i) time payload) ∷ []))

    app : Appends (lists_in lists) after i (Cast message)
    app = set_appends lists i (Cast message) inside

    grown : (k : ℕ) → count k (without_times (after i)) ≡ count k (without_times (lists_in lists i)) + cond (is_of k (causal.Cast name payload)) 1 0
    grown k =
        ap (count k) (erased_appends (lists_in lists) after i (Cast message) app).own
        ∙ count-more (is_of k) (without_times (lists_in lists i)) (causal.Cast name payload)

    counts : (k : ℕ) → field time k ≡ count k (without_times (after i))
    counts k =
        elim (cases_lt k (length lists)) [
          | inl less ↦
              elim (cases_eq k i) [
                | inl own ↦
                    let one : ◌≡◌ {A = ℕ} (cond (is_of k (causal.Cast name payload)) 1 0) 1 = ap {B = ℕ} (λ (b : Bool). cond b 1 0) (eq-eqb i k (sym own)) in
                    let stamped : ◌≡◌ {A = ℕ} (cond (eqb k i) 1 0) 1 = ap {B = ℕ} (λ (b : Bool). cond b 1 0) (eq-eqb k i own) in
                    omega (arith, stamp.counts k less, grown k)
                | inr other ↦
                    let none : ◌≡◌ {A = ℕ} (cond (is_of k (causal.Cast name payload)) 1 0) 0 = ap {B = ℕ} (λ (b : Bool). cond b 1 0) (ne_eqb i k (λ e. other (sym e))) in
                    let stamped : ◌≡◌ {A = ℕ} (cond (eqb k i) 1 0) 0 = ap {B = ℕ} (λ (b : Bool). cond b 1 0) (ne_eqb k i other) in
                    omega (arith, stamp.counts k less, grown k)
              ]
          | inr past ↦
              let differ : i ≢ k = λ e. let f : ⊥ = omega arith in f in
              let none : ◌≡◌ {A = ℕ} (cond (is_of k (causal.Cast name payload)) 1 0) 0 = ap {B = ℕ} (λ (b : Bool). cond b 1 0) (ne_eqb i k differ) in
              let before : count k (without_times (lists_in lists i)) ≡ 0 =
              none_outside (length lists) (erased (lists_in lists)) (stamped_is_causal (length lists) (lists_in lists) is.run) i k past in
              let zero_field : field time k ≡ 0 = get_or_past time k 0 (omega (arith, stamp.fields)) in
              omega (arith, grown k)
        ]

-- and such a cast leads from a run to a run
pub cast_group : (lists : List (List Event)) (i : ℕ) (payload time : List ℕ) → i < length lists → IsStampedGroup lists
    → IsStampAfter (length lists) i time (lists_in lists i)
    → IsStampedGroup (set lists i (lists_in lists i ++ Cast (next_message i (lists_in lists i) time payload) ∷ []))
cast_group lists i payload time inside is stamp =
    step_group lists i (lists_in lists i ++ Cast (next_message i (lists_in lists i) time payload) ∷ []) is
    (StampedStep.Casts i payload inside (casts_now lists i payload time inside is stamp))

-- and so does a delivery of what the rule allows
pub delivery_group : (lists : List (List Event)) (receiver : ℕ) (message : Message) → receiver < length lists → IsStampedGroup lists
    → DelayRuleAllows (lists_in lists) receiver message → IsStampedGroup (set lists receiver (lists_in lists receiver ++ Deliver message ∷ []))
delivery_group lists receiver message inside is may =
    step_group lists receiver (lists_in lists receiver ++ Deliver message ∷ []) is
    (StampedStep.Delivers receiver message inside may (set_appends lists receiver (Deliver message) inside))
