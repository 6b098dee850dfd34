-- Every run of the causal machine is sound and closed, and no path leads round in it.
use Rattle.std.specs.Prelude.{slice_get}
use Rattle.std.proofs.Common.{◌≡◌, ◌≢◌, ℕ, suc, ◌+◌, ◌≤◌, Bool, cond, inl, inr, List, [], ◌∷◌, ◌++◌, length, take, Some, refl, sym, ◌∙◌, ap, subst, arith, eq-eqb}
use Rattle.std.proofs.lemmas.Bool.{cases_eq}
use Rattle.cb_delay.specs.Rule.{IsReady}
use Rattle.cb_times.specs.declared.name.Name.{Name}
use Rattle.cb_causality.specs.declared.event.CausalEvent.{CausalEvent}
use Rattle.cb_causality.specs.declared.event.CausalEvent.TheVariants.{Cast, Deliver}
use Rattle.cb_causality.specs.Events.{name_of, is_of, count, next_name}
use Rattle.cb_causality.specs.HappenedBefore.{Lists, Place, event_at, IsPlace, IsCastAt, IsDeliveryAt, Edge, Later, Message, Path, One, On}
use Rattle.cb_causality.specs.CausalMachine.{Step, Casts, Delivers, Run, Start, Then}
use Rattle.cb_causality.specs.Laws.{IsIrreflexive, IsTransitive, KeepsPaths}
use Rattle.std.proofs.lemmas.List.{take-append-le}
use Rattle.cb_causality.proofs.Counting.{take_whole, count-more}
use Rattle.cb_causality.proofs.Places.{joined, is_place, length_own, old_or_new, cast_stays, path_was, path_from_old, paths_kept}
use Rattle.cb_causality.proofs.Names.{IsSound, cast_once, own_casts, number_of_had}
use Rattle.cb_causality.proofs.Clock.{clock, IsClosed, may_deliver_is_ready, clock_own}
use Rattle.cb_causality.specs.Lists.{Appends}

module _ (before after : Lists) (i : ℕ) (x : CausalEvent) (app : Appends before after i x) where
  -- the first elements of each list stay
  take_stays : (k n : ℕ) → n ≤ length (before k) → take n (after k) ≡ take n (before k)
  take_stays k n h =
      elim (cases_eq k i) [
        | inl same ↦
            let own : after k ≡ before k ++ x ∷ [] = subst (λ (m : ℕ). after m ≡ before m ++ x ∷ []) (sym same) app.own in
            rw (own, take-append-le n (before k) (x ∷ []) h)
        | inr other ↦ ap (take n) (app.others k other)
      ]

  -- so the clock of a place stays
  pub clock_stays : (p : Place) (k : ℕ) → IsPlace before p → clock after p k ≡ clock before p k
  clock_stays p k old = ap (count k) (take_stays p.member (suc p.index) old)

  -- the clock of the new place is what its list has now
  pub clock_whole : (k : ℕ) → clock after (record { member = i; index = length (before i) }) k ≡ count k (after i)
  clock_whole k = ap (count k) (ap (λ (n : ℕ). take n (after i)) (sym (length_own before after i x app)) ∙ take_whole (after i))

  -- which is what it had and the new event
  pub clock_new : (k : ℕ) → clock after (record { member = i; index = length (before i) }) k ≡ count k (before i) + cond (is_of k x) 1 0
  clock_new k = clock_whole k ∙ ap (count k) app.own ∙ count-more (is_of k) (before i) x

  -- what is to hold of a new event, so that the lists stay as they should be:
  pub record IsNext : Type 0 where
    pub caster : (m : Name) (payload : List ℕ) → x ≡ Cast m payload → m.sender ≡ i
    pub number : (name_of x).number ≡ count (name_of x).sender (before i) + 1
    pub other : (m : Name) (payload : List ℕ) → x ≡ Deliver m payload → m.sender ≢ i
    pub sent : (m : Name) (payload : List ℕ) → x ≡ Deliver m payload → (index : ℕ) × IsCastAt before (record { member = m.sender; index = index }) m
    pub nothing_missing : (m : Name) (payload : List ℕ) → x ≡ Deliver m payload → (p : Place) → IsCastAt before p m
        → (k : ℕ) → clock before p k ≤ count k (before i) + cond (is_of k x) 1 0

  module _ (sound : IsSound before) (next : IsNext) where
    -- a new cast has not been delivered
    pub fresh : (m : Name) (payload : List ℕ) (q : Place) → x ≡ Cast m payload → IsDeliveryAt after q m → ⊥
    fresh m payload q is_cast d =
        elim (old_or_new before after i x app q.member q.index (Deliver m d.payload) d.stands) [
          | inl old ↦
              let was : IsDeliveryAt before q m = record { payload = d.payload; stands = old } in
              let (index, sent) = sound.sent q m was in
              let sender : m.sender ≡ i = next.caster m payload is_cast in
              let had : m.number ≤ count m.sender (before m.sender) =
              (number_of_had before sound m.sender m (record { index = index; event = Cast m sent.payload; stands = sent.stands; named = refl })).1 in
              let at_i : count m.sender (before m.sender) ≡ count m.sender (before i) = ap (λ (k : ℕ). count m.sender (before k)) sender in
              let number : m.number ≡ count m.sender (before i) + 1 = subst (λ (e : CausalEvent). (name_of e).number ≡ count (name_of e).sender (before i) + 1) is_cast next.number in
              omega arith
          | inr new ↦ absurd (cc (is_cast, new.2))
        ]

    -- the names stay in order
    pub still_sound : IsSound after
    still_sound = record { casters = casters; in_order = in_order; others = others; sent = sent }
      where
        casters : (p : Place) (m : Name) → IsCastAt after p m → m.sender ≡ p.member
        casters p m c =
            elim (old_or_new before after i x app p.member p.index (Cast m c.payload) c.stands) [
              | inl old ↦ sound.casters p m (record { payload = c.payload; stands = old })
              | inr new ↦ next.caster m c.payload (sym new.2) ∙ sym new.0
            ]

        in_order : (p : Place) (e : CausalEvent) → event_at after p ≡ Some e → (name_of e).number ≡ count (name_of e).sender (take p.index (after p.member)) + 1
        in_order p e stands =
            elim (old_or_new before after i x app p.member p.index e stands) [
              | inl old ↦
                  let is_old : IsPlace before p = is_place before p e old in
                  let same : count (name_of e).sender (take p.index (after p.member)) ≡ count (name_of e).sender (take p.index (before p.member)) =
                  ap (count (name_of e).sender) (take_stays p.member p.index (omega arith)) in
                  sound.in_order p e old ∙ ap (λ (n : ℕ). n + 1) (sym same)
              | inr new ↦
                  let same : take p.index (after p.member) ≡ before i =
                  ap (λ (n : ℕ). take n (after p.member)) new.1 ∙ ap (λ (k : ℕ). take (length (before i)) (after k)) new.0
                  ∙ take_stays i (length (before i)) (omega arith) ∙ take_whole (before i) in
                  rw (new.2, same) next.number
            ]

        others : (p : Place) (m : Name) → IsDeliveryAt after p m → m.sender ≢ p.member
        others p m d =
            elim (old_or_new before after i x app p.member p.index (Deliver m d.payload) d.stands) [
              | inl old ↦ sound.others p m (record { payload = d.payload; stands = old })
              | inr new ↦ λ e. next.other m d.payload (sym new.2) (e ∙ new.0)
            ]

        sent : (p : Place) (m : Name) → IsDeliveryAt after p m → (index : ℕ) × IsCastAt after (record { member = m.sender; index = index }) m
        sent p m d =
            elim (old_or_new before after i x app p.member p.index (Deliver m d.payload) d.stands) [
              | inl old ↦
                  let (index, cast) = sound.sent p m (record { payload = d.payload; stands = old }) in
                  (index, cast_stays before after i x app (record { member = m.sender; index = index }) m cast)
              | inr new ↦
                  let (index, cast) = next.sent m d.payload (sym new.2) in
                  (index, cast_stays before after i x app (record { member = m.sender; index = index }) m cast)
            ]

    -- and the deliveries stay closed
    pub still_closed : IsClosed before → IsClosed after
    still_closed closed p q m c d k =
        elim (old_or_new before after i x app p.member p.index (Cast m c.payload) c.stands) [
          | inl old_p ↦
              let was_p : IsCastAt before p m = record { payload = c.payload; stands = old_p } in
              let clock_p : clock after p k ≡ clock before p k = clock_stays p k (is_place before p (Cast m c.payload) old_p) in
              elim (old_or_new before after i x app q.member q.index (Deliver m d.payload) d.stands) [
                | inl old_q ↦
                    let clock_q : clock after q k ≡ clock before q k = clock_stays q k (is_place before q (Deliver m d.payload) old_q) in
                    let less : clock before p k ≤ clock before q k = closed p q m was_p (record { payload = d.payload; stands = old_q }) k in
                    omega arith
                | inr new_q ↦
                    let places : clock after q k ≡ clock after (record { member = i; index = length (before i) }) k =
                    ap (λ (j : ℕ). count k (take (suc q.index) (after j))) new_q.0 ∙ ap (λ (n : ℕ). count k (take (suc n) (after i))) new_q.1 in
                    let less : clock before p k ≤ count k (before i) + cond (is_of k x) 1 0 = next.nothing_missing m d.payload (sym new_q.2) p was_p k in
                    omega (arith, clock_new k)
              ]
          | inr new_p ↦ absurd (fresh m c.payload q (sym new_p.2) d)
        ]

-- lists in which nothing stands
module _ (lists : Lists) (empty : (k : ℕ) → lists k ≡ []) where
  -- no event stands there
  nothing_stands : (p : Place) (e : CausalEvent) → event_at lists p ≡ Some e → ⊥
  nothing_stands p e h =
      let none : slice_get [] p.index ≡ Some e = subst (λ (es : List CausalEvent). slice_get es p.index ≡ Some e) (empty p.member) h in
      cc

  -- so the names are in order
  empty_sound : IsSound lists
  empty_sound = record {
    casters = λ p m c. absurd (nothing_stands p (Cast m c.payload) c.stands);
    in_order = λ p e h. absurd (nothing_stands p e h);
    others = λ p m d. absurd (nothing_stands p (Deliver m d.payload) d.stands);
    sent = λ p m d. absurd (nothing_stands p (Deliver m d.payload) d.stands);
  }

  -- and no edge leads anywhere
  no_edge : {p q : Place} → Edge lists p q → ⊥
  no_edge {p} {q} (Later same less in_list) = let e : length (lists q.member) ≡ 0 = ap length (empty q.member) in omega arith
  no_edge {p} {q} (Message m c d) = nothing_stands p (Cast m c.payload) c.stands

  -- nor a path
  no_path : {p q : Place} → Path lists p q → ⊥
  no_path (One e) = no_edge e
  no_path (On e w) = no_edge e

-- what a step appends, where, and that it is a next event
pub record Appended (before after : Lists) : Type 0 where
  pub member : ℕ
  pub event : CausalEvent
  pub appends : Appends before after member event
  pub next : IsNext before after member event appends

-- each step appends a next event
pub appended : (size : ℕ) (before after : Lists) → IsSound before → Step size before after → Appended before after
appended size before after sound (Casts i payload in_group app) = record {
  member = i;
  event = Cast (next_name i (before i)) payload;
  appends = app;
  next = record {
    caster = λ m p e. let same : next_name i (before i) ≡ m = cc e in sym (ap (λ (x : Name). x.sender) same);
    number = ap (λ (n : ℕ). n + 1) (sym (own_casts before sound i));
    other = λ m p e. absurd (cc e);
    sent = λ m p e. absurd (cc e);
    nothing_missing = λ m p e. absurd (cc e);
  };
}
appended size before after sound (Delivers j m payload in_group may app) = record {
  member = j;
  event = Deliver m payload;
  appends = app;
  next = record {
    caster = λ x p e. absurd (cc e);
    number = sym (clock_own before sound place m cast) ∙ (ready place cast).next;
    other = λ x p e. subst (λ (y : Name). y.sender ≢ j) (same x p e) another;
    sent = λ x p e. subst (λ (y : Name). (index : ℕ) × IsCastAt before (record { member = y.sender; index = index }) y) (same x p e) sent_here;
    nothing_missing = λ x p e q c k. missing q (subst (λ (y : Name). IsCastAt before q y) (sym (same x p e)) c) k;
  };
}
  where
    place : Place
    place = record { member = may.caster; index = may.index }

    cast : IsCastAt before place m
    cast = record { payload = payload; stands = may.stands }

    sender : m.sender ≡ may.caster
    sender = sound.casters place m cast

    another : m.sender ≢ j
    another e = may.another (sym sender ∙ e)

    sent_here : (index : ℕ) × IsCastAt before (record { member = m.sender; index = index }) m
    sent_here = (may.index, subst (λ (k : ℕ). IsCastAt before (record { member = k; index = may.index }) m) (sym sender) cast)

    same : (x : Name) (p : List ℕ) → Deliver m payload ≡ Deliver x p → m ≡ x
    same x p e = cc e

    ready : (q : Place) → IsCastAt before q m → IsReady m.sender (clock before q) (λ k. count k (before j))
    ready q c = may_deliver_is_ready before sound q j m payload c may

    missing : (q : Place) → IsCastAt before q m → (k : ℕ) → clock before q k ≤ count k (before j) + cond (is_of k (Deliver m payload)) 1 0
    missing q c k =
        elim (cases_eq k m.sender) [
          | inl own ↦
              let one : ◌≡◌ {A = ℕ} (cond (is_of k (Deliver m payload)) 1 0) 1 = ap {B = ℕ} (λ (b : Bool). cond b 1 0) (eq-eqb m.sender k (sym own)) in
              let next : clock before q m.sender ≡ count m.sender (before j) + 1 = (ready q c).next in
              let clocks : clock before q k ≡ clock before q m.sender = ap (clock before q) own in
              let counts : count k (before j) ≡ count m.sender (before j) = ap (λ (l : ℕ). count l (before j)) own in
              omega arith
          | inr other ↦ let less : clock before q k ≤ count k (before j) = (ready q c).others k other in omega arith
        ]

-- how the lists of a run stand
pub record IsRegular (lists : Lists) : Type 0 where
  pub sound : IsSound lists
  pub closed : IsClosed lists
  pub acyclic : (p : Place) → ¬ Path lists p p

-- a step keeps them so
pub step_regular : (size : ℕ) (before after : Lists) → IsRegular before → Step size before after → IsRegular after
step_regular size before after reg step =
    let a : Appended before after = appended size before after reg.sound step in
    record {
      sound = still_sound before after a.member a.event a.appends reg.sound a.next;
      closed = still_closed before after a.member a.event a.appends reg.sound a.next reg.closed;
      acyclic = λ p w.
          let new : (m : Name) (payload : List ℕ) (q : Place) → a.event ≡ Cast m payload → IsDeliveryAt after q m → ⊥ =
          fresh before after a.member a.event a.appends reg.sound a.next in
          let old : IsPlace before p = path_from_old before after a.member a.event a.appends new w in
          reg.acyclic p (path_was before after a.member a.event a.appends new w old);
    }

-- so do all steps of a run
pub run_regular : (size : ℕ) (lists : Lists) → Run size lists → IsRegular lists
run_regular size lists (Start _ empty) = record {
  sound = empty_sound lists empty;
  closed = λ p q m c d k. absurd (nothing_stands lists empty p (Cast m c.payload) c.stands);
  acyclic = λ p w. no_path lists empty w;
}
run_regular size lists (Then before _ run step) = step_regular size before lists (run_regular size before run) step

-- appending an event to the lists of a run adds no path between older places
pub step_keeps_paths : (size : ℕ) (before after : Lists) → Run size before → Step size before after → KeepsPaths before after
step_keeps_paths size before after run step =
    let sound : IsSound before = (run_regular size before run).sound in
    let a : Appended before after = appended size before after sound step in
    paths_kept before after a.member a.event a.appends (fresh before after a.member a.event a.appends sound a.next)

-- happened-before is irreflexive
pub regular_irreflexive : (lists : Lists) → IsRegular lists → IsIrreflexive lists
regular_irreflexive lists reg m h =
    let one : h.to ≡ h.from = cast_once lists reg.sound h.to h.from m h.cast_later h.cast_earlier in
    reg.acyclic h.from (subst (λ (q : Place). Path lists h.from q) one h.path)

-- and transitive
pub regular_transitive : (lists : Lists) → IsRegular lists → IsTransitive lists
regular_transitive lists reg a b m first second =
    let one : second.from ≡ first.to = cast_once lists reg.sound second.from first.to b second.cast_earlier first.cast_later in
    record {
      from = first.from;
      to = second.to;
      cast_earlier = first.cast_earlier;
      cast_later = second.cast_later;
      path = joined first.path (subst (λ (q : Place). Path lists q second.to) one second.path);
    }
