-- The clock of a place: how many messages of each member its list has up to and with it. It grows along every path.
use Rattle.std.specs.Prelude.{slice_get}
use Rattle.std.proofs.Common.{◌≡◌, ◌≢◌, ℕ, zero, suc, ◌+◌, ◌<◌, ◌≤◌, ◌⊎◌, inl, inr, List, take, Some, refl, sym, ◌∙◌, ap, subst, arith, eq-eqb, le_trans, ◌-◌}
use Rattle.std.proofs.lemmas.Bool.{cases_eq, cases_lt, cases_order}
use Rattle.cb_delay.specs.Rule.{IsReady}
use Rattle.cb_times.specs.declared.name.Name.{Name}
use Rattle.cb_causality.specs.declared.event.CausalEvent.{CausalEvent}
use Rattle.cb_causality.specs.declared.event.CausalEvent.TheVariants.{Cast, Deliver}
use Rattle.cb_causality.specs.Events.{name_of, is_of, count, Has}
use Rattle.cb_causality.specs.HappenedBefore.{Lists, Place, IsCastAt, IsDeliveryAt, Edge, Later, Message, Path, One, On, HappenedBefore}
use Rattle.cb_causality.specs.CausalMachine.{MayDeliver}
use Rattle.cb_causality.proofs.Counting.{count_step, count_mono}
use Rattle.cb_causality.proofs.Places.{is_place}
use Rattle.cb_delay.proofs.Kept.{one_name}
use Rattle.cb_causality.proofs.Names.{IsSound, named, stands_within, number_of_had, had_from_number, cast_once, cast_number}

-- how many messages of k the list of the place has up to and with it
abbrev pub clock : Lists → Place → ℕ → ℕ
clock lists p k = count k (take (suc p.index) (lists p.member))

-- where a message is delivered, nothing is missing that its cast had
abbrev pub IsClosed : Lists → Type 0
IsClosed lists = (p q : Place) (m : Name) → IsCastAt lists p m → IsDeliveryAt lists q m → (k : ℕ) → clock lists p k ≤ clock lists q k

module _ (lists : Lists) (sound : IsSound lists) where
  -- a cast's own field is its number
  pub clock_own : (p : Place) (m : Name) → IsCastAt lists p m → clock lists p m.sender ≡ m.number
  clock_own p m c =
      let number : m.number ≡ count m.sender (take p.index (lists p.member)) + 1 = sound.in_order p (Cast m c.payload) c.stands in
      let step : clock lists p m.sender ≡ count m.sender (take p.index (lists p.member)) + 1 =
      rw (eq-eqb m.sender m.sender refl) at (count_step (is_of m.sender) (lists p.member) p.index (Cast m c.payload) c.stands) in
      omega arith

  -- what the clock of a cast counts is that message, or happened before it
  pub counted_is_past : (p : Place) (m : Name) → IsCastAt lists p m → (k t : ℕ) → 1 ≤ t → t ≤ clock lists p k
      → (named k t ≡ m) ⊎ HappenedBefore lists (named k t) m
  counted_is_past p m c k t one most =
      let (index, e, less, stands, called) = stands_within lists sound p.member (suc p.index) k t one most in
      by_event index e less stands called
    where
      by_event : (index : ℕ) (e : CausalEvent) → index < suc p.index → slice_get (lists p.member) index ≡ Some e → name_of e ≡ named k t
          → (named k t ≡ m) ⊎ HappenedBefore lists (named k t) m
      by_event index (Cast x payload) less stands called =
          elim (cases_order index p.index) [
            | inl same ↦
                let here : Some (Cast x payload) ≡ Some (Cast m c.payload) = sym stands ∙ ap (slice_get (lists p.member)) same ∙ c.stands in
                let the_one : x ≡ m = cc here in
                inl (sym called ∙ the_one)
            | inr (inl before) ↦ inr (record {
              from = record { member = p.member; index = index };
              to = p;
              cast_earlier = record { payload = payload; stands = stands ∙ ap (λ (y : Name). Some (Cast y payload)) called };
              cast_later = c;
              path = One (Later refl before (is_place lists p (Cast m c.payload) c.stands));
            })
            | inr (inr after) ↦ absurd (omega arith)
          ]
      by_event index (Deliver x payload) less stands called =
          elim (cases_order index p.index) [
            | inl same ↦
                let here : Some (Deliver x payload) ≡ Some (Cast m c.payload) = sym stands ∙ ap (slice_get (lists p.member)) same ∙ c.stands in
                absurd (cc here)
            | inr (inl before) ↦
                let place : Place = record { member = p.member; index = index } in
                let delivery : IsDeliveryAt lists place x = record { payload = payload; stands = stands } in
                let (sent_at, cast) = sound.sent place x delivery in
                inr (record {
                  from = record { member = x.sender; index = sent_at };
                  to = p;
                  cast_earlier = subst (λ (y : Name). IsCastAt lists (record { member = x.sender; index = sent_at }) y) called cast;
                  cast_later = c;
                  path = On {next = place} (Message x cast delivery) (One (Later refl before (is_place lists p (Cast m c.payload) c.stands)));
                })
            | inr (inr after) ↦ absurd (omega arith)
          ]

  -- what happened before a message that may be delivered is counted where it may be delivered
  past_is_had : (j : ℕ) (m : Name) (payload : List ℕ) → MayDeliver lists j m payload → (k t : ℕ) → HappenedBefore lists (named k t) m → t ≤ count k (lists j)
  past_is_had j m payload may k t h = (number_of_had lists sound j (named k t) (may.closed (named k t) h)).1

  -- so what may be delivered meets the delay rule at the clock of its cast
  pub may_deliver_is_ready : (p : Place) (j : ℕ) (m : Name) (payload : List ℕ) → IsCastAt lists p m → MayDeliver lists j m payload
      → IsReady m.sender (clock lists p) (λ k. count k (lists j))
  may_deliver_is_ready p j m payload c may = record { next = next; others = others }
    where
      others : (k : ℕ) → k ≢ m.sender → clock lists p k ≤ count k (lists j)
      others k other =
          elim (cases_order (clock lists p k) 0) [
            | inl none ↦ omega arith
            | inr (inl below) ↦ absurd (omega arith)
            | inr (inr some) ↦
                elim (counted_is_past p m c k (clock lists p k) some (omega arith)) [
                  | inl same ↦ absurd (other (ap (λ (x : Name). x.sender) same))
                  | inr past ↦ past_is_had j m payload may k (clock lists p k) past
                ]
          ]

      -- the sender's message before it, where there is one, is counted
      up_to : (t : ℕ) → m.number ≡ suc t → t ≤ count m.sender (lists j)
      up_to zero e = omega arith
      up_to (suc t) e =
          let own : clock lists p m.sender ≡ m.number = clock_own p m c in
          elim (counted_is_past p m c m.sender (suc t) (omega arith) (omega arith)) [
            | inl same ↦ let number : suc t ≡ m.number = ap (λ (x : Name). x.number) same in absurd (omega arith)
            | inr past ↦ past_is_had j m payload may m.sender (suc t) past
          ]

      above : count m.sender (lists j) < m.number
      above =
          elim (cases_lt (count m.sender (lists j)) m.number) [
            | inl less ↦ less
            | inr more ↦ absurd (may.unseen (had_from_number lists sound j m (cast_number lists sound p m c) more))
          ]

      next : clock lists p m.sender ≡ count m.sender (lists j) + 1
      next =
          let own : clock lists p m.sender ≡ m.number = clock_own p m c in
          let one : 1 ≤ m.number = cast_number lists sound p m c in
          let most : m.number - 1 ≤ count m.sender (lists j) = up_to (m.number - 1) (omega arith) in
          let less : count m.sender (lists j) < m.number = above in
          omega arith

module _ (lists : Lists) (sound : IsSound lists) (closed : IsClosed lists) where
  -- the clock grows along an edge
  pub clock_edge : {p q : Place} → Edge lists p q → (k : ℕ) → clock lists p k ≤ clock lists q k
  clock_edge {p} {q} (Later same less in_list) k =
      let more : count k (take (suc p.index) (lists q.member)) ≤ clock lists q k = count_mono (is_of k) (lists q.member) (suc p.index) (suc q.index) (omega arith) in
      subst (λ (i : ℕ). count k (take (suc p.index) (lists i)) ≤ clock lists q k) (sym same) more
  clock_edge {p} {q} (Message m c d) k = closed p q m c d k

  -- and along a path
  pub clock_path : {p q : Place} → Path lists p q → (k : ℕ) → clock lists p k ≤ clock lists q k
  clock_path (One e) k = clock_edge e k
  clock_path (On {from} {next} {to} e w) k = let a : clock lists from k ≤ clock lists next k = clock_edge e k in let b : clock lists next k ≤ clock lists to k = clock_path w k in omega arith

  -- what happened before a cast is counted by its clock
  pub past_is_counted : (p : Place) (m earlier : Name) → IsCastAt lists p m → HappenedBefore lists earlier m → earlier.number ≤ clock lists p earlier.sender
  past_is_counted p m earlier c h =
      let one : h.to ≡ p = cast_once lists sound h.to p m h.cast_later c in
      let grows : clock lists h.from earlier.sender ≤ clock lists h.to earlier.sender = clock_path h.path earlier.sender in
      let own : clock lists h.from earlier.sender ≡ earlier.number = clock_own lists sound h.from earlier h.cast_earlier in
      let there : clock lists h.to earlier.sender ≡ clock lists p earlier.sender = ap (λ (q : Place). clock lists q earlier.sender) one in
      omega arith

  -- What meets the delay rule at the clock of its cast may be delivered.
  pub ready_may_deliver : (irreflexive : (m : Name) → ¬ HappenedBefore lists m m) (p : Place) (j : ℕ) (m : Name) (c : IsCastAt lists p m) → m.sender ≢ j
      → IsReady m.sender (clock lists p) (λ k. count k (lists j)) → MayDeliver lists j m c.payload
  ready_may_deliver irreflexive p j m c another ready =
      record {
        caster = p.member;
        index = p.index;
        another = λ e. another (sound.casters p m c ∙ e);
        stands = c.stands;
        unseen = unseen;
        closed = closed_there;
      }
    where
      own : clock lists p m.sender ≡ m.number
      own = clock_own lists sound p m c

      unseen : ¬ Has (lists j) m
      unseen h =
          let (one, most) = number_of_had lists sound j m h in
          let next : clock lists p m.sender ≡ count m.sender (lists j) + 1 = ready.next in
          let own_number : clock lists p m.sender ≡ m.number = own in
          omega arith

      closed_there : (earlier : Name) → HappenedBefore lists earlier m → Has (lists j) earlier
      closed_there earlier h =
          let one : 1 ≤ earlier.number = cast_number lists sound h.from earlier h.cast_earlier in
          let counted_there : earlier.number ≤ clock lists p earlier.sender = past_is_counted p m earlier c h in
          elim (cases_eq earlier.sender m.sender) [
            | inl same ↦
                let next : clock lists p m.sender ≡ count m.sender (lists j) + 1 = ready.next in
                let own_number : clock lists p m.sender ≡ m.number = own in
                let clocks : clock lists p earlier.sender ≡ clock lists p m.sender = ap (clock lists p) same in
                let counts : count earlier.sender (lists j) ≡ count m.sender (lists j) = ap (λ (k : ℕ). count k (lists j)) same in
                let differs : earlier.number ≢ m.number =
                λ e. irreflexive m (subst (λ (x : Name). HappenedBefore lists x m) (one_name earlier m same e) h) in
                had_from_number lists sound j earlier one (omega arith)
            | inr other ↦ had_from_number lists sound j earlier one (le_trans counted_there (ready.others earlier.sender other))
          ]
