-- What holds of the names in lists in which each member's messages stand in order.
use Rattle.std.specs.Prelude.{slice_get}
use Rattle.std.proofs.Common.{◌≡◌, ◌≢◌, ℕ, zero, suc, ◌+◌, ◌<◌, ◌≤◌, true, length, take, Some, refl, sym, ◌∙◌, ap₂, subst, arith, eq-eqb, eqb-true}
use Rattle.std.proofs.lemmas.Bool.{ne_eqb}
use Rattle.cb_times.specs.declared.name.Name.{Name}
use Rattle.cb_causality.specs.declared.event.CausalEvent.{CausalEvent}
use Rattle.cb_causality.specs.declared.event.CausalEvent.TheVariants.{Cast, Deliver}
use Rattle.cb_causality.specs.Events.{name_of, is_cast, is_of, count, casts_of, Has}
use Rattle.cb_causality.specs.HappenedBefore.{Lists, Place, event_at, IsCastAt, IsDeliveryAt}
use Rattle.cb_delay.proofs.Kept.{one_name}
use Rattle.cb_causality.proofs.Counting.{get_take, count_step, count_mono, count_within, count_once, count_same, take_whole}

-- message t of member i
abbrev pub named : ℕ → ℕ → Name
named i t = record { sender = i; number = t }

-- How lists stand in a run:
pub record IsSound (lists : Lists) : Type 0 where
  -- a member casts its own messages
  pub casters : (p : Place) (m : Name) → IsCastAt lists p m → m.sender ≡ p.member
  -- each message of a sender has the number that follows those of that sender before it in the list
  pub in_order : (p : Place) (e : CausalEvent) → event_at lists p ≡ Some e
      → (name_of e).number ≡ count (name_of e).sender (take p.index (lists p.member)) + 1
  -- what a member delivers, another has cast
  pub others : (p : Place) (m : Name) → IsDeliveryAt lists p m → m.sender ≢ p.member
  pub sent : (p : Place) (m : Name) → IsDeliveryAt lists p m → (index : ℕ) × IsCastAt lists (record { member = m.sender; index = index }) m

module _ (lists : Lists) (sound : IsSound lists) where
  -- a message that stands among the first ones of a list has a number from 1 up to the count of its sender there
  pub number_within : (j n index : ℕ) (e : CausalEvent) → slice_get (take n (lists j)) index ≡ Some e
      → (1 ≤ (name_of e).number) × ((name_of e).number ≤ count (name_of e).sender (take n (lists j)))
  number_within j n index e at =
      let (less, stands) = get_take (lists j) n index e at in
      let k : ℕ = (name_of e).sender in
      let number : (name_of e).number ≡ count k (take index (lists j)) + 1 = sound.in_order (record { member = j; index = index }) e stands in
      let step : count k (take (suc index) (lists j)) ≡ count k (take index (lists j)) + 1 =
      rw (eq-eqb k k refl) at (count_step (is_of k) (lists j) index e stands) in
      (omega arith, omega (arith, count_mono (is_of k) (lists j) (suc index) n less))

  -- and each such number is that of a message that stands there
  pub stands_within : (j n k t : ℕ) → 1 ≤ t → t ≤ count k (take n (lists j))
      → (index : ℕ) × (e : CausalEvent) × (index < n) × (slice_get (lists j) index ≡ Some e) × (name_of e ≡ named k t)
  stands_within j n k (zero) one most = absurd (omega arith)
  stands_within j n k (suc t) one most =
      let (index, e, less, stands, pass, before) = count_within (is_of k) (lists j) n t most in
      let of_k : (name_of e).sender ≡ k = eqb-true (name_of e).sender k pass in
      let number : (name_of e).number ≡ count (name_of e).sender (take index (lists j)) + 1 = sound.in_order (record { member = j; index = index }) e stands in
      let at_k : (name_of e).number ≡ count k (take index (lists j)) + 1 = rw of_k at number in
      (index, e, less, stands, one_name (name_of e) (named k (suc t)) of_k (omega arith))

  -- what a list has has a number up to the count of its sender, and the other way round
  pub number_of_had : (j : ℕ) (m : Name) → Has (lists j) m → (1 ≤ m.number) × (m.number ≤ count m.sender (lists j))
  number_of_had j m h =
      let at : slice_get (take (length (lists j)) (lists j)) h.index ≡ Some h.event = rw (take_whole (lists j)) h.stands in
      let within : (1 ≤ (name_of h.event).number) × ((name_of h.event).number ≤ count (name_of h.event).sender (take (length (lists j)) (lists j))) =
      number_within j (length (lists j)) h.index h.event at in
      rw (h.named, take_whole (lists j)) at within

  -- and a message whose number is so, the list has
  pub had_from_number : (j : ℕ) (m : Name) → 1 ≤ m.number → m.number ≤ count m.sender (lists j) → Has (lists j) m
  had_from_number j m one most =
      let (index, e, less, stands, called) = stands_within j (length (lists j)) m.sender m.number one (rw (take_whole (lists j)) most) in
      record { index = index; event = e; stands = stands; named = called }

  -- the number of a cast is at least 1
  pub cast_number : (p : Place) (m : Name) → IsCastAt lists p m → 1 ≤ m.number
  cast_number p m c = let number : m.number ≡ count m.sender (take p.index (lists p.member)) + 1 = sound.in_order p (Cast m c.payload) c.stands in omega arith

  -- a message is cast at one place
  pub cast_once : (p q : Place) (m : Name) → IsCastAt lists p m → IsCastAt lists q m → p ≡ q
  cast_once p q m c d =
      let members : q.member ≡ p.member = sym (sound.casters q m d) ∙ sound.casters p m c in
      let number_p : m.number ≡ count m.sender (take p.index (lists p.member)) + 1 = sound.in_order p (Cast m c.payload) c.stands in
      let number_q : m.number ≡ count m.sender (take q.index (lists q.member)) + 1 = sound.in_order q (Cast m d.payload) d.stands in
      let number_q' : m.number ≡ count m.sender (take q.index (lists p.member)) + 1 = subst (λ (k : ℕ). m.number ≡ count m.sender (take q.index (lists k)) + 1) members number_q in
      let stands_q : slice_get (lists p.member) q.index ≡ Some (Cast m d.payload) = subst (λ (k : ℕ). slice_get (lists k) q.index ≡ Some (Cast m d.payload)) members d.stands in
      let is_m : is_of m.sender (Cast m c.payload) ≡ true = eq-eqb m.sender m.sender refl in
      let indexes : p.index ≡ q.index =
      count_once (is_of m.sender) (lists p.member) p.index q.index (Cast m c.payload) (Cast m d.payload) c.stands stands_q is_m is_m (omega arith) in
      let places : ℕ → ℕ → Place = λ k a. record { member = k; index = a } in
      ap₂ places (sym members) indexes

  -- a member has as many messages of its own as it has cast
  pub own_casts : (i : ℕ) → count i (lists i) ≡ casts_of (lists i)
  own_casts i = count_same (is_of i) is_cast (lists i) (λ a e at. agree a e at)
    where
      agree : (a : ℕ) (e : CausalEvent) → slice_get (lists i) a ≡ Some e → is_of i e ≡ is_cast e
      agree a (Cast m payload) at = eq-eqb m.sender i (sound.casters (record { member = i; index = a }) m (record { payload = payload; stands = at }))
      agree a (Deliver m payload) at = ne_eqb m.sender i (sound.others (record { member = i; index = a }) m (record { payload = payload; stands = at }))
