-- What delivered messages tell of how far every member delivered.
use Rattle.std.proofs.Common.{◌≡◌, ◌≢◌, ℕ, ◌+◌, ◌<◌, max, inl, inr, List, ◌∷◌, length, drop, get_or, sym, ap, subst, refl, ◌∙◌, arith}
use Rattle.std.proofs.lemmas.Bool.{cases_eq, eq-eqb, ne_eqb}
use Rattle.std.proofs.lemmas.List.{drop_more}
use Rattle.cb_times.specs.Order.{field}
use Rattle.cb_delay.specs.declared.message.Message.{Message}
use Rattle.cb_stability.specs.Known.{Known, Learns, LearnsTime, count}
use Rattle.cb_history.specs.Known.{greatest_of}
use Rattle.cb_delay.specs.declared.message.Event.{Event}
use Rattle.cb_delay.specs.declared.message.Event.TheVariants.{Cast, Deliver}
use Rattle.cb_member.specs.Knowledge.{delivered_by, reached_in, reported_in}

-- one message is learnt: of its sender what its time says, and of the member itself as many of the sender's as the member's time counts
pub record LearnsOne (me : ℕ) (time : List ℕ) (x : Message) (old new : Known) : Type 0 where
  pub between : Known
  pub by_time : LearnsTime old between x.name.sender x.time
  pub own : Learns between new me x.name.sender (field time x.name.sender)

-- and the others are still to come
pub others_learn : (me k i : ℕ) (time : List ℕ) (x : Message) (rest : List Message) (old new : Known) → LearnsOne me time x old new → i < old.size → k ≢ me
    → max (count new k i) (greatest_of (reported_in i rest k)) ≡ max (count old k i) (greatest_of (reported_in i (x ∷ rest) k))
others_learn me k i time x rest old new l within other =
    let after : count new k i ≡ count l.between k i = l.own.members k i other in
    elim (cases_eq k x.name.sender) [
      | inl e ↦
          let at : count l.between k i ≡ max (count old k i) (field x.time i) = subst (λ (j : ℕ). count l.between j i ≡ max (count old j i) (field x.time i)) (sym e) (l.by_time.learned i within) in
          let reported : greatest_of (reported_in i (x ∷ rest) k) ≡ max (field x.time i) (greatest_of (reported_in i rest k)) = rw (eq-eqb x.name.sender k (sym e)) refl in
          omega (arith, after, at, reported)
      | inr ne ↦
          let at : count l.between k i ≡ count old k i = l.by_time.members k i ne in
          let reported : greatest_of (reported_in i (x ∷ rest) k) ≡ greatest_of (reported_in i rest k) = rw (ne_eqb x.name.sender k (λ e. ne (sym e))) refl in
          omega (arith, after, at, reported)
    ]

pub own_learns : (me i : ℕ) (time : List ℕ) (x : Message) (rest : List Message) (old new : Known) → LearnsOne me time x old new → x.name.sender ≢ me
    → max (count new me i) (greatest_of (reached_in time rest i)) ≡ max (count old me i) (greatest_of (reached_in time (x ∷ rest) i))
own_learns me i time x rest old new l other =
    let before : count l.between me i ≡ count old me i = l.by_time.members me i (λ e. other (sym e)) in
    elim (cases_eq x.name.sender i) [
      | inl e ↦
          let at : count new me i ≡ max (count l.between me i) (field time i) = subst (λ (j : ℕ). count new me j ≡ max (count l.between me j) (field time j)) e l.own.learned in
          let reached : greatest_of (reached_in time (x ∷ rest) i) ≡ max (field time i) (greatest_of (reached_in time rest i)) = rw (eq-eqb x.name.sender i e) refl in
          omega (arith, before, at, reached)
      | inr ne ↦
          let at : count new me i ≡ count l.between me i = l.own.senders me i (λ e. ne (sym e)) in
          let reached : greatest_of (reached_in time (x ∷ rest) i) ≡ greatest_of (reached_in time rest i) = rw (ne_eqb x.name.sender i ne) refl in
          omega (arith, before, at, reached)
    ]

-- ---- the events from one on

event_and_rest : (events : List Event) (i : ℕ) (item : Event) → i < length events → item ≡ get_or events i item → drop i events ≡ item ∷ drop (i + 1) events
event_and_rest events i item lt is = drop_more events i item lt ∙ ap (λ (e : Event). e ∷ drop (i + 1) events) (sym is)

pub delivery_and_rest : (events : List Event) (i : ℕ) (item : Event) (m : Message) → i < length events → item ≡ get_or events i item → item ≡ Deliver m
    → delivered_by (drop i events) ≡ m ∷ delivered_by (drop (i + 1) events)
delivery_and_rest events i item m lt is delivers = ap delivered_by (event_and_rest events i item lt is ∙ ap (λ (e : Event). e ∷ drop (i + 1) events) delivers)

-- an own cast delivers no message
pub cast_and_rest : (events : List Event) (i : ℕ) (item : Event) (m : Message) → i < length events → item ≡ get_or events i item → item ≡ Cast m
    → delivered_by (drop i events) ≡ delivered_by (drop (i + 1) events)
cast_and_rest events i item m lt is casts = ap delivered_by (event_and_rest events i item lt is ∙ ap (λ (e : Event). e ∷ drop (i + 1) events) casts)
