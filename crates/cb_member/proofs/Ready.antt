-- A cast that comes in order is ready where it is its sender's next one and no field that it changes is above what is delivered.
use Rattle.std.proofs.Common.{◌≡◌, ◌≢◌, ℕ, ◌+◌, ◌<◌, ◌≤◌, ◌^◌, ◌⊎◌, cond, eqb, List, [], ◌∷◌, replicate, refl, sym, ap, subst, ◌∙◌, arith, inl, inr}
use Rattle.std.specs.Prelude.{All}
use Rattle.std.proofs.lemmas.Bool.{cases_eq, cases_lt, ne_eqb}
use Rattle.std.proofs.lemmas.List.{get_or-replicate, get_or_past}
use Rattle.std.proofs.lemmas.List.Elements.{All-head, All-tail}
use Rattle.std.proofs.lemmas.List.Sums.{sum_by-cons}
use Rattle.cb_times.specs.Order.{field}
use Rattle.cb_frames.specs.declared.frame.Change.{Change}
use Rattle.cb_frames.specs.Fields.{CastFields, Carried, first_number, growth_in}
use Rattle.cb_frames.proofs.Carried.{carries_some}
use Rattle.cb_delay.specs.Rule.{IsReady}
use Rattle.cb_diffs.specs.Expansion.{expanded_field, time_of}
use Rattle.cb_history.specs.Facts.{CastReceived, casts_in}
use Rattle.cb_history.specs.Known.{expanded_count}
use Rattle.cb_history.specs.LegalFacts.{AreFactsOf}
use Rattle.cb_history.specs.View.{count, view}
use Rattle.cb_history.proofs.Delivering.{in_field}
use Rattle.cb_history.proofs.Expanders.{new_expander_keeps_nothing}
use Rattle.cb_history.proofs.InTime.{times_are_reached}
use Rattle.cb_history.proofs.Names.{view_holds_the_first}
use Rattle.cb_history.proofs.Prefixes.{last_fact_is_a_step, prefix_of_facts_is_legal}
use Rattle.cb_history.proofs.Times.{own_field}
use Rattle.cb_member.specs.declared.state.State.{State}
use Rattle.cb_member.specs.Course.{HasTime}
use Rattle.cb_member.specs.Taking.{CanFollow}
use Rattle.cb_member.proofs.Courses.{is_next}
use Rattle.cb_member.proofs.TakingIn.{of_member, of_other}

-- a change of another member's field is reached where the field is not above
abbrev pub IsReached : ℕ → List ℕ → List ℕ → Change → Type 0
IsReached sender stamps counts d = d.field ≢ sender → field stamps d.field ≤ field counts d.field

-- a field of another member that is above, of which all changes are reached, has not changed
not_changed : (sender : ℕ) (stamps counts : List ℕ) (changes : List Change) (k : ℕ) → All (IsReached sender stamps counts) changes → k ≢ sender → (growth_in changes k ≡ 0) ⊎ (field stamps k ≤ field counts k)
not_changed sender stamps counts [] k all ne = inl refl
not_changed sender stamps counts (d ∷ changes) k all ne = elim (cases_eq d.field k) [
  | inl e ↦ inr (subst (λ (j : ℕ). field stamps j ≤ field counts j) e (All-head (IsReached sender stamps counts) d changes all (λ own. ne (sym e ∙ own))))
  | inr other ↦ elim (not_changed sender stamps counts changes k (All-tail (IsReached sender stamps counts) d changes all) ne) [
    | inl none ↦
        let here : cond (eqb d.field k) d.amount 0 ≡ 0 = rw (ne_eqb d.field k other) refl in
        let more = sum_by-cons (λ (x : Change). cond (eqb x.field k) x.amount 0) d changes in
        inl (omega (arith, here, more, none))
    | inr upto ↦ inr upto
  ]
]

module _ (c : CastFields) (state : State) (can : CanFollow c state) where
  abbrev size : ℕ
  size = state.seat.group.size

  abbrev casts : List CastFields
  casts = casts_in can.facts

  abbrev seen : List Carried
  seen = view state.seat.group.size can.facts

  abbrev taken : ℕ
  taken = expanded_count (casts_in can.facts) c.sender

  -- the time of the sender's last cast before this one
  abbrev previous : List ℕ
  previous = time_of state.reception.expander c.sender

  before : AreFactsOf state.seat can.facts
  before = prefix_of_facts_is_legal state.seat can.facts (CastReceived c ∷ []) can.legal

  pub first_is_small : first_number c < 2 ^ 32
  first_is_small =
      let step = last_fact_is_a_step state.seat can.facts (CastReceived c) can.legal in
      let upto = step.taken.numbers in
      omega (arith, upto, carries_some c step.load.some)

  member : c.sender < size
  member = of_member state.seat can.facts c can.legal

  at_previous : (k : ℕ) → k < size → field previous k ≡ expanded_field casts c.sender taken k
  at_previous k lt =
      let kept = can.keeps.received.times c.sender member (of_other state.seat can.facts c can.legal) in
      ap (λ (time : List ℕ). field time k) kept.time ∙ in_field size (expanded_field casts c.sender taken) k lt

  at_delivered : (k : ℕ) → k < size → field state.delivery.time k ≡ count seen k
  at_delivered k lt = ap (λ (time : List ℕ). field time k) can.keeps.delivered.waits.time ∙ in_field size (count seen) k lt

  -- before its first cast a sender had delivered nothing
  nothing_before : (k : ℕ) → k < size → expanded_field casts c.sender 0 k ≡ 0
  nothing_before k lt =
      let new = new_expander_keeps_nothing state.seat can.facts c.sender before member in
      sym (in_field size (expanded_field casts c.sender 0) k lt)
      ∙ ap (λ (time : List ℕ). field time k) (sym new.time)
      ∙ ap (λ (time : List ℕ). field time k) (get_or-replicate size c.sender (replicate size 0) [] member)
      ∙ get_or-replicate size k 0 0 lt

  -- where the sender's messages that are expanded are delivered, so is all that it had delivered by the last one
  reached : count seen c.sender ≡ taken → (k : ℕ) → k < size → field previous k ≤ field state.delivery.time k
  reached all k lt = elim (cases_eq taken 0) [
    | inl none ↦
        let old = at_previous k lt in
        let zero : expanded_field casts c.sender taken k ≡ 0 = ap (λ (n : ℕ). expanded_field casts c.sender n k) none ∙ nothing_before k lt in
        omega (arith, old, zero)
    | inr some ↦
        let last : Carried = record { sender = c.sender; number = taken; payload = [] } in
        let among = (view_holds_the_first state.seat can.facts last before).1 (omega (arith, some), omega (arith, all)) in
        let upto = times_are_reached state.seat can.facts last k before among lt in
        omega (arith, at_previous k lt, at_delivered k lt, upto)
  ]

module _ (c : CastFields) (time : List ℕ) (state : State) (has : HasTime c time state) where
  abbrev delivered : List ℕ
  delivered = state.delivery.time

  own_before : first_number c ≡ expanded_count (casts_in has.can.facts) c.sender + 1
  own_before =
      let next = (is_next c state has.can has.single has.in_order).next in
      let old = at_previous c state has.can c.sender (member c state has.can) in
      let own = own_field (casts_in has.can.facts) c.sender (expanded_count (casts_in has.can.facts) c.sender) in
      omega (arith, next, old, own)

  -- no other field is above, where it is the next one and its changes are reached
  others_reached : field delivered c.sender + 1 ≡ first_number c → All (IsReached c.sender time delivered) c.changes → (k : ℕ) → k ≢ c.sender → field time k ≤ field delivered k
  others_reached next all k ne = elim (cases_lt k state.seat.group.size) [
    | inl lt ↦ elim (not_changed c.sender time delivered c.changes k all ne) [
      | inl none ↦
          let counted = at_delivered c state has.can c.sender (member c state has.can) in
          let up : count (view state.seat.group.size has.can.facts) c.sender ≡ expanded_count (casts_in has.can.facts) c.sender = omega (arith, counted, next, own_before) in
          let old = reached c state has.can up k lt in
          let grown = has.grown.others k (omega (arith, lt, has.size, has.grown.size)) ne in
          omega (arith, none, old, grown)
      | inr upto ↦ upto
    ]
    | inr past ↦ let none : field time k ≡ 0 = get_or_past time k 0 (omega (arith, past, has.size)) in omega (arith, none)
  ]

  pub next_and_reached_is_ready : field delivered c.sender + 1 ≡ first_number c → All (IsReached c.sender time delivered) c.changes → IsReady c.sender (field time) (field delivered)
  next_and_reached_is_ready next all = record { next = has.grown.own ∙ sym next; others = others_reached next all }

  pub ready_is_next : IsReady c.sender (field time) (field delivered) → field delivered c.sender + 1 ≡ first_number c
  ready_is_next ready = sym ready.next ∙ has.grown.own

  pub ready_is_reached : IsReady c.sender (field time) (field delivered) → All (IsReached c.sender time delivered) c.changes
  ready_is_reached ready i d lt ne = ready.others _ ne
