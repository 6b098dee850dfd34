-- What the program looks at says whether a message may be delivered.
use Rattle.std.specs.Prelude.{slice_get}
use Rattle.std.proofs.Common.{◌≡◌, ◌≢◌, ℕ, suc, ◌+◌, ◌<◌, ◌≤◌, inl, inr, List, length, take, Some, refl, sym, ◌∙◌, ap, subst, arith, eq-eqb}
use Rattle.std.proofs.lemmas.Bool.{cases_order}
use Rattle.cb_times.specs.declared.name.Name.{Name}
use Rattle.cb_causality.specs.declared.event.CausalEvent.{CausalEvent}
use Rattle.cb_causality.specs.declared.event.CausalEvent.TheVariants.{Cast}
use Rattle.cb_causality.specs.Events.{name_of, payload_of, is_of, count, IsCastOf, Has}
use Rattle.cb_causality.specs.HappenedBefore.{Lists, Place, IsCastAt, HappenedBefore}
use Rattle.cb_causality.specs.CausalMachine.{MayDeliver}
use Rattle.cb_causality.specs.CausalGroup.{HasPastOf}
use Rattle.cb_causality.proofs.Counting.{get_take_from, count_once}
use Rattle.cb_causality.proofs.Names.{number_within, stands_within, cast_number}
use Rattle.cb_causality.proofs.Clock.{clock, counted_is_past, past_is_counted}
use Rattle.cb_causality.proofs.Runs.{IsRegular, regular_irreflexive}
use Rattle.std.proofs.lemmas.Option.{slice_get_within}

-- an event of which the receiver has the message, and which is not the cast of m
abbrev pub IsPassed : List CausalEvent → Name → CausalEvent → Type 0
IsPassed receiver m e = Has receiver (name_of e) × ¬ IsCastOf m e

-- where a message before the cast is missing, the past is not had
pub missing_in_past : (caster receiver : List CausalEvent) (m : Name) (i : ℕ) (e : CausalEvent) → slice_get caster i ≡ Some e
    → (Has receiver (name_of e) → ⊥) → (IsCastOf m e → ⊥)
    → ((k : ℕ) (x : CausalEvent) → k < i → slice_get caster k ≡ Some x → IsPassed receiver m x)
    → (payload : List ℕ) → HasPastOf caster receiver m payload → ⊥
missing_in_past caster receiver m i e at missing other passed payload h =
    elim (cases_order h.index i) [
      | inl same ↦
          let here : Some e ≡ Some (Cast m payload) = sym at ∙ ap (slice_get caster) (sym same) ∙ h.stands in
          let one : e ≡ Cast m payload = cc here in
          other (payload, one)
      | inr (inl before) ↦ (passed h.index (Cast m payload) before h.stands).1 (payload, refl)
      | inr (inr after) ↦ missing (h.past i e after at)
    ]

-- where the cast comes with all before it passed, the past is had
pub past_found : (caster receiver : List CausalEvent) (m : Name) (i : ℕ) (e : CausalEvent) → slice_get caster i ≡ Some e
    → IsCastOf m e → (Has receiver m → ⊥)
    → ((k : ℕ) (x : CausalEvent) → k < i → slice_get caster k ≡ Some x → IsPassed receiver m x) → HasPastOf caster receiver m (payload_of e)
past_found caster receiver m i e at (payload, is) unseen passed = record {
  index = i;
  stands = at ∙ ap (λ (x : CausalEvent). Some x) (is ∙ ap (λ (p : List ℕ). Cast m p) (sym (ap payload_of is)));
  unseen = unseen;
  past = λ k x less stands. (passed k x less stands).0;
}

-- where the message is not cast at all, it is not
pub never_cast : (caster receiver : List CausalEvent) (m : Name) (i : ℕ) → length caster ≤ i
    → ((k : ℕ) (x : CausalEvent) → k < i → slice_get caster k ≡ Some x → IsPassed receiver m x)
    → (payload : List ℕ) → HasPastOf caster receiver m payload → ⊥
never_cast caster receiver m i whole passed payload h =
    let less : h.index < length caster = slice_get_within caster h.index (Cast m payload) h.stands in
    let before : h.index < i = omega arith in
    (passed h.index (Cast m payload) before h.stands).1 (payload, refl)

module _ (lists : Lists) (reg : IsRegular lists) (receiver : ℕ) (m : Name) where
  -- on a run the past of a message is what stands before it in its caster's list
  pub past_is_deliverable : m.sender ≢ receiver → (payload : List ℕ) (h : HasPastOf (lists m.sender) (lists receiver) m payload) → MayDeliver lists receiver m payload
  past_is_deliverable another payload h = record {
    caster = m.sender;
    index = h.index;
    another = another;
    stands = h.stands;
    unseen = h.unseen;
    closed = closed;
  }
    where
      place : Place
      place = record { member = m.sender; index = h.index }

      cast : IsCastAt lists place m
      cast = record { payload = payload; stands = h.stands }

      closed : (earlier : Name) → HappenedBefore lists earlier m → Has (lists receiver) earlier
      closed earlier before =
          let most : earlier.number ≤ clock lists place earlier.sender = past_is_counted lists reg.sound reg.closed place m earlier cast before in
          let one : 1 ≤ earlier.number = cast_number lists reg.sound before.from earlier before.cast_earlier in
          let (k, e, less, stands, called) = stands_within lists reg.sound m.sender (suc h.index) earlier.sender earlier.number one most in
          elim (cases_order k h.index) [
            | inl same ↦
                let here : Some e ≡ Some (Cast m payload) = sym stands ∙ ap (slice_get (lists m.sender)) same ∙ h.stands in
                let event : e ≡ Cast m payload = cc here in
                let itself : earlier ≡ m = sym called ∙ ap name_of event in
                absurd (regular_irreflexive lists reg m (subst (λ (x : Name). HappenedBefore lists x m) itself before))
            | inr (inl earlier_there) ↦ subst (λ (x : Name). Has (lists receiver) x) called (h.past k e earlier_there stands)
            | inr (inr later) ↦ absurd (omega arith)
          ]

  -- what may be delivered is cast by its sender
  pub deliverable_sender : (payload : List ℕ) (may : MayDeliver lists receiver m payload) → m.sender ≡ may.caster
  deliverable_sender payload may = reg.sound.casters (record { member = may.caster; index = may.index }) m (record { payload = payload; stands = may.stands })

  -- and the other way round
  pub deliverable_has_past : (payload : List ℕ) → MayDeliver lists receiver m payload → HasPastOf (lists m.sender) (lists receiver) m payload
  deliverable_has_past payload may = record {
    index = may.index;
    stands = at_sender;
    unseen = may.unseen;
    past = past;
  }
    where
      at_sender : slice_get (lists m.sender) may.index ≡ Some (Cast m payload)
      at_sender = subst (λ (k : ℕ). slice_get (lists k) may.index ≡ Some (Cast m payload)) (sym (deliverable_sender payload may)) may.stands

      place : Place
      place = record { member = m.sender; index = may.index }

      cast : IsCastAt lists place m
      cast = record { payload = payload; stands = at_sender }

      past : (k : ℕ) (e : CausalEvent) → k < may.index → slice_get (lists m.sender) k ≡ Some e → Has (lists receiver) (name_of e)
      past k e less stands =
          let at_take : slice_get (take (suc may.index) (lists m.sender)) k ≡ Some e = get_take_from (lists m.sender) (suc may.index) k (omega arith) ∙ stands in
          let (one, most) = number_within lists reg.sound m.sender (suc may.index) k e at_take in
          elim (counted_is_past lists reg.sound place m cast (name_of e).sender (name_of e).number one most) [
            | inl same ↦
                let of_sender : (name_of e).sender ≡ m.sender = ap (λ (x : Name). x.sender) same in
                let number : (name_of e).number ≡ m.number = ap (λ (x : Name). x.number) same in
                let at_k : (name_of e).number ≡ count (name_of e).sender (take k (lists m.sender)) + 1 = reg.sound.in_order (record { member = m.sender; index = k }) e stands in
                let at_k' : (name_of e).number ≡ count m.sender (take k (lists m.sender)) + 1 = rw of_sender at at_k in
                let at_m : m.number ≡ count m.sender (take may.index (lists m.sender)) + 1 = reg.sound.in_order place (Cast m payload) at_sender in
                let one_place : k ≡ may.index =
                count_once (is_of m.sender) (lists m.sender) k may.index e (Cast m payload) stands at_sender
                (eq-eqb (name_of e).sender m.sender of_sender) (eq-eqb m.sender m.sender refl) (omega arith) in
                absurd (omega arith)
            | inr before ↦ may.closed (name_of e) before
          ]
