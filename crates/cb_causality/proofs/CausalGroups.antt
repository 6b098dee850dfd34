-- What the calls of a group of the causal machine leave is a run again.
use Rattle.std.specs.Prelude.{slice_get}
use Rattle.std.proofs.Common.{◌≡◌, ◌≢◌, ℕ, ◌<◌, ◌≤◌, List, [], ◌∷◌, ◌++◌, length, replicate, set, Some, sym, ◌∙◌, subst, length-set}
use Rattle.std.proofs.lemmas.List.{length-replicate}
use Rattle.cb_times.specs.declared.name.Name.{Name}
use Rattle.cb_causality.specs.declared.event.CausalEvent.{CausalEvent}
use Rattle.cb_causality.specs.declared.event.CausalEvent.TheVariants.{Cast, Deliver}
use Rattle.cb_causality.specs.CausalGroup.{IsCausal, IsDeliverable, HasPastOf}
use Rattle.cb_causality.specs.CausalMachine.{MayDeliver, Step, Casts, Delivers, Start, Then}
use Rattle.cb_causality.specs.Events.{next_name}
use Rattle.cb_times.specs.Group.{IsGroupSize}
use Rattle.cb_causality.specs.Lists.{lists_in}
use Rattle.cb_causality.proofs.Deliverable.{past_is_deliverable, deliverable_sender, deliverable_has_past}
use Rattle.cb_causality.proofs.GroupLists.{set_appends, lists_in_replicate, lists_in_past}
use Rattle.cb_causality.proofs.Runs.{IsRegular, run_regular}

-- a group in which nothing has happened is a run
pub new_causal : (n : ℕ) → IsGroupSize n → IsCausal (replicate n [])
new_causal n size = record {
  size = rw length-replicate size;
  run = Start (lists_in (replicate n [])) (λ k. lists_in_replicate n k);
}

-- a step leads from a run to a run
step_causal : (lists : List (List CausalEvent)) (i : ℕ) (es : List CausalEvent) → IsCausal lists
    → Step (length lists) (lists_in lists) (lists_in (set lists i es)) → IsCausal (set lists i es)
step_causal lists i es is step = record {
  size = rw length-set is.size;
  run = rw length-set (Then (lists_in lists) (lists_in (set lists i es)) is.run step);
}

-- a cast leads from a run to a run
pub cast_causal : (lists : List (List CausalEvent)) (i : ℕ) (payload : List ℕ) → IsCausal lists → i < length lists
    → IsCausal (set lists i (lists_in lists i ++ Cast (next_name i (lists_in lists i)) payload ∷ []))
cast_causal lists i payload is inside =
    step_causal lists i (lists_in lists i ++ Cast (next_name i (lists_in lists i)) payload ∷ []) is
    (Casts i payload inside (set_appends lists i (Cast (next_name i (lists_in lists i)) payload) inside))

module _ (lists : List (List CausalEvent)) (receiver : ℕ) (m : Name) where
  -- and so does a delivery
  pub delivery_causal : (payload : List ℕ) → receiver < length lists → IsCausal lists → MayDeliver (lists_in lists) receiver m payload
      → IsCausal (set lists receiver (lists_in lists receiver ++ Deliver m payload ∷ []))
  delivery_causal payload inside is may =
      step_causal lists receiver (lists_in lists receiver ++ Deliver m payload ∷ []) is
      (Delivers receiver m payload inside may (set_appends lists receiver (Deliver m payload) inside))

  module _ (is : IsCausal lists) where
    -- the lists stand as those of a run do
    regular : IsRegular (lists_in lists)
    regular = run_regular (length lists) (lists_in lists) is.run

    -- no member delivers its own message, nor one of a sender outside the group
    pub own_not_deliverable : m.sender ≡ receiver → IsDeliverable (lists_in lists) receiver m → ⊥
    own_not_deliverable own (payload, may) = may.another (sym (deliverable_sender (lists_in lists) regular receiver m payload may) ∙ own)

    -- nor one of a sender outside the group
    pub outside_not_deliverable : length lists ≤ m.sender → IsDeliverable (lists_in lists) receiver m → ⊥
    outside_not_deliverable outside (payload, may) =
        let past : HasPastOf (lists_in lists m.sender) (lists_in lists receiver) m payload =
        deliverable_has_past (lists_in lists) regular receiver m payload may in
        let none : slice_get [] past.index ≡ Some (Cast m payload) =
        subst (λ (es : List CausalEvent). slice_get es past.index ≡ Some (Cast m payload)) (lists_in_past lists m.sender outside) past.stands in
        cc none

    -- what the look at the two lists found, the receiver may deliver
    pub past_may_deliver : m.sender ≢ receiver → (payload : List ℕ) → HasPastOf (lists_in lists m.sender) (lists_in lists receiver) m payload
        → MayDeliver (lists_in lists) receiver m payload
    past_may_deliver another payload past = past_is_deliverable (lists_in lists) regular receiver m another payload past

    -- and where it found nothing, the receiver may not
    pub no_past_not_deliverable : ((payload : List ℕ) → HasPastOf (lists_in lists m.sender) (lists_in lists receiver) m payload → ⊥)
        → IsDeliverable (lists_in lists) receiver m → ⊥
    no_past_not_deliverable none (payload, may) = none payload (deliverable_has_past (lists_in lists) regular receiver m payload may)
