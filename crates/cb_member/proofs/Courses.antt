-- What is known of a cast that may follow, and comes in order.
use Rattle.std.proofs.Common.{◌≡◌, ℕ, ◌+◌, ◌<◌, List, length, None, Some, refl, sym, ap, subst, ◌∙◌, arith, inl, inr}
use Rattle.std.specs.FinMap as fin
use Rattle.std.proofs.lemmas.List.{length-map}
use Rattle.cb_frames.specs.Fields.{CastFields, first_number, last_number}
use Rattle.cb_frames.proofs.Carried.{last_is_first}
use Rattle.cb_diffs.specs.Expansion.{IsGrown, IsNext, time_of}
use Rattle.cb_gaps.specs.Buffer.{Buffer, IsInOrder as ComesNext, WouldComeOut}
use Rattle.cb_gaps.proofs.Passing.{is_not_kept}
use Rattle.cb_history.specs.Group.{Identity}
use Rattle.cb_history.specs.Singles.{IsSingle}
use Rattle.cb_member.specs.declared.reception.Reception.{Reception}
use Rattle.cb_member.specs.declared.state.State.{State}
use Rattle.cb_member.specs.State.{IsAlike}
use Rattle.cb_member.specs.Passing.{IsInOrder}
use Rattle.cb_member.specs.Taking.{CanFollow, WouldExpand}
use Rattle.cb_member.specs.Course.{HasTime, HoldsAtMost}
use Rattle.cb_member.proofs.Alike.{can_follow_alike, in_order_alike}
use Rattle.cb_member.proofs.Passing.{in_order_is_next}
use Rattle.cb_member.proofs.Reading.{time_long}
use Rattle.cb_member.proofs.TakingIn.{of_member, of_other, would_expand}

module _ (c : CastFields) (state : State) (can : CanFollow c state) where
  pub expander_long : length state.reception.expander ≡ state.seat.group.size
  expander_long =
      (can.keeps.received.times c.sender (of_member state.seat can.facts c can.legal) (of_other state.seat can.facts c can.legal)).senders

  pub time_is_long : length state.delivery.time ≡ state.seat.group.size
  time_is_long = time_long state.seat can.facts state.delivery can.keeps.delivered

  pub time_fits_queue : length state.delivery.time ≡ state.delivery.queue.size
  time_fits_queue = time_is_long ∙ sym can.keeps.delivered.waits.queue.of_size

  pub has_stack : c.sender < length state.reception.spares.items
  has_stack = omega (arith, of_member state.seat can.facts c can.legal, stacks)
    where
      stacks : length state.reception.spares.items ≡ state.seat.group.size
      stacks = sym (length-map state.reception.spares.items (λ times. times.items)) ∙ can.keeps.received.stacks

  -- its sender's next one, where it carries one message and comes in order
  pub is_next : IsSingle c → IsInOrder c.sender (first_number c) state.reception → IsNext state.reception.expander c
  is_next single in_order = in_order_is_next c state.reception
      (record { seat = state.seat; facts = can.facts; delivered = _; single = single; legal = can.legal; received = can.keeps.received; can_keep = can.can_keep; in_order = in_order })

pub has_time_alike : (c : CastFields) (time : List ℕ) (old new : State) → IsAlike old new → HasTime c time old → HasTime c time new
has_time_alike c time old new same has = record {
  can = can_follow_alike c old new same has.can;
  single = has.single;
  in_order = in_order_alike c.sender (first_number c) old.reception new.reception same.reception has.in_order;
  grown = subst (λ (expander : List (List ℕ)). IsGrown (time_of expander c.sender) c time) (sym same.reception.expander) has.grown;
  size = has.size ∙ ap (λ (seat : Identity). seat.group.size) (sym same.seat);
}

pub has_its_time : (c : CastFields) (time : List ℕ) (state : State) → CanFollow c state → IsSingle c → IsInOrder c.sender (first_number c) state.reception → IsGrown (time_of state.reception.expander c.sender) c time → length time ≡ length state.reception.expander
    → HasTime c time state
has_its_time c time state can single in_order grown long = record { can = can; single = single; in_order = in_order; grown = grown; size = long ∙ expander_long c state can }

-- ---- how many wait then

pub holds_so_many : (c : CastFields) (state : State) (more count : ℕ) → WouldExpand c.sender (first_number c) (last_number c) state.reception more → count ≡ fin.len state.delivery.queue.held + more
    → HoldsAtMost c state count
holds_so_many c state more count would is facts are keeps = let expands = would state.seat facts c are refl refl refl keeps.received in omega (arith, expands, is)

-- alone it comes out, and carries one message
comes_out_alone : (c : CastFields) (b : Buffer) → IsSingle c → ComesNext b (first_number c) → WouldComeOut b (first_number c) (last_number c) 1
comes_out_alone c b single comes =
    let next = comes.follows in
    let one = last_is_first c single in
    record {
      begins = omega arith;
      each = λ k low high. inr (omega (arith, next, low), omega (arith, next, one, high));
      ends = λ there. elim there [
        | inl kept ↦ let none = is_not_kept b c comes (first_number kept.cast) in absurd (let no : None ≡ Some kept.cast = sym none ∙ kept.kept in cc)
        | inr it ↦ absurd (omega (arith, next, one, it.1))
      ];
    }

pub in_order_expands_one : (c : CastFields) (r : Reception) → IsSingle c → IsInOrder c.sender (first_number c) r → WouldExpand c.sender (first_number c) (last_number c) r 1
in_order_expands_one c r single is = would_expand c.sender (first_number c) (last_number c) r is.buffer 1 is.at (comes_out_alone c is.buffer single is.in_order)

pub leads_on : (c : CastFields) (time : List ℕ) (old new : State) (count : ℕ) → HasTime c time old → IsAlike old new → count ≡ fin.len new.delivery.queue.held + 1
    → HasTime c time new × HoldsAtMost c new count
leads_on c time old new count has same is =
    let then_so = has_time_alike c time old new same has in (
      then_so,
      holds_so_many c new 1 count (in_order_expands_one c new.reception has.single then_so.in_order) is,
    )
