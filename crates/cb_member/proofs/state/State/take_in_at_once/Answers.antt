use Rattle.std.proofs.Common.{ℕ, subst}
use Rattle.cb_frames.specs.Fields.{cast_fields}
use Rattle.cb_frames.proofs.Carried.{cast_ends}
use Rattle.cb_member.specs.Taking.{Hears}
use Rattle.cb_member.proofs.Going.{has_its_turn, is_held, is_taken_in}
use Rattle.cb_member.proofs.state.State.take_in_at_once.Goals as goal

pub hold_next-requires : goal.hold_next-requires
hold_next-requires c = has_its_turn (cast_fields c.args.cast) c.args.time c.args.self.now c.requires c.take_in_order-message.new.self c.hear.new.self c.take_in_order-message.result
    c.take_in_order-message.ensures.takes c.take_in_order-message.ensures.message (subst (λ (n : ℕ). Hears c.args.cast.sender n c.args.self.now.knowledge c.hear.new.self) (cast_ends c.args.cast) c.hear.ensures)

pub returns-clause-takes : goal.returns-clause-takes
returns-clause-takes c = is_taken_in (cast_fields c.args.cast) c.args.time c.args.self.now c.requires c.take_in_order-message.new.self c.hear.new.self c.take_in_order-message.result
    c.take_in_order-message.ensures.takes c.take_in_order-message.ensures.message (subst (λ (n : ℕ). Hears c.args.cast.sender n c.args.self.now.knowledge c.hear.new.self) (cast_ends c.args.cast) c.hear.ensures)
    c.hold_next.new.queue c.hold_next.ensures.queue c.hold_next.ensures.held c.raise.new.self c.raise.ensures

pub returns-clause-holds : goal.returns-clause-holds
returns-clause-holds c = is_held (cast_fields c.args.cast) c.args.time c.args.self.now c.requires c.take_in_order-message.new.self c.hear.new.self c.take_in_order-message.result
    c.take_in_order-message.ensures.takes c.take_in_order-message.ensures.message (subst (λ (n : ℕ). Hears c.args.cast.sender n c.args.self.now.knowledge c.hear.new.self) (cast_ends c.args.cast) c.hear.ensures)
    c.hold_next.new.queue c.hold_next.ensures.queue c.hold_next.ensures.held c.raise.new.self c.raise.ensures
