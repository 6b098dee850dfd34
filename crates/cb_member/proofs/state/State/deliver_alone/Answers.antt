use Rattle.std.proofs.Common.{ℕ, subst}
use Rattle.cb_frames.specs.Fields.{cast_fields}
use Rattle.cb_frames.proofs.Carried.{cast_ends}
use Rattle.cb_member.specs.Taking.{Hears}
use Rattle.cb_member.proofs.Going.{goes_alone, is_alone}
use Rattle.cb_member.proofs.state.State.deliver_alone.Goals as goal

pub deliver_alone-requires-clause-alone : goal.deliver_alone-requires-clause-alone
deliver_alone-requires-clause-alone c = is_alone (cast_fields c.args.cast) c.args.time c.args.self.now c.requires.alone c.take_in_order-message.new.self c.hear.new.self c.take_in_order-message.result
    c.take_in_order-message.ensures.takes c.take_in_order-message.ensures.message (subst (λ (n : ℕ). Hears c.args.cast.sender n c.args.self.now.knowledge c.hear.new.self) (cast_ends c.args.cast) c.hear.ensures)

pub returns-clause-takes : goal.returns-clause-takes
returns-clause-takes c = goes_alone (cast_fields c.args.cast) c.args.time c.args.self.now c.requires.alone c.take_in_order-message.new.self c.hear.new.self c.take_in_order-message.result
    c.take_in_order-message.ensures.takes c.take_in_order-message.ensures.message (subst (λ (n : ℕ). Hears c.args.cast.sender n c.args.self.now.knowledge c.hear.new.self) (cast_ends c.args.cast) c.hear.ensures)
    c.deliver_alone.new.self c.args.events.now.items c.deliver_alone.new.events.items c.deliver_alone.ensures.delivers
