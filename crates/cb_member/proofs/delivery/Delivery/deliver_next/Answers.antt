use Rattle.std.proofs.Common.{◌≡◌, ◌∙◌, ap, sym, subst, arith, rules, tests}
use Rattle.std.specs.FinMap as fin
use Rattle.cb_times.specs.Order.{field}
use Rattle.cb_times.specs.Time.{IsRaised}
use Rattle.cb_delay.specs.declared.message.Message.{Message}
use Rattle.cb_delay.specs.Message.{name_cmp}
use Rattle.cb_delay.specs.Queue.{IsHeld}
use Rattle.cb_member.specs.declared.delivery.Delivery.{Delivery}
use Rattle.cb_member.proofs.Putting.{counts_it}
use Rattle.cb_member.proofs.Waiting.{time_fits, none_next, takes_next, first_is_next, first_is_on_turn, next_then_settled}
use Rattle.cb_member.proofs.delivery.Delivery.deliver_next.Goals as goal

pub next_ready-requires : goal.next_ready-requires
next_ready-requires c = time_fits c.args.self.now c.requires

pub returns-in_err-sender-clause-none : goal.returns-in_err-sender-clause-none
returns-in_err-sender-clause-none c = rw c.from_residual.ensures (none_next c.args.self.now c.next_ready.new.self c.in_err-sender.ensures.same c.in_err-sender.ensures.none)

pub add_one-requires-clause-member : goal.add_one-requires-clause-member
add_one-requires-clause-member c =
    (first_is_on_turn c.args.self.now c.next_ready.new.self c.in_ok-sender.sender c.in_ok-message.message c.in_ok-sender.ensures.same c.in_ok-message.ensures.first c.requires c.in_ok-sender.ensures.some).member

pub add_one-requires-clause-room : goal.add_one-requires-clause-room
add_one-requires-clause-room c =
    let turn = first_is_on_turn c.args.self.now c.next_ready.new.self c.in_ok-sender.sender c.in_ok-message.message c.in_ok-sender.ensures.same c.in_ok-message.ensures.first c.requires c.in_ok-sender.ensures.some in
    let next = turn.ready.next in
    let first = c.in_ok-message.ensures.first in
    let held : IsHeld c.args.self.now.queue c.in_ok-message.message = ap (λ (held : fin.FinMap name_cmp Message). fin.get held c.in_ok-message.message.name) (sym c.in_ok-sender.ensures.same.now_held) ∙ first.held in
    let own : field c.in_ok-message.message.time c.in_ok-sender.sender ≡ c.in_ok-message.message.name.number =
    ap (field c.in_ok-message.message.time) (sym first.of_sender) ∙ (c.in_ok-sender.ensures.queue.of_group c.in_ok-message.message held).own in
    search (rules, tests)

pub tell_queue-requires : goal.tell_queue-requires
tell_queue-requires c =
    let turn = first_is_on_turn c.args.self.now c.next_ready.new.self c.in_ok-sender.sender c.in_ok-message.message c.in_ok-sender.ensures.same c.in_ok-message.ensures.first c.requires c.in_ok-sender.ensures.some in
    omega (arith, turn.member, time_fits c.args.self.now c.requires, c.in_ok-sender.ensures.same.size, c.in_ok-message.ensures.taken.size)

pub returns-clause-some : goal.returns-clause-some
returns-clause-some c =
    let turn = first_is_on_turn c.args.self.now c.next_ready.new.self c.in_ok-sender.sender c.in_ok-message.message c.in_ok-sender.ensures.same c.in_ok-message.ensures.first c.requires c.in_ok-sender.ensures.some in
    let mid : Delivery = record { time = c.add_one.new.self; queue = c.release.new.self } in
    next_then_settled c.args.self.now mid c.tell_queue.new.self c.in_ok-message.message (takes_next c.args.self.now c.in_ok-sender.sender c.in_ok-message.message mid (record {
      between = c.next_ready.new.self;
      same = c.in_ok-sender.ensures.same;
      smallest = c.in_ok-sender.ensures.some;
      held = c.in_ok-message.ensures.first.held;
      next = first_is_next c.args.self.now c.next_ready.new.self c.in_ok-sender.sender c.in_ok-message.message c.in_ok-sender.ensures.same c.in_ok-message.ensures.first;
      taken = c.in_ok-message.ensures.taken;
      raised = subst (IsRaised c.args.self.now.time c.in_ok-message.message.time) (sym c.add_one.ensures)
          (counts_it c.args.self.now.time c.in_ok-message.message.time c.in_ok-sender.sender turn.member turn.fits turn.ready);
    })) c.tell_queue.ensures
