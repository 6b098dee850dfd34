use Rattle.std.proofs.Common.{◌≡◌, ◌∙◌, length, arith, sym}
use Rattle.std.specs.FinMap as fin
use Rattle.cb_frames.specs.Fields.{burst_fields}
use Rattle.cb_member.proofs.BurstGoing.{goes_as_whole, next_burst}
use Rattle.cb_member.proofs.Courses.{expander_long, time_is_long}
use Rattle.cb_member.proofs.TakingIn.{has_numbers, sender_is_counted}
use Rattle.cb_member.proofs.state.State.course_of_burst.Goals as goal

pub burst_ahead-requires : goal.burst_ahead-requires
burst_ahead-requires c = record { next = next_burst (burst_fields c.args.burst.now) c.args.self.now c.requires (c.is_next_burst.ensures c.if-not-is_next_burst.false) }

pub is_ready-requires-clause-sender : goal.is_ready-requires-clause-sender
is_ready-requires-clause-sender c = sender_is_counted (burst_fields c.args.burst.now) c.args.self.now c.requires

pub is_ready-requires-clause-time : goal.is_ready-requires-clause-time
is_ready-requires-clause-time c =
    let burst = burst_fields c.args.burst.now in
    c.in_ok-time.ensures.size ∙ expander_long burst c.args.self.now c.requires ∙ sym (time_is_long burst c.args.self.now c.requires)

pub deliveries_of-requires-clause-numbered : goal.deliveries_of-requires-clause-numbered
deliveries_of-requires-clause-numbered c = has_numbers (burst_fields c.args.burst.now) c.args.self.now c.requires

pub deliveries_of-requires-clause-member : goal.deliveries_of-requires-clause-member
deliveries_of-requires-clause-member c =
    let burst = burst_fields c.args.burst.now in
    let long : length c.in_ok-time.time ≡ length c.args.self.now.delivery.time =
    c.in_ok-time.ensures.size ∙ expander_long burst c.args.self.now c.requires ∙ sym (time_is_long burst c.args.self.now c.requires) in
    omega (arith, long, sender_is_counted burst c.args.self.now c.requires)

pub returns : goal.returns
returns c =
    let none : fin.len c.args.self.now.delivery.queue.held ≡ 0 = omega (arith, c.len.ensures.len, c.if-len-gt0.false) in
    goes_as_whole c.args.burst.now c.in_ok-time.time c.in_ok-deliveries.deliveries.items c.args.self.now c.requires (c.is_next_burst.ensures c.if-not-is_next_burst.false) none
    c.in_ok-time.ensures.time
    (c.is_ready.ensures.0 c.if-not-is_ready.false) c.in_ok-deliveries.ensures
