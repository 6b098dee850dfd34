use Rattle.std.proofs.Common.{ℕ, List, sym, subst, arith}
use Rattle.cb_times.specs.Order.{field}
use Rattle.cb_frames.specs.Fields.{cast_fields}
use Rattle.cb_delay.specs.Rule.{IsReady}
use Rattle.cb_member.specs.State.{IsAlike}
use Rattle.cb_member.proofs.Alike.{alike_itself, leaves_alike, with_settled}
use Rattle.cb_member.proofs.Courses.{has_its_time, has_time_alike, is_next, time_fits_queue}
use Rattle.cb_member.proofs.TakingIn.{sender_is_counted}
use Rattle.cb_member.proofs.state.State.course_in_order.Goals as goal
use Rattle.cb_member.proofs.state.State.course_in_order.Goals.{else-is_ready-via-then-is_ready+else-leaves_waiting, else-is_ready-via-else-is_ready}

pub time_ahead-requires : goal.time_ahead-requires
time_ahead-requires c = record { next = is_next (cast_fields c.args.cast.now) c.args.self.now c.requires.can tt c.requires.in_order }

pub is_ready_in_order-is_ready-requires : goal.is_ready_in_order-is_ready-requires
is_ready_in_order-is_ready-requires c =
    has_its_time (cast_fields c.args.cast.now) c.in_ok-time.time c.args.self.now c.requires.can tt c.requires.in_order c.in_ok-time.ensures.time c.in_ok-time.ensures.size

pub leaves_waiting-requires-clause-size : goal.leaves_waiting-requires-clause-size
leaves_waiting-requires-clause-size c = time_fits_queue (cast_fields c.args.cast.now) c.args.self.now c.requires.can

pub leaves_waiting-requires-clause-sender : goal.leaves_waiting-requires-clause-sender
leaves_waiting-requires-clause-sender c =
    let fits = time_fits_queue (cast_fields c.args.cast.now) c.args.self.now c.requires.can in
    omega (arith, sender_is_counted (cast_fields c.args.cast.now) c.args.self.now c.requires.can, fits)

pub returns-then-leaves_waiting-clause-course : goal.returns-then-leaves_waiting-clause-course
returns-then-leaves_waiting-clause-course c =
    let same = c.leaves_waiting.ensures.same in
    record {
      has_time = has_time_alike (cast_fields c.args.cast.now) c.in_ok-time.time c.args.self.now _ (with_settled c.args.self.now c.leaves_waiting.new.self same)
          (has_its_time (cast_fields c.args.cast.now) c.in_ok-time.time c.args.self.now c.requires.can tt c.requires.in_order c.in_ok-time.ensures.time c.in_ok-time.ensures.size);
      ready = subst (λ (time : List ℕ). IsReady c.args.cast.now.sender (field c.in_ok-time.time) (field time)) (sym same.time) (c.is_ready_in_order-is_ready.ensures.0 c.if-is_ready.true);
      leaves = leaves_alike c.args.cast.now.sender c.args.self.now.delivery c.leaves_waiting.new.self same (c.leaves_waiting.ensures.leaves c.if-leaves_waiting.true);
    }

pub course_with_others-requires-clause-time : goal.course_with_others-requires-clause-time
course_with_others-requires-clause-time c =
    let cast = cast_fields c.args.cast.now in
    let state = c.args.self.now in
    let has = has_its_time cast c.in_ok-time.time state c.requires.can tt c.requires.in_order c.in_ok-time.ensures.time c.in_ok-time.ensures.size in
    has_time_alike cast c.in_ok-time.time state c.else-is_ready.self (elim c.else-is_ready.branch [
      | else-is_ready-via-then-is_ready+else-leaves_waiting w ↦ subst (IsAlike state) (sym w.self-is) (with_settled state w.leaves_waiting.new.self w.leaves_waiting.ensures.same)
      | else-is_ready-via-else-is_ready w ↦ subst (IsAlike state) (sym w.self-is) (alike_itself state)
    ]) has
