use Rattle.std.proofs.Common.{ℕ, ◌∙◌, List, sym, subst, true≢false}
use Rattle.cb_times.specs.Order.{field}
use Rattle.cb_frames.specs.Fields.{cast_fields}
use Rattle.cb_delay.specs.Rule.{IsReady}
use Rattle.cb_member.specs.State.{IsAlike}
use Rattle.cb_member.proofs.Alike.{alike_itself, none_ready_alike, with_settled}
use Rattle.cb_member.proofs.Courses.{has_time_alike, leads_on, time_fits_queue}
use Rattle.cb_member.proofs.state.State.course_with_others.Goals as goal
use Rattle.cb_member.proofs.state.State.course_with_others.Goals.{else-not-is_ready-via-then-not-is_ready+else-has_none_ready, else-not-is_ready-via-else-not-is_ready}

pub has_none_ready-requires : goal.has_none_ready-requires
has_none_ready-requires c = time_fits_queue (cast_fields c.args.cast.now) c.args.self.now c.requires.time.can

pub returns-then-has_none_ready-clause-course : goal.returns-then-has_none_ready-clause-course
returns-then-has_none_ready-clause-course c =
    let same = c.has_none_ready.ensures.same in
    record {
      has_time = has_time_alike (cast_fields c.args.cast.now) c.args.time c.args.self.now _ (with_settled c.args.self.now c.has_none_ready.new.self same) c.requires.time;
      not_ready = λ ready. true≢false (sym (c.requires.ready.1 (subst (λ (now : List ℕ). IsReady c.args.cast.now.sender (field c.args.time) (field now)) same.time ready)) ∙ c.if-not-is_ready.true);
      none_ready = none_ready_alike c.args.self.now.delivery c.has_none_ready.new.self same (c.has_none_ready.ensures.none c.if-has_none_ready.true);
    }

pub returns-clause-course : goal.returns-clause-course
returns-clause-course c =
    let cast = cast_fields c.args.cast.now in
    let state = c.args.self.now in
    elim c.else-not-is_ready.branch [
      | else-not-is_ready-via-then-not-is_ready+else-has_none_ready w ↦
          leads_on cast c.args.time state _ c.in_ok-most.most c.requires.time
          (subst (IsAlike state) (sym w.self-is) (with_settled state w.has_none_ready.new.self w.has_none_ready.ensures.same)) c.in_ok-most.ensures
      | else-not-is_ready-via-else-not-is_ready w ↦
          leads_on cast c.args.time state _ c.in_ok-most.most c.requires.time (subst (IsAlike state) (sym w.self-is) (alike_itself state)) c.in_ok-most.ensures
    ]
