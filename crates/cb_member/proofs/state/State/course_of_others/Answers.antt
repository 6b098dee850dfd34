use Rattle.std.proofs.Common.{◌≡◌, ◌∙◌, ℕ, length, ap, arith, subst}
use Rattle.cb_frames.specs.Fields.{unit_fields, first_number, last_number}
use Rattle.cb_history.specs.Group.{Parameters}
use Rattle.cb_member.specs.Reception.{HasPlaceFor}
use Rattle.cb_member.specs.Singles.{AreSparesFor, times_in}
use Rattle.cb_member.specs.Taking.{WouldExpand}
use Rattle.cb_member.proofs.Alike.{can_follow_alike, none_ready_alike, with_both, would_expand_alike}
use Rattle.cb_member.proofs.Courses.{has_stack, time_fits_queue}
use Rattle.cb_member.proofs.TakingIn.{has_numbers}
use Rattle.cb_member.proofs.state.State.course_of_others.Goals as goal

pub has_none_ready-requires : goal.has_none_ready-requires
has_none_ready-requires c = time_fits_queue (unit_fields c.args.unit.now) c.args.self.now c.requires

pub for_cast-requires-clause-some : goal.for_cast-requires-clause-some
for_cast-requires-clause-some c = (has_numbers (unit_fields c.args.unit.now) c.args.self.now c.requires).0

pub would_expand-more-requires-clause-numbered : goal.would_expand-more-requires-clause-numbered
would_expand-more-requires-clause-numbered c = has_numbers (unit_fields c.args.unit.now) c.args.self.now c.requires

pub reserve-requires : goal.reserve-requires
reserve-requires c =
    let of = c.sender.ensures in
    omega (arith, of, has_stack (unit_fields c.args.unit.now) c.args.self.now c.requires)

pub returns-then-has_none_ready-clause-course : goal.returns-then-has_none_ready-clause-course
returns-then-has_none_ready-clause-course c =
    let cast = unit_fields c.args.unit.now in
    let settled = c.has_none_ready.ensures.same in
    let roomy = c.reserve.ensures.same in
    let size : c.size.result ≡ c.args.self.now.seat.group.size = c.size.ensures.size ∙ ap (λ (g : Parameters). g.size) c.group.ensures.group in
    record {
      can = record {
        can = can_follow_alike cast c.args.self.now _ (with_both c.args.self.now c.has_none_ready.new.self c.reserve.new.self settled roomy) c.requires;
        spares_are = subst (λ (n : ℕ). AreSparesFor cast n (times_in c.in_ok-spares.spares)) size c.in_ok-spares.ensures;
        place = subst (λ (i : ℕ). HasPlaceFor i (length (times_in c.in_ok-spares.spares)) c.reserve.new.self) c.sender.ensures (subst (λ (n : ℕ). HasPlaceFor c.sender.result n c.reserve.new.self) c.len.ensures c.in_ok-reserve.ensures.place);
      };
      expands_none = would_expand_alike (unit_fields c.args.unit.now).sender (first_number cast) (last_number cast) 0 c.args.self.now.reception c.reserve.new.self roomy
          (subst (WouldExpand (unit_fields c.args.unit.now).sender (first_number cast) (last_number cast) c.args.self.now.reception) c.if-more-eq0.true c.would_expand-more.ensures);
      none_ready = none_ready_alike c.args.self.now.delivery c.has_none_ready.new.self settled (c.has_none_ready.ensures.none c.if-has_none_ready.true);
    }
