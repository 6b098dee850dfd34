use Rattle.std.proofs.Common.{ℕ, length, subst, arith}
use Rattle.cb_frames.specs.Fields.{unit_fields}
use Rattle.cb_member.specs.Reception.{HasPlaceFor}
use Rattle.cb_member.specs.Singles.{times_in}
use Rattle.cb_member.proofs.Alike.{can_follow_alike, with_room}
use Rattle.cb_member.proofs.Courses.{has_stack, holds_so_many}
use Rattle.cb_member.proofs.TakingIn.{has_numbers}
use Rattle.cb_member.proofs.state.State.letting_go.Goals as goal

pub reserve-requires : goal.reserve-requires
reserve-requires c =
    let of = c.sender.ensures in
    omega (arith, of, has_stack (unit_fields c.args.unit.now) c.args.self.now c.requires.can)

pub would_expand-more-requires-clause-numbered : goal.would_expand-more-requires-clause-numbered
would_expand-more-requires-clause-numbered c = has_numbers (unit_fields c.args.unit.now) c.args.self.now c.requires.can

pub returns-clause-course : goal.returns-clause-course
returns-clause-course c =
    let cast = unit_fields c.args.unit.now in (
      record {
        can = can_follow_alike cast c.args.self.now _ (with_room c.args.self.now c.reserve.new.self c.reserve.ensures.same) c.requires.can;
        spares_are = c.requires.spares_are;
        place = subst (λ (i : ℕ). HasPlaceFor i (length (times_in c.args.spares)) c.reserve.new.self) c.sender.ensures (subst (λ (n : ℕ). HasPlaceFor c.sender.result n c.reserve.new.self) c.len.ensures c.in_ok-reserve.ensures.place);
      },
      holds_so_many cast _ c.would_expand-more.result c.in_ok-most.most c.would_expand-more.ensures c.in_ok-most.ensures,
    )
