use Rattle.std.proofs.Common.{sym, subst}
use Rattle.cb_frames.specs.Fields.{unit_fields}
use Rattle.cb_member.specs.CoreMember.{IsCore}
use Rattle.cb_member.proofs.Accepting.{is_new_alike}
use Rattle.cb_member.proofs.Alike.{alike_again}
use Rattle.cb_member.proofs.Cores.{same_core}
use Rattle.cb_member.proofs.Foreseeing.{alike_settled, can_go_settled, copies_settled}
use Rattle.cb_member.proofs.state.State.prepare_coming.Goals as goal

pub returns-clause-same : goal.returns-clause-same
returns-clause-same c =
    let old = c.args.self.now in
    let mid = c.course_of.new.self in
    let new = c.foreseen_if.new.self in
    same_core old new (alike_again old mid new c.in_ok-course.ensures.same (alike_settled mid new c.in_ok-deliveries.ensures.same))

pub returns-clause-can : goal.returns-clause-can
returns-clause-can c =
    let old = c.args.self.now in
    let mid = c.course_of.new.self in
    let new = c.foreseen_if.new.self in
    let cast = unit_fields c.args.unit in
    let only = c.in_ok-deliveries.ensures.same in
    let same = alike_again old mid new c.in_ok-course.ensures.same (alike_settled mid new only) in
    record {
      core_is = subst IsCore (sym (same_core old new same)) c.requires.core;
      bytes_are = c.requires.bytes;
      read = c.requires.read;
      frame = c.in_ok-another.ensures;
      new = is_new_alike cast old new same c.requires.new;
      can_go = can_go_settled cast c.in_ok-course.course mid new only c.in_ok-course.ensures.course;
      copies = λ want. copies_settled cast c.in_ok-course.course mid new c.in_ok-deliveries.deliveries.items (alike_settled mid new only) (c.in_ok-deliveries.ensures.copies want);
    }
