use Rattle.std.proofs.Common.{sym, subst, List}
use Rattle.cb_frames.specs.Fields.{CastFields, cast_fields}
use Rattle.cb_history.specs.BufferLaws.{AreKept}
use Rattle.cb_member.specs.Singles.{CanKeepInTurn, left_in}
use Rattle.cb_member.proofs.Receiving.{can_keep_on, first_is_kept}
use Rattle.cb_member.proofs.TakenApart.{have_numbers}
use Rattle.cb_member.proofs.singles.Singles.keep_in.Goals as goal

pub next-requires : goal.next-requires
next-requires c = have_numbers c.args.delivered c.singles.left c.singles.buffer c.singles.invariant.can

pub singles-preserved : goal.singles-preserved
singles-preserved c =
    let single = cast_fields c.in-Some.single in
    let rest = left_in c.next.new.self in
    let was = c.singles.buffer in
    let can = subst (λ (left : List CastFields). CanKeepInTurn c.args.delivered left was) c.in-Some.ensures.some c.singles.invariant.can in
    let kept = first_is_kept c.args.delivered single rest was c.keep-kept.new.self c.keep-kept.result can c.keep-kept.ensures.answer c.keep-kept.ensures.after in
    record {
      can = can_keep_on c.args.delivered single rest was c.keep-kept.new.self can kept;
      all_then = λ after others. c.singles.invariant.all_then after
          (subst (λ (left : List CastFields). AreKept was left after) (sym c.in-Some.ensures.some) (c.keep-kept.new.self, kept, others));
    }
