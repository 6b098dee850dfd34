use Rattle.std.proofs.Common.{sym, subst, arith}
use Rattle.cb_frames.specs.Fields.{cast_fields}
use Rattle.cb_member.proofs.Foreseeing.{ComesOutSoFar, all_came_out, is_of_members_then, keeps_singles_of, nothing_came_out, one_more_comes_out, still_takes_out}
use Rattle.cb_member.proofs.Receiving.{one_kept_less}
use Rattle.cb_member.proofs.arrival.foreseen.come_out.Goals as goal

pub take_single-requires : goal.take_single-requires
take_single-requires c = keeps_singles_of c.singles.buffer c.singles.last c.singles.invariant.taking

pub singles-init : goal.singles-init
singles-init c = record { taking = c.requires; so_far = nothing_came_out c.args.buffer.now c.args.time c.new-messages.result.items c.new-messages.ensures.items }

pub grow_by-requires : goal.grow_by-requires
grow_by-requires c =
    is_of_members_then c.singles.buffer c.take_single.new.buffer c.singles.last c.singles.last (cast_fields c.in-Some.cast) c.in-Some.ensures.next c.in-Some.ensures.taken c.singles.invariant.taking

pub singles-preserved : goal.singles-preserved
singles-preserved c =
    let cast = cast_fields c.in-Some.cast in
    record {
      taking = still_takes_out c.singles.buffer c.take_single.new.buffer c.singles.last c.grow_by.new.time cast c.in-Some.ensures.next c.in-Some.ensures.taken c.grow_by.ensures.grown c.singles.invariant.taking;
      so_far = subst (ComesOutSoFar c.args.buffer.now c.args.time c.take_single.new.buffer c.grow_by.new.time) (sym c.in_ok-push_back.ensures.items)
          (one_more_comes_out c.singles.buffer c.take_single.new.buffer c.singles.last c.grow_by.new.time cast c.in-Some.ensures.next c.in-Some.ensures.taken c.grow_by.ensures.grown
          c.args.buffer.now c.args.time c.singles.messages.items c.in_ok-told.field-0 c.singles.invariant.so_far c.in_ok-told.ensures);
    }

pub singles-smaller : goal.singles-smaller
singles-smaller c =
    let less = one_kept_less c.singles.buffer c.take_single.new.buffer (cast_fields c.in-Some.cast) c.in-Some.ensures.next c.in-Some.ensures.taken in
    omega (arith, less)

pub returns : goal.returns
returns c = all_came_out c.args.buffer.now c.singles.buffer c.args.time c.singles.last c.singles.messages.items c.singles.invariant.so_far c.in_default.ensures.none
