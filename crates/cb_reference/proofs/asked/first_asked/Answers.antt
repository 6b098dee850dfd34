use Rattle.std.proofs.Common.{◌++◌, List, map, length, drop, take, ap, ◌∙◌, sym, arith}
use Rattle.std.specs.Borrow.{Bor}
use Rattle.std.proofs.lemmas.List.{at_drop_all}
use Rattle.cb_frames.specs.declared.frame.TheConstants.{MOST_FRAMES}
use Rattle.cb_frames.specs.Fields.{CastFields}
use Rattle.cb_history.specs.declared.answer.Outgoing.{Outgoing}
use Rattle.cb_reference.specs.Messages.{cast_of}
use Rattle.cb_reference.specs.Requests.{first_asked}
use Rattle.cb_reference.proofs.Answering.{all_asked, first_of_all, sent_full, sent_all}
use Rattle.cb_reference.proofs.asked.first_asked.Goals as goal

pub loop-cast-init : goal.loop-cast-init
loop-cast-init c =
    let casts = map cast_of c.args.casts.now in
    let ranges = c.args.ranges.now in
    record {
      few = omega (arith, ap (λ (os : List Outgoing). length os) c.new-out.ensures.items);
      first = ap (λ (os : List Outgoing). take MOST_FRAMES (os ++ all_asked c.args.requester ranges casts)) c.new-out.ensures.items ∙ first_of_all c.args.requester ranges casts;
    }

pub returns-then-len-ge-MOST_FRAMES : goal.returns-then-len-ge-MOST_FRAMES
returns-then-len-ge-MOST_FRAMES c =
    sent_full c.loop-cast.out.items
    (all_asked c.args.requester c.args.ranges.now (map cast_of (drop c.loop-cast.cast-index c.args.casts.now)))
    (first_asked c.args.requester c.args.ranges.now (map cast_of c.args.casts.now))
    (omega (arith, c.loop-cast.invariant.few, c.len.ensures)) c.loop-cast.invariant.first

pub returns : goal.returns
returns c =
    let out = c.loop-cast.out.items in
    sent_all out (first_asked c.args.requester c.args.ranges.now (map cast_of c.args.casts.now)) c.loop-cast.invariant.few
    (sym (at_drop_all (λ (cs : List (Bor CastFields)). take MOST_FRAMES (out ++ all_asked c.args.requester c.args.ranges.now (map cast_of cs))) c.args.casts.now c.loop-cast.cast-index (omega arith))
    ∙ c.loop-cast.invariant.first)
