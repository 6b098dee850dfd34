use Rattle.std.specs.Borrow.{Bor}
use Rattle.std.proofs.Common.{◌≡◌, ◌+◌, ◌++◌, ◌∙◌, List, map, ap, arith}
use Rattle.std.proofs.lemmas.List.{map-append}
use Rattle.cb_frames.specs.Fields.{CastFields}
use Rattle.cb_history.specs.Helping.{casts_at, casts_between}
use Rattle.cb_reference.specs.Messages.{cast_of}
use Rattle.cb_reference.proofs.Walks.{found_more}
use Rattle.cb_reference.proofs.handed_on.casts_upto.Goals as goal

pub loop-below-preserved : goal.loop-below-preserved
loop-below-preserved c =
    let casts = map cast_of c.args.casts.now in
    let items = map cast_of c.loop-below.found.items in
    let below = c.loop-below.below in
    let found : map cast_of c.deref.result.now ≡ casts_at casts c.args.i (below + 1) = ap (λ (cs : List (Bor CastFields)). map cast_of cs) c.deref.ensures.value ∙ c.in_ok-casts_at.ensures in
    let pushed : map cast_of c.extend_from_slice.new.self.items ≡ items ++ casts_at casts c.args.i (below + 1) =
    ap (λ (cs : List (Bor CastFields)). map cast_of cs) c.in_ok-extend_from_slice.ensures.items ∙ map-append cast_of c.loop-below.found.items c.deref.result.now
    ∙ ap (λ (cs : List CastFields). items ++ cs) found in
    found_more (casts_at casts c.args.i) 1 c.args.high below items (map cast_of c.extend_from_slice.new.self.items) (casts_between casts c.args.i 0 c.args.high) (omega arith) pushed c.loop-below.invariant
