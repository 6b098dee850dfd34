use Rattle.std.proofs.Common.{◌∷◌, ◌++◌, [], sym, ◌∙◌, arith, refl}
use Rattle.std.proofs.lemmas.List.{length_push}
use Rattle.cb_stability.proofs.Windows.{keep_last-all}
use Rattle.cb_stability.proofs.Placing.{placed-at, placed_last, begun_within}
use Rattle.cb_stability.proofs.relays.place.Goals as goal

pub returns-then-all_begin_by : goal.returns-then-all_begin_by
returns-then-all_begin_by c =
    let frames = c.args.frames.now.items in
    let frame = c.args.frame in
    rw (c.push_back.ensures.items, placed_last frame frames (sym c.all_begin_by.ensures ∙ c.if-all_begin_by.true))
    (rw (keep_last-all c.args.frames.now.capacity (frames ++ frame ∷ []) (omega (arith, length_push frames frame, c.requires.room))) refl)

pub insert-requires-clause-place : goal.insert-requires-clause-place
insert-requires-clause-place c = rw c.count_begun-place.ensures (begun_within c.args.frame.first c.args.frames.now.items)

pub returns : goal.returns
returns c = rw (c.insert.ensures, c.count_begun-place.ensures, placed-at c.args.frame c.args.frames.now.items) refl
