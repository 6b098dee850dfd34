use Rattle.std.proofs.Common.{[], refl}
use Rattle.cb_frames.specs.Reading.{pairs_at}
use Rattle.cb_frames.proofs.pairs.all_changes.Goals as goal

pub returns-then-count-eq0 : goal.returns-then-count-eq0
unfolding pairs_at
returns-then-count-eq0 c = (([], c.args.bytes.now), rw c.if-count-eq0.true refl, (c.new.ensures.items, refl))
