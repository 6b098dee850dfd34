use Rattle.std.proofs.Common.{refl}
use Rattle.std.proofs.lemmas.Grind.{put_three}
use Rattle.cb_times.proofs.Text.{text_of-fields}
use Rattle.cb_times.proofs.time.VectorTimeDisplay.fmt.Goals as goal

pub returns-clause-writes : goal.returns-clause-writes
returns-clause-writes g c plain ok =
    let head = c.in_ok-write.ensures.writes plain refl in
    let middle = c.loop-field.invariant head.plain in
    let tail = c.write-2.ensures.writes middle.plain ok in
    put_three _ _ _ _ _ _ _ _ _ head middle tail
    (text_of-fields _ _ _ _ (rw (← c.self.view_is, ← c.as_slice.ensures) c.in-Some.ensures.cases.0) c.loop-field-test.false)
