use Rattle.std.proofs.Common.{ℕ, Option}
use Rattle.cb_frames.specs.Parts.{AreChangesBut}
use Rattle.cb_frames.proofs.PairsWritten.{change_walk, Written}
use Rattle.cb_frames.proofs.writing.put_changes.Given as goal

abbrev pub invariant-loop-change : goal.invariant-loop-change
invariant-loop-change l = (own : Option ℕ) × AreChangesBut own 0 l.changes × Written (change_walk own) 0 l.changes l.fn.out.items l.out.items l.least l.change-index
