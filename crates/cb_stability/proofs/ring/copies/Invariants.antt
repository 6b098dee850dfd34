use Rattle.std.proofs.Common.{◌≡◌, ◌++◌}
use Rattle.cb_stability.proofs.ring.copies.Given as goal

-- the copies so far, and the frames to come, are all of them
abbrev pub invariant-loop-frame : goal.invariant-loop-frame
invariant-loop-frame l = record { so_far : l.copies.items ++ l.frame-iterator ≡ l.frames.items; places : l.copies.capacity ≡ l.frames.capacity }
