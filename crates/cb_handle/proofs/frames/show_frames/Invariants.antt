use Rattle.cb_handle.proofs.Showing.{FramesShown}
use Rattle.cb_handle.proofs.frames.show_frames.Given as goal

-- so many frames are shown
abbrev pub invariant-loop-count : goal.invariant-loop-count
invariant-loop-count l = FramesShown l.frames l.initial.heads l.heads l.initial.bytes l.bytes l.count l.end
