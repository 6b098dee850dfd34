use Rattle.std.proofs.Common.{map, take}
use Rattle.cb_world.specs.Outcomes.{sent_fields}
use Rattle.cb_trace.specs.Search.{FindsFirstFrames, found_in}
use Rattle.cb_trace.proofs.joining.note.Given as goal

-- the frames so far are found
abbrev pub invariant-loop-number : goal.invariant-loop-number
invariant-loop-number l = FindsFirstFrames (map sent_fields (take l.number l.frames)) (found_in l.first_frames)
