use Rattle.std.proofs.Common.{◌≡◌, ◌+◌, length, drop}
use Rattle.cb_links.specs.Counts.{held}
use Rattle.cb_node.specs.Desk.{frames_in}
use Rattle.cb_node.proofs.ends.Ends.send.Given as goal

-- what is counted, and what is left to be sent, is all
abbrev pub invariant-loop-frames : goal.invariant-loop-frames
invariant-loop-frames g l =
    held (l.self.counts.offered + length (frames_in (drop l.frames-index l.post)))
    ≡ held (l.fn.self.counts.offered + length (frames_in l.post))
