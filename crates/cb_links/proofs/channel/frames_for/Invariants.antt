use Rattle.std.proofs.Common.{◌≡◌, ◌++◌, drop}
use Rattle.cb_links.specs.Offers.{bytes_for}
use Rattle.cb_links.proofs.channel.frames_for.Given as goal

-- with those of the frames to come they are all
abbrev pub invariant-loop-frame : goal.invariant-loop-frame
invariant-loop-frame l = l.all.items ++ bytes_for l.member (drop l.frame-index l.frames) ≡ bytes_for l.member l.frames
