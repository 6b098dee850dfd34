use Rattle.std.proofs.Common.{◌≡◌, ◌≤◌, ◌++◌, map, length, drop, take}
use Rattle.cb_frames.specs.declared.frame.TheConstants.{MOST_FRAMES}
use Rattle.cb_reference.specs.Messages.{cast_of}
use Rattle.cb_reference.specs.Requests.{first_asked}
use Rattle.cb_reference.proofs.Answering.{all_asked}
use Rattle.cb_reference.proofs.asked.first_asked.Given as goal

-- no more than are sent at once, and with those of the other casts the first that are asked for
abbrev pub invariant-loop-cast : goal.invariant-loop-cast
invariant-loop-cast l = record {
  few : length l.out.items ≤ MOST_FRAMES;
  first : take MOST_FRAMES (l.out.items ++ all_asked l.requester l.ranges (map cast_of (drop l.cast-index l.casts))) ≡ first_asked l.requester l.ranges (map cast_of l.casts);
}
