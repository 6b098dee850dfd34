use Rattle.std.proofs.Common.{◌≡◌, ◌+◌, ◌++◌, drop}
use Rattle.confer_play.specs.Transcript.{frames_text}
use Rattle.confer_play.proofs.transcript.put_frames.Given as goal

-- the frames put so far, in front of those still to come
abbrev pub invariant-loop-sent : goal.invariant-loop-sent
invariant-loop-sent l = record {
  number : l.number ≡ l.first + l.sent-index;
  text : l.text.items ++ frames_text l.number (drop l.sent-index l.frames) ≡ l.fn.text.items ++ frames_text l.first l.frames;
}
