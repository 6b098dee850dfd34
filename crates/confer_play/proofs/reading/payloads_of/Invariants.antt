use Rattle.std.proofs.Common.{map, take}
use Rattle.confer_play.specs.ScriptText.{ArePayloadWords}
use Rattle.confer_play.proofs.reading.payloads_of.Given as goal

-- the words read so far
abbrev pub invariant-loop-word : goal.invariant-loop-word
invariant-loop-word l = ArePayloadWords (map (λ word. word.now) (take l.word-index l.words)) l.payloads.items
