use Rattle.std.proofs.Common.{map, take}
use Rattle.confer_play.specs.Playing.{order_of}
use Rattle.confer_play.specs.ScriptText.{EachOrders}
use Rattle.confer_play.proofs.reading.steps_of.Given as goal

-- the lines read so far
abbrev pub invariant-loop-line : goal.invariant-loop-line
invariant-loop-line l = EachOrders (map (λ line. line.now) (take l.line-index l.lines)) (map order_of l.steps.items)
