use Rattle.std.proofs.Common.{◌≡◌, ◌++◌, drop, map, flat_map}
use Rattle.confer_play.specs.Playing.{behind_bar}
use Rattle.confer_play.proofs.transcript.put_behind_bars.Given as goal

-- the lines put so far, in front of those still to come
abbrev pub invariant-loop-line : goal.invariant-loop-line
invariant-loop-line l =
    l.text.items ++ flat_map behind_bar (map (λ line. line.now) (drop l.line-index l.lines)) ≡ l.fn.text.items ++ flat_map behind_bar (map (λ line. line.now) l.lines)
