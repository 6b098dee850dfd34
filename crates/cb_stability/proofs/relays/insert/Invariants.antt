use Rattle.std.proofs.Common.{◌≡◌, ◌∷◌, ◌++◌, length, take, drop}
use Rattle.cb_stability.proofs.relays.insert.Given as goal

abbrev pub invariant-loop-index : goal.invariant-loop-index
invariant-loop-index l =
    (take l.index l.frames.items ++ l.carried ∷ drop l.index l.frames.items
    ≡ take l.place l.initial.frames.items ++ l.fn.frame ∷ drop l.place l.initial.frames.items)
    × (l.frames.capacity ≡ l.initial.frames.capacity)
    × (length l.frames.items ≡ length l.initial.frames.items)
