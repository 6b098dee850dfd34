-- When the next tick is due, in nanoseconds.
use Rattle.std.specs.Prelude.{ℕ, ◌+◌, ◌-◌, ◌%◌, ◌^◌, Bool, ◌||◌, ◌==◌, nat_le, min, Option, Some, None, if◌then◌else◌}
use Rattle.std.specs.Duration.{as_nanos}
use Rattle.std.specs.declared.time.Duration.{Duration}
use Rattle.cb_node.specs.declared.bounds.Bounds.{Bounds}
use Rattle.cb_node.specs.declared.pace.Pacing.{Pacing}
use Rattle.cb_node.specs.Bounds.{time_after}

-- no tick was made
abbrev pub none_made : Bounds → Pacing
none_made bounds = record { bounds = bounds; ticks = 0; last = None; entries = 0; idle = 0 }

-- the time between two ticks of a member with this many entries: the quick one, where something was entered since the last one
abbrev pub time_between : Pacing → ℕ → ℕ
time_between p entries = time_after (as_nanos p.bounds.quick) (as_nanos p.bounds.slow) (if p.entries == entries then p.idle else 0)

-- What is left of this time, which began with the last tick. Nothing before the first tick, and where the clock can't be read.
abbrev pub rest_of : Option Duration → Option Duration → ℕ → ℕ
rest_of (Some last) (Some now) time = time - (as_nanos now - as_nanos last)
rest_of (Some last) None time = 0
rest_of None now time = 0

-- how many ticks in a row brought no news, with one more tick; the count stays at its greatest value
abbrev pub idle_with : Pacing → ℕ → ℕ
idle_with p entries = if p.entries == entries then min (p.idle + 1) 4_294_967_295 else 0

-- with one more tick, after which there are this many entries
abbrev pub with_tick : Pacing → ℕ → Pacing
with_tick p entries = record p { ticks = (p.ticks + 1) % 2 ^ 64; entries = entries; idle = idle_with p entries }

-- After which ticks third members are asked: each fourth one, and, of those in a row that brought no news, the fourth and each later one.
abbrev pub asks_thirds : Pacing → Bool
asks_thirds p = (p.ticks % 4 == 0) || nat_le 4 p.idle
