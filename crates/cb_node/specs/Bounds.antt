-- Which times between two ticks are good, and how they grow, in nanoseconds.
use Rattle.std.specs.Prelude.{ℕ, ◌*◌, ◌^◌, ◌≤◌, min}

-- from a millisecond to an hour, and the quick one is the shorter one
abbrev pub AreBounds : ℕ → ℕ → Type 0
AreBounds quick slow = (1_000_000 ≤ quick) × (quick ≤ slow) × (slow ≤ 3_600_000_000_000)

-- The time to the next tick after this many in a row that brought no news: the quick one, twice as long for each of them, and never longer
-- than the slow one.
abbrev pub time_after : ℕ → ℕ → ℕ → ℕ
time_after quick slow idle = min (quick * 2 ^ idle) slow
