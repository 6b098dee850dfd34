-- Calls of a device, of which one fails.
use Rattle.std.specs.Prelude.{ℕ, ◌+◌, Bool, ◌==◌, if◌then◌else◌}
use Rattle.cb_links.specs.declared.failing.Calls.{Calls}
use Rattle.cb_links.specs.Counts.{held}

-- none was made
abbrev pub begun_at : ℕ → Calls
begun_at at = record { at = at; made = 0; failed = 0 }

-- the number of the next one, counted from 1, which stays at its greatest value
abbrev pub next_call : Calls → ℕ
next_call calls = held (calls.made + 1)

-- that one fails
abbrev pub next_fails : Calls → Bool
next_fails calls = next_call calls == calls.at

-- with it; where it fails, that is counted
abbrev pub and_call : Calls → Calls
and_call calls = record { at = calls.at; made = next_call calls; failed = if next_fails calls then held (calls.failed + 1) else calls.failed }

-- those of a device that counted so many failures itself, and of the calls that failed
abbrev pub failures_of : ℕ → Calls → ℕ
failures_of inner calls = held (inner + calls.failed)
