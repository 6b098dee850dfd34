-- Counts of failures, which stay at their greatest value.
use Rattle.std.specs.Prelude.{◌≡◌, ◌⊎◌, ℕ, ◌+◌, ◌<◌, ◌≤◌, min}
use Rattle.cb_links.specs.declared.link.LinkFault.{LinkFault}
use Rattle.cb_links.specs.declared.link.LinkFault.TheVariants as faults

-- the greatest value of a count
abbrev pub greatest : ℕ
greatest = 18446744073709551615

-- a count of so many
abbrev pub held : ℕ → ℕ
held n = min n greatest

-- a failure was counted, or can't be
abbrev pub HasCounted : ℕ → ℕ → Type 0
HasCounted old new = (old < new) ⊎ (greatest ≤ new)

-- where a device failed, that was counted; want of memory is no failure
abbrev pub LinkCounts : LinkFault → ℕ → ℕ → Type 0
LinkCounts faults.Device old new = HasCounted old new
LinkCounts faults.NoMemory old new = new ≡ old

-- Failures that were met are at most those by which the count rose, unless it stands at its greatest value.
abbrev pub MetAtMost : ℕ → ℕ → ℕ → Type 0
MetAtMost met before after = (met + before ≤ after) ⊎ (greatest ≤ after)

-- What was met at first, and counted, stays so: whatever count it began with.
abbrev pub Counts : ℕ → ℕ → ℕ → ℕ → Type 0
Counts met counted met' counted' = (before : ℕ) → MetAtMost met before counted → MetAtMost met' before counted'
