-- What a worker takes, offers and loses of the frames that are to be sent.
use Rattle.std.specs.Prelude.{◌≡◌, ℕ, ◌+◌, ◌≤◌, length, Option, Some, None}
use Rattle.std.specs.declared.vec.Vec.{Vec}
use Rattle.std.specs.declared.alloc.Global.{Global}
use Rattle.cb_history.specs.declared.answer.Outgoing.{Outgoing}
use Rattle.cb_links.specs.declared.link.Unsent.{Unsent}
use Rattle.cb_links.specs.Counts.{held}
use Rattle.cb_links.specs.Offers.{lost_of}

-- each frame at which the device failed is among those that were lost
abbrev pub FailuresAreLost : ℕ → ℕ → Type 0
FailuresAreLost failures lost = failures ≤ lost

-- what was received of offering so many frames was added to what a sender has lost, and to its failures
abbrev pub AddsUnsent : ℕ → ℕ → ℕ → ℕ → ℕ → Type 0
AddsUnsent count lost failures lost' failures' = (u : Unsent) × (u.offered ≡ held count) × (lost' ≡ held (lost + lost_of u)) × (failures' ≡ held (failures + u.failures))

-- how many frames were taken, with those of the next list where there is one
abbrev pub taken_with : ℕ → Option (Vec Outgoing Global) → ℕ
taken_with taken (Some frames) = held (taken + length frames.items)
taken_with taken None = taken
