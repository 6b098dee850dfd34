-- Frames that a sender offers.
use Rattle.std.proofs.Common.{ℕ, arith}
use Rattle.cb_threads.specs.Offers.{AddsUnsent, FailuresAreLost}

-- what failed before was lost, and so is what failed now
pub stay_lost : (count lost failures lost' failures' : ℕ) → AddsUnsent count lost failures lost' failures' → FailuresAreLost failures lost → FailuresAreLost failures' lost'
stay_lost count lost failures lost' failures' added before = omega (arith, added.2, added.3, before)
