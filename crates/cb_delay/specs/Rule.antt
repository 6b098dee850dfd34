-- The delay rule of CBCAST (Birman, Schiper and Stephenson 1991, section 5): when a receiver may deliver a message.
use Rattle.std.specs.Prelude.{◌≡◌, ◌≢◌, ℕ, ◌+◌, ◌≤◌, Bool, nat_lt}

-- A message of this sender, stamped so, may be delivered where `now` has been delivered of each member:
-- it is the sender's next one, and nothing that its sender had delivered is missing.
pub record IsReady (sender : ℕ) (stamp now : ℕ → ℕ) : Type 0 where
  pub next : stamp sender ≡ now sender + 1
  pub others : (k : ℕ) → k ≢ sender → stamp k ≤ now k

-- the stamp counts more of member k than was delivered
abbrev pub is_above : (ℕ → ℕ) → (ℕ → ℕ) → ℕ → Bool
is_above stamp now k = nat_lt (now k) (stamp k)
