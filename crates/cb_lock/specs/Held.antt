-- What a lock keeps.
use Rattle.std.specs.Prelude.{◌≡◌, ℕ, length}
use Rattle.cb_history.specs.State.{MemberState, IsMemberState}

-- a member with a legal history, whose length is the account of the book
pub record IsHeld (m : MemberState) (total : ℕ) : Type 0 where
  pub legal : IsMemberState m
  pub counted : length m.entries ≡ total
