-- What is answered of a number that a member has.
use Rattle.std.proofs.Common.{◌≡◌, ℕ, ◌≤◌, true, nat_lt, arith}
use Rattle.cb_handle.specs.declared.held.Held.{Held}
use Rattle.cb_handle.specs.Calling.{seat_held}
use Rattle.jolunza.specs.Calls.{OfMember}

is_not_beyond : (m size : ℕ) → nat_lt m size ≡ true → ¬ (size ≤ m)
is_not_beyond m size is = grind arith

pub of_one : (held : Held) (member : ℕ) (Shows : Held → ℕ → Type 0) (code : ℕ) → nat_lt member (seat_held held).group.size ≡ true → Shows held code → OfMember member Shows held code
of_one held member Shows code is shows = record { shows = λ _. shows; bad_member = λ beyond. absurd (is_not_beyond member (seat_held held).group.size is beyond) }
