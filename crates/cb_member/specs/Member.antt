-- A member that keeps its history.
use Rattle.std.specs.Prelude.{◌≤◌}
use Rattle.cb_history.specs.Legal.{longest_history}
use Rattle.cb_history.specs.State.{MemberState}
use Rattle.cb_member.specs.Kept.{IsHistory, Kept, entries_of, seat_of}

-- the member with the entries that are kept
abbrev pub member_of : Kept → MemberState
member_of kept = record { seat = seat_of kept; limit = kept.limit; entries = entries_of kept }

-- it keeps its history, and that may be as long as a history can
pub record KeepsHistory (kept : Kept) : Type 0 where
  pub some : 1 ≤ kept.limit
  pub most : kept.limit ≤ longest_history
  pub history : IsHistory kept
