-- The limits of groups.
use Rattle.std.specs.Prelude.{ℕ, ◌≤◌}
use Rattle.cb_times.specs.declared.group.TheConstants.{FEWEST_MEMBERS, MOST_MEMBERS, WIDEST_WINDOW}

-- a group may have so many members
pub record IsGroupSize (size : ℕ) : Type 0 where
  pub two_or_more : FEWEST_MEMBERS ≤ size
  pub at_most_sixty_four : size ≤ MOST_MEMBERS

-- and such a window
pub record IsWindow (window : ℕ) : Type 0 where
  pub one_or_more : 1 ≤ window
  pub at_most_widest : window ≤ WIDEST_WINDOW
