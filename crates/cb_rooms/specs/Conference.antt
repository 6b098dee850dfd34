-- What a conference is to its callers: how many lines its screen has, and the lines that it holds.
use Rattle.std.specs.Prelude.{ℕ, List, ◌≤◌}
use Rattle.cb_rooms.specs.declared.conference.TheConstants.{LONGEST_SCREEN}
use Rattle.cb_rooms.specs.View.{ViewLine}

pub record Held : Type 0 where
  pub screen : ℕ
  pub lines : List ViewLine

abbrev pub held : ℕ → List ViewLine → Held
held screen lines = record { screen = screen; lines = lines }

-- a screen can have so many lines
abbrev pub IsScreen : ℕ → Type 0
IsScreen last = (1 ≤ last) × (last ≤ LONGEST_SCREEN)
